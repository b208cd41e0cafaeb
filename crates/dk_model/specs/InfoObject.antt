-- The object of what the writer of a commit says of it (Delta Lake's PROTOCOL.md, "Commit Provenance Information").
use Rattle.std.specs.Prelude.{ℕ, ℤ, List, [], ◌∷◌, Some, option_map, codes}
use Rattle.serde_json.specs.Data.{Data}
use Rattle.dk_model.specs.declared.action.CommitInfo.{CommitInfo}
use Rattle.dk_model.specs.ActionKeys.{name_of}
use Rattle.dk_model.specs.declared.action_key.ActionKey.TheVariants as key
use Rattle.dk_model.specs.Fields.{lenient, whole, text}
use Rattle.dk_model.specs.Shown.{Field, text_data, whole_data, object_with}

-- any object is read: a field of another form counts as absent, and all others are passed over
unfoldable pub info_of : Data → CommitInfo
info_of d = record { in_commit_timestamp = lenient whole (codes "inCommitTimestamp") d; txn_id = lenient text (codes "txnId") d }

-- what was read of it
unfoldable pub info_fields : CommitInfo → List Field
info_fields i =
    (codes "inCommitTimestamp", option_map whole_data i.in_commit_timestamp)
    ∷ (codes "txnId", option_map text_data i.txn_id)
    ∷ []

-- ---- what a transaction says of its own commit

unfoldable pub own_info_fields : List ℕ → ℤ → List Field
own_info_fields txn_id timestamp =
    (codes "engineInfo", Some (text_data (codes "deltak")))
    ∷ (codes "timestamp", Some (whole_data timestamp))
    ∷ (codes "txnId", Some (text_data txn_id))
    ∷ []

-- the object of its line, by the transaction's id and the moment in milliseconds since 1970-01-01T00:00:00Z
abbrev pub own_info_object : List ℕ → ℤ → Data
own_info_object txn_id timestamp = object_with ((name_of key.Info, Some (object_with (own_info_fields txn_id timestamp))) ∷ [])
