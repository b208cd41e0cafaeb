-- The object of an application's version (Delta Lake's PROTOCOL.md, "Transaction Identifiers").
use Rattle.std.specs.Prelude.{List, [], ◌∷◌, Option, Some, option_map, codes}
use Rattle.serde_json.specs.Data.{Data}
use Rattle.dk_model.specs.declared.action.Txn.{Txn}
use Rattle.dk_model.specs.Fields.{◌>>=◌, needed, optional, whole, text}
use Rattle.dk_model.specs.Shown.{Field, text_data, whole_data}

unfoldable pub txn_of : Data → Option Txn
txn_of d = do
  application ← needed text (codes "appId") d
  version ← needed whole (codes "version") d
  updated ← optional whole (codes "lastUpdated") d
  Some (record { app_id = application; version = version; last_updated = updated })

unfoldable pub txn_fields : Txn → List Field
txn_fields t =
    (codes "appId", Some (text_data t.app_id))
    ∷ (codes "lastUpdated", option_map whole_data t.last_updated)
    ∷ (codes "version", Some (whole_data t.version))
    ∷ []
