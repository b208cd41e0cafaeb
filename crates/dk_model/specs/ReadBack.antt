-- The actions that a written text is read back as.
use Rattle.std.specs.Prelude.{◌≡◌, ℕ, ℤ, List, ◌∷◌, ◌++◌, filter, Bool, true, false, Some, None, IfSome}
use Rattle.std.specs.List.{AllByRecursion}
use Rattle.std.specs.Str.{IsUtf8}
use Rattle.dk_model.specs.declared.action.Action.{Action}
use Rattle.dk_model.specs.declared.action.Action.TheVariants as action
use Rattle.dk_model.specs.Pairs.{AreKeysRising}
use Rattle.dk_model.specs.Ranges.{IsWhole, IsProtocolInRange, IsCheckpointMetaInRange, IsInRange}
use Rattle.dk_model.specs.CommitText.{commit_of}
use Rattle.dk_model.specs.Written.{written_line, text_of, own_info_line}

-- the keys of each map of texts rise, as `Pairs` keeps them
abbrev pub HasRisingKeys : Action → Type 0
HasRisingKeys (action.Protocol p) = Unit {0}
HasRisingKeys (action.Metadata m) = AreKeysRising m.options × AreKeysRising m.configuration
HasRisingKeys (action.Add f) = AreKeysRising f.partition_values × IfSome f.tags AreKeysRising
HasRisingKeys (action.Remove r) = Unit {0}
HasRisingKeys (action.Txn t) = Unit {0}
HasRisingKeys (action.Domain d) = Unit {0}
HasRisingKeys (action.Info i) = Unit {0}
HasRisingKeys action.Cdc = Unit {0}
HasRisingKeys (action.CheckpointMeta m) = Unit {0}
HasRisingKeys (action.Sidecar r) = Unit {0}

-- the versions of a protocol or checkpoint are in range, which their type doesn't say
abbrev pub HasVersionsInRange : Action → Type 0
HasVersionsInRange (action.Protocol p) = IsProtocolInRange p
HasVersionsInRange (action.Metadata m) = Unit {0}
HasVersionsInRange (action.Add f) = Unit {0}
HasVersionsInRange (action.Remove r) = Unit {0}
HasVersionsInRange (action.Txn t) = Unit {0}
HasVersionsInRange (action.Domain d) = Unit {0}
HasVersionsInRange (action.Info i) = Unit {0}
HasVersionsInRange action.Cdc = Unit {0}
HasVersionsInRange (action.CheckpointMeta m) = IsCheckpointMetaInRange m
HasVersionsInRange (action.Sidecar r) = Unit {0}

-- a deletion vector stands beside the file, which isn't written
abbrev pub has_vector : Action → Bool
has_vector (action.Add f) = f.vector
has_vector _ = false

-- what the types of its parts keep: numbers of 64 bits, maps in the order of their keys, texts in UTF-8
pub record IsSound (a : Action) : Type 0 where
  pub range : HasVersionsInRange a → IsInRange a
  pub keys : HasRisingKeys a
  pub utf8 : IsUtf8 (written_line a)

-- what they don't: versions in range, and no deletion vector
pub record IsReadable (a : Action) : Type 0 where
  pub versions : HasVersionsInRange a
  pub no_vector : has_vector a ≡ false

-- an action whose line is read as that action
pub record IsWritable (a : Action) : Type 0 where
  pub sound : IsSound a
  pub readable : IsReadable a

-- an action that has a line
abbrev pub is_written : Action → Bool
is_written (action.Protocol p) = true
is_written (action.Metadata m) = true
is_written (action.Add f) = true
is_written (action.Remove r) = true
is_written (action.Txn t) = true
is_written (action.Domain d) = true
is_written (action.Info i) = false
is_written action.Cdc = false
is_written (action.CheckpointMeta m) = true
is_written (action.Sidecar r) = true

abbrev pub written_of : List Action → List Action
written_of actions = filter is_written actions

-- what a transaction says of its own commit, as it is read
abbrev pub own_info : List ℕ → Action
own_info txn_id = action.Info (record { in_commit_timestamp = None; txn_id = Some txn_id })

-- a text that is written for actions means those of them that have a line
abbrev pub WrittenReadsBack : Type 0
WrittenReadsBack = (actions : List Action) → AllByRecursion IsWritable actions → commit_of (text_of actions) ≡ Some (written_of actions)

-- and behind the line in which a transaction speaks of its own commit, that comes first
abbrev pub OwnReadsBack : Type 0
OwnReadsBack = (txn_id : List ℕ) (timestamp : ℤ) (actions : List Action) → IsUtf8 txn_id → IsWhole timestamp → AllByRecursion IsWritable actions
    → commit_of (own_info_line txn_id timestamp ++ text_of actions) ≡ Some (own_info txn_id ∷ written_of actions)

-- the lines of a text in UTF-8 are in UTF-8
abbrev pub LinesAreUtf8 : Type 0
LinesAreUtf8 = (actions : List Action) → IsUtf8 (text_of actions) → AllByRecursion (λ a. IsUtf8 (written_line a)) actions
