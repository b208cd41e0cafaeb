-- Which tables are read, and from which moment on their removed files are still told (Delta Lake's PROTOCOL.md, "Protocol
-- Evolution", "Reader Requirements for Deletion Vectors", "Add File and Remove File").
use Rattle.std.specs.Prelude.{ℕ, ℤ, pos, negsuc, ◌-ℤ◌, ◌^◌, ◌-◌, Bool, false, ◌≡◌, List, Option, Some, None, IsSome, Result, Ok, Err, if◌then◌else◌, codes}
use Rattle.std.specs.FinMap as map
use Rattle.std.specs.Int.{int_max}
use Rattle.std.specs.List.{list_any}
use Rattle.std.specs.Option.{option_or}
use Rattle.dk_model.specs.declared.action.AddFile.{AddFile}
use Rattle.dk_model.specs.declared.action.Protocol.{Protocol}
use Rattle.dk_model.specs.declared.action.Metadata.{Metadata}
use Rattle.dk_model.specs.declared.state.TableState.{TableState}
use Rattle.dk_model.specs.Settings.{setting}
use Rattle.dk_model.specs.Texts.{ByText}
use Rattle.dk_model.specs.WellKept.{IsWellKept}
use Rattle.dk_features.specs.Names.{deletion_vectors}
use Rattle.dk_features.specs.Support.{unread, unread_name}
use Rattle.dk_paths.specs.Intervals.{interval_of}
use Rattle.dk_engine.specs.declared.refusal.Refusal.{Refusal}
use Rattle.dk_engine.specs.declared.refusal.Refusal.TheVariants.{Damaged, Unsupported}

-- ---- support

-- a deletion vector stands beside a file
abbrev pub has_vectors : ByText AddFile → Bool
has_vectors files = list_any (λ file. file.1.vector) (map.entries files)

-- what isn't read, by its name: what the protocol asks for first, then deletion vectors
abbrev pub unreadable : Protocol → ByText AddFile → Option (List ℕ)
unreadable protocol files = option_or (unread_name protocol) (if has_vectors files then Some deletion_vectors else None)

-- ---- retention

abbrev pub retention_key : List ℕ
retention_key = codes "delta.deletedFileRetentionDuration"

-- how long removed files are told, in milliseconds: one week where it isn't set, and nothing where the text is no interval
abbrev pub kept_by : Option (List ℕ) → Option ℤ
kept_by None = Some (pos 604800000)
kept_by (Some text) = interval_of text

abbrev pub retention : Metadata → Option ℤ
retention metadata = kept_by (setting retention_key metadata)

-- the moment up to which tombstones are expired, and at least the least moment
abbrev pub cut_before : ℤ → ℤ → ℤ
cut_before now kept = int_max (now -ℤ kept) (negsuc (2 ^ 63 - 1))

-- ---- the tests of a state that is opened

abbrev pub cut_by : Option ℤ → ℤ → Result ℤ Refusal
cut_by None now = Err (Unsupported retention_key)
cut_by (Some kept) now = Ok (cut_before now kept)

abbrev pub cut_unless : Option (List ℕ) → Option ℤ → ℤ → Result ℤ Refusal
cut_unless (Some name) kept now = Err (Unsupported name)
cut_unless None kept now = cut_by kept now

-- the path of the first commit
abbrev pub first_commit : List ℕ
first_commit = codes "_delta_log/00000000000000000000.json"

-- a log without protocol or metadata is damaged as a whole, from its oldest object on, whose path this is
abbrev pub cut_with : List ℕ → Option Protocol → Option Metadata → ByText AddFile → ℤ → Result ℤ Refusal
cut_with oldest (Some protocol) (Some metadata) files now = cut_unless (unreadable protocol files) (retention metadata) now
cut_with oldest protocol metadata files now = Err (Damaged oldest 0)

-- the cut of a state at a moment, or why it isn't opened
abbrev pub cut_of : List ℕ → TableState → ℤ → Result ℤ Refusal
cut_of oldest state now = cut_with oldest state.protocol state.metadata state.files now

-- the state passes the tests, and its removed files are told for so long
pub record IsRead (state : TableState) (kept : ℤ) : Type 0 where
  pub protocol : Protocol
  pub metadata : Metadata
  pub has_protocol : state.protocol ≡ Some protocol
  pub has_metadata : state.metadata ≡ Some metadata
  pub reader : unread protocol ≡ None
  pub vectors : has_vectors state.files ≡ false
  pub retention : retention metadata ≡ Some kept

-- what writers of checkpoints need of a state: it has a protocol and metadata, is well kept, and no deletion vector stands beside a file
pub record IsComplete (state : TableState) : Type 0 where
  pub kept : IsWellKept state
  pub protocol : IsSome state.protocol
  pub metadata : IsSome state.metadata
  pub no_vectors : has_vectors state.files ≡ false
