-- What of the law isn't built so far: tables whose commits say their time, and those that a catalogue manages, are refused by the names of
-- their features. All else that the law permits is written.
use Rattle.std.specs.Prelude.{◌≡◌, ℕ, ℤ, ◌==◌, not, List, [], ◌++◌, Bool, true, false, Option, Some, None, is_none, find, if◌then◌else◌}
use Rattle.dk_model.specs.declared.action.Protocol.{Protocol}
use Rattle.dk_model.specs.declared.action.Metadata.{Metadata}
use Rattle.dk_model.specs.declared.action.Action.{Action}
use Rattle.dk_model.specs.declared.state.TableState.{TableState}
use Rattle.dk_model.specs.State.{steps}
use Rattle.dk_model.specs.NameSets.{is_one_of}
use Rattle.dk_features.specs.Names.{catalog_managed}
use Rattle.dk_features.specs.InForce.{has_feature, listed_features}
use Rattle.dk_features.specs.Support.{unread, unwritten}
use Rattle.dk_lawful.specs.Written.{in_commit_timestamp, of_commits, is_read_by}
use Rattle.dk_lawful.specs.Rules.{keeps_heads, keeps_kinds, keeps_paths_apart, keeps_names_apart, keeps_protocol, keeps_rows, keeps_domains, begins_unenabled, keeps_adds, first_broken}

-- the names that a protocol asks for, by lists that count
abbrev pub asked_names : Protocol → List (List ℕ)
asked_names p = (if p.min_reader == 3 then listed_features p.reader_features else []) ++ (if p.min_writer == 7 then listed_features p.writer_features else [])

-- the first of these features that a protocol asks for
unfoldable pub awaited : Option Protocol → Option (List ℕ)
awaited None = None
awaited (Some p) = find (is_one_of of_commits) (asked_names p)

-- a table that has begun, and is written so far
unfoldable pub is_written_so_far : Option Protocol → Option Metadata → Bool
is_written_so_far None metadata = false
is_written_so_far (Some p) None = false
is_written_so_far (Some p) (Some m) = is_none (unwritten p m)

-- the least number of a rule that a commit breaks which awaits neither feature, where the state before has neither
abbrev pub first_broken_so_far : TableState → ℕ → List Action → Option ℕ
first_broken_so_far before version actions =
    if not (keeps_heads version actions) then Some 1
    else if not (keeps_kinds actions) then Some 2
    else if not (keeps_paths_apart actions) then Some 3
    else if not (keeps_names_apart actions) then Some 4
    else if not (keeps_protocol before actions) then Some 5
    else if not (is_written_so_far (steps before actions).protocol (steps before actions).metadata) then Some 6
    else if not (keeps_rows before actions) then Some 7
    else if not (keeps_domains before actions) then Some 8
    else if not (begins_unenabled version (steps before actions).metadata) then Some 9
    else if not (keeps_adds actions) then Some 11
    else None

-- ---- the laws

-- a table that is written so far has neither feature
pub record HasNeither (protocol : Option Protocol) : Type 0 where
  pub untimed : has_feature protocol in_commit_timestamp ≡ false
  pub unmanaged : has_feature protocol catalog_managed ≡ false

abbrev pub WrittenHasNeither : Type 0
WrittenHasNeither = (p : Protocol) (m : Metadata) → unwritten p m ≡ None → HasNeither (Some p)

-- Where the state before has neither, and the one after awaits none, the rules are those that are built so far.
abbrev pub RulesSoFar : Type 0
RulesSoFar = (before : TableState) (last : Option ℤ) (version : ℕ) (actions : List Action) → HasNeither before.protocol → awaited (steps before actions).protocol ≡ None
    → first_broken before last version actions ≡ first_broken_so_far before version actions

-- What the law reads and this program doesn't so far awaits a feature.
abbrev pub ReadSoFar : Type 0
ReadSoFar = (p : Protocol) → is_read_by p ≡ true → awaited (Some p) ≡ None → unread p ≡ None
