-- How a commit that came in between is in the way of one's own (Delta Lake's PROTOCOL.md, "Delta Log Entries", leaves the rule to writers;
-- the kinds and their names are those of the field).
use Rattle.std.specs.Prelude.{ℕ, ◌+◌, List, [], ◌∷◌, Bool, true, false, ◌&&◌, ◌||◌, Option, Some, None, find}
use Rattle.std.specs.List.{list_any, filter_map}
use Rattle.dk_model.specs.NameSets.{is_one_of}
use Rattle.dk_model.specs.Rows.{adds_rows, removes_rows}
use Rattle.dk_model.specs.declared.action.Action.{Action}
use Rattle.dk_model.specs.declared.action.Action.TheVariants as action
use Rattle.dk_model.specs.declared.kind.Kind.{Kind}
use Rattle.dk_model.specs.declared.kind.Kind.TheVariants as kind
use Rattle.dk_conflicts.specs.declared.topic.Topic.{Topic}
use Rattle.dk_conflicts.specs.declared.topic.Topic.TheVariants as topic
use Rattle.dk_conflicts.specs.declared.reads.Reads.{Reads}
use Rattle.dk_conflicts.specs.declared.reads.Reads.TheVariants as reads

-- ---- what a commit has

abbrev pub is_protocol : Action → Bool
is_protocol (action.Protocol p) = true
is_protocol _ = false

abbrev pub is_metadata : Action → Bool
is_metadata (action.Metadata m) = true
is_metadata _ = false

-- the names that two commits can share: of the application that an action speaks of, of its domain, or of the file that it removes
abbrev pub name_on_topic : Topic → Action → Option (List ℕ)
name_on_topic topic.Application (action.Txn txn) = Some txn.app_id
name_on_topic topic.Domain (action.Domain domain) = Some domain.domain
name_on_topic topic.Removed (action.Remove file) = Some file.path
name_on_topic _ _ = None

abbrev pub names_in : Topic → List Action → List (List ℕ)
names_in about actions = filter_map (name_on_topic about) actions

-- ---- what was read

abbrev pub is_table : Reads → Bool
is_table reads.Table = true
is_table _ = false

-- the paths of the files that were read, where they are told one by one
abbrev pub files_read : Reads → List (List ℕ)
files_read (reads.Files paths) = paths
files_read _ = []

-- ---- the conflict

-- the winner has such a name that is one of these
abbrev pub has_one : Topic → List (List ℕ) → List Action → Bool
has_one about names winner = list_any (is_one_of names) (names_in about winner)

-- both have one
abbrev pub share_one : Topic → List Action → List Action → Bool
share_one about own winner = has_one about (names_in about own) winner

-- the winner is in the way in this way of what was read and of the own commit
abbrev pub winner_is_in_the_way : Reads → List Action → List Action → Kind → Bool
winner_is_in_the_way read own winner kind.ProtocolChanged = list_any is_protocol winner || list_any is_protocol own
winner_is_in_the_way read own winner kind.MetadataChanged = list_any is_metadata winner
winner_is_in_the_way read own winner kind.ConcurrentTransaction = share_one topic.Application own winner
winner_is_in_the_way read own winner kind.DomainChanged = share_one topic.Domain own winner
winner_is_in_the_way read own winner kind.ConcurrentAppend = is_table read && list_any adds_rows winner
winner_is_in_the_way read own winner kind.ConcurrentDeleteRead = (is_table read && list_any removes_rows winner) || has_one topic.Removed (files_read read) winner
winner_is_in_the_way read own winner kind.ConcurrentDeleteDelete = share_one topic.Removed own winner

-- the kinds, in the order in which they are told
unfoldable pub all_kinds : List Kind
all_kinds =
    kind.ProtocolChanged ∷ kind.MetadataChanged ∷ kind.ConcurrentTransaction ∷ kind.DomainChanged ∷ kind.ConcurrentAppend ∷ kind.ConcurrentDeleteRead ∷ kind.ConcurrentDeleteDelete ∷ []

abbrev pub kind_of : Reads → List Action → List Action → Option Kind
kind_of read own winner = find (winner_is_in_the_way read own winner) all_kinds

-- the first that is in the way, or else what comes later
abbrev pub first_in_the_way : ℕ → Option Kind → Option (ℕ × Kind) → Option (ℕ × Kind)
first_in_the_way place (Some k) later = Some (place, k)
first_in_the_way place None later = later

-- of the winners, the oldest first, the place of the first that is in the way, and how it is; they are counted from `place`
abbrev pub conflict_from : Reads → List Action → ℕ → List (List Action) → Option (ℕ × Kind)
conflict_from read own place [] = None
conflict_from read own place (winner ∷ winners) = first_in_the_way place (kind_of read own winner) (conflict_from read own (place + 1) winners)

abbrev pub conflict_of : Reads → List Action → List (List Action) → Option (ℕ × Kind)
conflict_of read own winners = conflict_from read own 0 winners
