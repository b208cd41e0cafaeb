-- The ratifications that a list of events, the newest first, leaves.
use Rattle.std.specs.Prelude.{ℕ, ◌+◌, ◌^◌, Bool, true, max, List, [], ◌∷◌, Option, Some, None, filter, nat_eq, nat_le, nat_lt, if◌then◌else◌}
use Rattle.std.specs.Ordering.{nat_cmp}
use Rattle.std.specs.FinMap.{FinMap, empty, insert, retain_keys, entries}
use Rattle.dk_store.specs.Told.{Told, Made, Over, Deleted, Ratified, Forgotten}

-- the name that a version was ratified with, where that wasn't forgotten: the newest event on the version decides
abbrev pub standing : List Told → ℕ → Option (List ℕ)
standing [] version = None
standing (Ratified v name ∷ events) version = if nat_eq v version then Some name else standing events version
standing (Forgotten upto ∷ events) version = if nat_le version upto then None else standing events version
standing (Made path bytes stamp ∷ events) version = standing events version
standing (Over path bytes stamp ∷ events) version = standing events version
standing (Deleted path ∷ events) version = standing events version

-- all of them, as a finite map under their versions
abbrev pub standings : List Told → FinMap nat_cmp (List ℕ)
standings [] = empty
standings (Ratified v name ∷ events) = insert (standings events) v name
standings (Forgotten upto ∷ events) = retain_keys (standings events) (λ v. nat_lt upto v)
standings (Made path bytes stamp ∷ events) = standings events
standings (Over path bytes stamp ∷ events) = standings events
standings (Deleted path ∷ events) = standings events

-- those from a version on, ascending
abbrev pub ratified_from : List Told → ℕ → List (ℕ × List ℕ)
ratified_from events from = filter (λ e. nat_le from e.0) (entries (standings events))

-- one above a version and whatever came before it
abbrev pub above : ℕ → Option ℕ → ℕ
above version None = version + 1
above version (Some next) = max (version + 1) next

-- one above the greatest version that was ever ratified, forgotten or not, if there is one
abbrev pub next_ratified : List Told → Option ℕ
next_ratified [] = None
next_ratified (Ratified v name ∷ events) = Some (above v (next_ratified events))
next_ratified (Forgotten upto ∷ events) = next_ratified events
next_ratified (Made path bytes stamp ∷ events) = next_ratified events
next_ratified (Over path bytes stamp ∷ events) = next_ratified events
next_ratified (Deleted path ∷ events) = next_ratified events

-- whether the version of a ratification is one that a table can have
abbrev pub has_version : Told → Bool
has_version (Ratified version name) = nat_lt version (2 ^ 63)
has_version (Made path bytes stamp) = true
has_version (Over path bytes stamp) = true
has_version (Deleted path) = true
has_version (Forgotten upto) = true
