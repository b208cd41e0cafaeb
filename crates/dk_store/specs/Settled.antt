-- How a store in memory goes through its events for the ratifications that stand, and for the next version.
use Rattle.std.specs.Prelude.{ℕ, List, Option, Some, map, nat_lt}
use Rattle.std.specs.Borrow.{Bor}
use Rattle.std.specs.Ordering.{nat_cmp}
use Rattle.std.specs.FinMap.{FinMap, from_entries, insert, retain_keys}
use Rattle.dk_store.specs.Told.{Told, Made, Over, Deleted, Ratified, Forgotten}
use Rattle.dk_store.specs.Standings.{above}

-- entries as a finite map
abbrev pub named : ℕ × Bor (List ℕ) → ℕ × List ℕ
named entry = (entry.0, entry.1.now)

abbrev pub named_map : List (ℕ × Bor (List ℕ)) → FinMap nat_cmp (List ℕ)
named_map entries = from_entries (map named entries)

-- the ratifications that stand after one more event
abbrev pub standings_after : FinMap nat_cmp (List ℕ) → Told → FinMap nat_cmp (List ℕ)
standings_after standing (Ratified version name) = insert standing version name
standings_after standing (Forgotten upto) = retain_keys standing (λ v. nat_lt upto v)
standings_after standing (Made path bytes stamp) = standing
standings_after standing (Over path bytes stamp) = standing
standings_after standing (Deleted path) = standing

-- the next version after one more event
abbrev pub next_after : Told → Option ℕ → Option ℕ
next_after (Ratified version name) next = Some (above version next)
next_after (Forgotten upto) next = next
next_after (Made path bytes stamp) next = next
next_after (Over path bytes stamp) next = next
next_after (Deleted path) next = next
