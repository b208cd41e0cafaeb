-- The code's events and entries as plain data.
use Rattle.std.specs.Prelude.{ℕ, List, map, reverse, string_bytes}
use Rattle.dk_store.specs.declared.event.Event.{Event}
use Rattle.dk_store.specs.declared.event.Event.TheVariants as events
use Rattle.dk_store.specs.declared.event.Entry.{Entry}
use Rattle.dk_store.specs.declared.event.Ratification.{Ratification}
use Rattle.dk_store.specs.Told.{Told, Listed, Made, Over, Deleted, Ratified, Forgotten}

-- an event by its content
abbrev pub told_event : Event → Told
told_event (events.Made path bytes stamp) = Made (string_bytes path) bytes.items stamp
told_event (events.Over path bytes stamp) = Over (string_bytes path) bytes.items stamp
told_event (events.Deleted path) = Deleted (string_bytes path)
told_event (events.Ratified version name) = Ratified version (string_bytes name)
told_event (events.Forgotten upto) = Forgotten upto

-- events that stand oldest first, as they are told: the newest first
abbrev pub newest_first : List Event → List Told
newest_first events = reverse (map told_event events)

-- an entry by its content
abbrev pub listed : Entry → Listed
listed entry = record { name = string_bytes entry.name; size = entry.size; stamp = entry.stamp }

-- a ratification by its content
abbrev pub ratification : Ratification → ℕ × List ℕ
ratification r = (r.version, string_bytes r.name)
