-- A store in memory as plain data, and the map that it lists its objects by.
use Rattle.std.specs.Prelude.{ℕ, List, Option, Some, None, Bool, false, map, string_bytes, String}
use Rattle.std.specs.Global.{Global}
use Rattle.std.specs.FinMap.{FinMap, from_entries, insert, remove}
use Rattle.std.specs.Str.{bytes_eq}
use Rattle.dk_store.specs.declared.objects.Object.{Object}
use Rattle.dk_store.specs.declared.memory.MemStore.{MemStore}
use Rattle.dk_store.specs.Told.{Told, Stored, Made, Over, Deleted, Ratified, Forgotten}
use Rattle.dk_store.specs.Objects.{path_cmp}
use Rattle.dk_store.specs.Journal.{journal_events}
use Rattle.dk_store.specs.Seen.{Seen}

-- an object without where it lies in memory
abbrev pub stored : Object → Stored
stored object = record { bytes = object.bytes.now; stamp = object.stamp }

-- a path and its object
abbrev pub placed : String Global × Object → List ℕ × Stored
placed entry = (string_bytes entry.0, stored entry.1)

-- entries as a finite map
abbrev pub placed_map : List (String Global × Object) → FinMap path_cmp Stored
placed_map entries = from_entries (map placed entries)

-- the objects after one more event
abbrev pub objects_after : FinMap path_cmp Stored → Told → FinMap path_cmp Stored
objects_after objects (Made p bytes stamp) = insert objects p (record { bytes = bytes; stamp = stamp })
objects_after objects (Over p bytes stamp) = insert objects p (record { bytes = bytes; stamp = stamp })
objects_after objects (Deleted p) = remove objects p
objects_after objects (Ratified version name) = objects
objects_after objects (Forgotten upto) = objects

-- whether an event is about the object at a path
abbrev pub is_about : List ℕ → Told → Bool
is_about path (Made p bytes stamp) = bytes_eq p path
is_about path (Over p bytes stamp) = bytes_eq p path
is_about path (Deleted p) = bytes_eq p path
is_about path (Ratified version name) = false
is_about path (Forgotten upto) = false

-- the bytes that an event leaves at its own path
abbrev pub bytes_left : Told → Option (List ℕ)
bytes_left (Made p bytes stamp) = Some bytes
bytes_left (Over p bytes stamp) = Some bytes
bytes_left (Deleted p) = None
bytes_left (Ratified version name) = None
bytes_left (Forgotten upto) = None

-- all events of a store in memory, the newest first
abbrev pub mem_events : MemStore → List Told
mem_events store = journal_events store.journal

-- how often it has failed
abbrev pub mem_faults : MemStore → ℕ
mem_faults store = store.faults

-- how often a name or a version was taken already
abbrev pub mem_clashes : MemStore → ℕ
mem_clashes store = store.clashes

-- what it shows of itself: it tells all
abbrev pub mem_seen : MemStore → Seen
mem_seen store = record { told = Some (mem_events store); faults = mem_faults store; clashes = mem_clashes store }
