-- The objects that a list of events, the newest first, leaves.
use Rattle.std.specs.Prelude.{ℕ, List, [], ◌∷◌, Option, Some, None, option_map, if◌then◌else◌}
use Rattle.std.specs.Ordering.{nat_cmp}
use Rattle.std.specs.Cmp.Lexicographic.{slice_cmp}
use Rattle.std.specs.declared.cmp.Ordering.{Ordering}
use Rattle.std.specs.FinMap.{FinMap, empty, insert, remove}
use Rattle.std.specs.Str.{bytes_eq}
use Rattle.dk_store.specs.Told.{Told, Stored, Made, Over, Deleted, Ratified, Forgotten}

-- the object at a path, if one stands there: the newest event on the path decides
abbrev pub object : List Told → List ℕ → Option Stored
object [] path = None
object (Made p bytes stamp ∷ events) path = if bytes_eq p path then Some (record { bytes = bytes; stamp = stamp }) else object events path
object (Over p bytes stamp ∷ events) path = if bytes_eq p path then Some (record { bytes = bytes; stamp = stamp }) else object events path
object (Deleted p ∷ events) path = if bytes_eq p path then None else object events path
object (Ratified version name ∷ events) path = object events path
object (Forgotten upto ∷ events) path = object events path

-- its bytes
abbrev pub content : List Told → List ℕ → Option (List ℕ)
content events path = option_map (λ o. o.bytes) (object events path)

-- texts in byte order
abbrev pub path_cmp : List ℕ → List ℕ → Ordering
path_cmp = slice_cmp nat_cmp

-- all objects, as a finite map under their paths, whose entries stand in byte order
abbrev pub objects : List Told → FinMap path_cmp Stored
objects [] = empty
objects (Made p bytes stamp ∷ events) = insert (objects events) p (record { bytes = bytes; stamp = stamp })
objects (Over p bytes stamp ∷ events) = insert (objects events) p (record { bytes = bytes; stamp = stamp })
objects (Deleted p ∷ events) = remove (objects events) p
objects (Ratified version name ∷ events) = objects events
objects (Forgotten upto ∷ events) = objects events
