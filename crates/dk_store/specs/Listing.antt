-- What a listing of a folder shows.
use Rattle.std.specs.Prelude.{ℕ, ◌==◌, List, [], ◌∷◌, ◌++◌, Option, Some, None, length, option_map, option_and_then, if◌then◌else◌}
use Rattle.std.specs.List.{list_any, filter_map}
use Rattle.std.specs.Ordering.{is_lt}
use Rattle.std.specs.FinMap.{entries}
use Rattle.dk_store.specs.Told.{Told, Stored, Listed}
use Rattle.dk_store.specs.Objects.{path_cmp, objects}

-- a name with no slash
abbrev pub unslashed : List ℕ → Option (List ℕ)
unslashed name = if list_any (λ b. b == 47) name then None else Some name

-- the text behind a prefix
abbrev pub behind : List ℕ → List ℕ → Option (List ℕ)
behind [] text = Some text
behind (p ∷ ps) [] = None
behind (p ∷ ps) (b ∷ bs) = if p == b then behind ps bs else None

-- the name of an object that lies directly in a folder; in the table's own folder, which has the empty path, each path with no slash is one
abbrev pub name_in : List ℕ → List ℕ → Option (List ℕ)
name_in [] path = unslashed path
name_in (b ∷ folder) path = option_and_then unslashed (option_and_then (behind (47 ∷ [])) (behind (b ∷ folder) path))

-- the path of an object with this name in a folder
abbrev pub path_in : List ℕ → List ℕ → List ℕ
path_in [] name = name
path_in (b ∷ folder) name = (b ∷ folder) ++ 47 ∷ name

-- a name that is at least `from`
abbrev pub name_from : List ℕ → Option (List ℕ) → Option (List ℕ)
name_from from None = None
name_from from (Some name) = if is_lt (path_cmp name from) then None else Some name

abbrev pub listed_as : Stored → List ℕ → Listed
listed_as stored name = record { name = name; size = length stored.bytes; stamp = stored.stamp }

-- how an object is listed, if it lies directly in the folder and its name is at least `from`
abbrev pub listed_in : List ℕ → List ℕ → List ℕ × Stored → Option Listed
listed_in folder from entry = option_map (listed_as entry.1) (name_from from (name_in folder entry.0))

-- the objects directly in the folder whose names are at least `from`, in byte order
abbrev pub listing : List Told → List ℕ → List ℕ → List Listed
listing events folder from = filter_map (listed_in folder from) (entries (objects events))
