-- What a whole path means: the places of the log, how each is spelled, and the place that a path is.
use Rattle.std.specs.Prelude.{◌≡◌, ℕ, ◌-◌, ◌^◌, ◌<◌, ◌==◌, ◌&&◌, Bool, true, false, not, Option, Some, None, List, [], ◌∷◌, ◌++◌, length, drop, if◌then◌else◌, codes}
use Rattle.std.specs.List.{list_any}
use Rattle.std.specs.Str.{bytes_eq}
use Rattle.dk_paths.specs.declared.log_name.LogName.{LogName}
use Rattle.dk_paths.specs.declared.log_name.LogName.TheVariants as names
use Rattle.dk_paths.specs.Names.{IsPart, spelling, log_name_of}
use Rattle.dk_paths.specs.Numbers.{id_text}
use Rattle.dk_paths.specs.Staged.{IsStaged, staged_name, staged_of}

-- a V2 checkpoint says whether it is in JSON, a sidecar has its name in its folder, and `Other` has the whole path
pub data Place : Type 0 where
  Commit_at : (version : ℕ) → Place
  Classic : (version : ℕ) → Place
  Part : (version part parts : ℕ) → Place
  V2 : (version id : ℕ) (json : Bool) → Place
  Compacted : (first last : ℕ) → Place
  Hint : Place
  Sidecar : (name : List ℕ) → Place
  Staged : (version id : ℕ) → Place
  Other : (path : List ℕ) → Place

-- the log's folder and the two in it, as the fronts of paths
abbrev pub log_front : List ℕ
log_front = codes "_delta_log/"

abbrev pub sidecar_front : List ℕ
sidecar_front = codes "_sidecars/"

abbrev pub staged_front : List ℕ
staged_front = codes "_staged_commits/"

-- a sidecar lies directly in its folder, and its name ends in `.parquet`
abbrev pub ends_in_parquet : List ℕ → Bool
ends_in_parquet name = bytes_eq (drop (length name - 8) name) (codes ".parquet")

abbrev pub is_sidecar_name : List ℕ → Bool
is_sidecar_name name = not (list_any (λ byte. byte == 47) name) && ends_in_parquet name

-- the name of the sidecar of a UUID
abbrev pub sidecar_name : ℕ → List ℕ
sidecar_name id = id_text id ++ codes ".parquet"

-- how a place is written
abbrev pub place_path : Place → List ℕ
place_path (Commit_at version) = log_front ++ spelling (names.Commit version)
place_path (Classic version) = log_front ++ spelling (names.Classic version)
place_path (Part version part parts) = log_front ++ spelling (names.Part version part parts)
place_path (V2 version id true) = log_front ++ spelling (names.V2Json version id)
place_path (V2 version id false) = log_front ++ spelling (names.V2Parquet version id)
place_path (Compacted first last) = log_front ++ spelling (names.Compacted first last)
place_path Hint = log_front ++ spelling names.Hint
place_path (Sidecar name) = log_front ++ (sidecar_front ++ name)
place_path (Staged version id) = log_front ++ (staged_front ++ staged_name version id)
place_path (Other path) = path

-- what follows a front in a text
abbrev pub behind_front : List ℕ → List ℕ → Option (List ℕ)
behind_front [] text = Some text
behind_front (byte ∷ front) [] = None
behind_front (byte ∷ front) (first ∷ text) = if byte == first then behind_front front text else None

-- the place of a path in the folder of sidecars or of staged commits
abbrev pub staged_place : List ℕ → Option (ℕ × ℕ) → Place
staged_place path None = Other path
staged_place path (Some staged) = Staged staged.0 staged.1

abbrev pub place_in_folders : List ℕ → Option (List ℕ) → Option (List ℕ) → Place
place_in_folders path (Some name) staged = if is_sidecar_name name then Sidecar name else Other path
place_in_folders path None (Some name) = staged_place path (staged_of name)
place_in_folders path None None = Other path

-- the place of a path in the log's folder, whose rest names something, or lies deeper
abbrev pub place_named : List ℕ → List ℕ → LogName → Place
place_named path rest (names.Commit version) = Commit_at version
place_named path rest (names.Classic version) = Classic version
place_named path rest (names.Part version part parts) = Part version part parts
place_named path rest (names.V2Json version id) = V2 version id true
place_named path rest (names.V2Parquet version id) = V2 version id false
place_named path rest (names.Compacted first last) = Compacted first last
place_named path rest names.Hint = Hint
place_named path rest names.Other = place_in_folders path (behind_front sidecar_front rest) (behind_front staged_front rest)

abbrev pub place_behind : List ℕ → Option (List ℕ) → Place
place_behind path None = Other path
place_behind path (Some rest) = place_named path rest (log_name_of rest)

-- the place of a path
unfoldable pub place_of : List ℕ → Place
place_of path = place_behind path (behind_front log_front path)

-- the places that a path can be
abbrev pub IsPlace : Place → Type 0
IsPlace (Commit_at version) = version < 2 ^ 63
IsPlace (Classic version) = version < 2 ^ 63
IsPlace (Part version part parts) = (version < 2 ^ 63) × IsPart part parts
IsPlace (V2 version id json) = (version < 2 ^ 63) × (id < 2 ^ 128)
IsPlace (Compacted first last) = (first < last) × (last < 2 ^ 63)
IsPlace Hint = Unit {0}
IsPlace (Sidecar name) = is_sidecar_name name ≡ true
IsPlace (Staged version id) = IsStaged version id
IsPlace (Other path) = place_of path ≡ Other path

-- the place of a spelling is that place
abbrev pub PlaceOfPath : Type 0
PlaceOfPath = (place : Place) → IsPlace place → place_of (place_path place) ≡ place

-- a path is the spelling of its place, so each place is that of one path
abbrev pub PathOfPlace : Type 0
PathOfPlace = (path : List ℕ) → IsPlace (place_of path) × (place_path (place_of path) ≡ path)
