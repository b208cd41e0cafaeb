-- The sizes of sidecars, which lie in a folder of their own (Delta Lake's PROTOCOL.md, "Sidecar Files").
use Rattle.std.specs.Prelude.{ℕ, ◌≡◌, true, List, [], Option, map, codes}
use Rattle.std.specs.List.{AllByRecursion}
use Rattle.dk_store.specs.Told.{Told, Listed}
use Rattle.dk_store.specs.Listing.{listing}
use Rattle.dk_paths.specs.Places.{Sidecar, is_sidecar_name, place_path}
use Rattle.dk_listing.specs.Sizes.{stored_size}

-- the path of the sidecar of this name
abbrev pub sidecar_path : List ℕ → List ℕ
sidecar_path name = place_path (Sidecar name)

-- these are names of sidecars: none has a slash, and each ends in `.parquet`
abbrev pub AreSidecarNames : List (List ℕ) → Type 0
AreSidecarNames names = AllByRecursion (λ name. is_sidecar_name name ≡ true) names

-- these are the entries of the folder of sidecars
abbrev pub IsSidecarFolder : List Told → List Listed → Type 0
IsSidecarFolder events entries = entries ≡ listing events (codes "_delta_log/_sidecars") []

-- these are the sizes of what stands at the sidecars of these names
abbrev pub AreSidecarSizes : List Told → List (List ℕ) → List (Option ℕ) → Type 0
AreSidecarSizes events names sizes = sizes ≡ map (λ name. stored_size events (sidecar_path name)) names
