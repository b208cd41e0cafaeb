-- The sizes of a listing's objects under their names.
use Rattle.std.specs.Prelude.{ℕ, ◌≡◌, Option, Some, None, List}
use Rattle.std.specs.Ordering.{nat_cmp}
use Rattle.std.specs.declared.cmp.Ordering.{Ordering}
use Rattle.std.specs.Cmp.Lexicographic.{slice_cmp}
use Rattle.std.specs.Borrow.{Bor}
use Rattle.std.specs.BTreeMap.{BTreeMap, get}
use Rattle.dk_store.specs.Told.{Listed}
use Rattle.dk_store.specs.Listing.{behind}
use Rattle.dk_paths.specs.Places.{log_front, staged_front}
use Rattle.dk_listing.specs.declared.catalogued.Catalogued.{Catalogued}
use Rattle.dk_listing.specs.Sizes.{size_of_name, listed_size}
use Rattle.dk_snapshot.specs.declared.sizes.Sizes.{Sizes}

abbrev pub name_order : Bor (List ℕ) → Bor (List ℕ) → Ordering
name_order x y = slice_cmp nat_cmp x.now y.now

abbrev pub size_under : BTreeMap (Bor (List ℕ)) ℕ → List ℕ → Option ℕ
size_under sizes name = get name_order sizes (record { ref_ptr = (0, 0); now = name })

-- the map has the size under each name, by the first entry that has it
abbrev pub HasSizes : BTreeMap (Bor (List ℕ)) ℕ → List Listed → Type 0
HasSizes sizes listing = (name : List ℕ) → size_under sizes name ≡ size_of_name listing name

abbrev pub known_in_log : Sizes → List ℕ → Option (List ℕ) → Option ℕ
known_in_log sizes rest None = size_under sizes.log rest
known_in_log sizes rest (Some name) = size_under sizes.staged name

abbrev pub known_behind : Sizes → Option (List ℕ) → Option ℕ
known_behind sizes None = None
known_behind sizes (Some rest) = known_in_log sizes rest (behind staged_front rest)

-- the size that is known of a path
abbrev pub known_size : Sizes → List ℕ → Option ℕ
known_size sizes path = known_behind sizes (behind log_front path)

abbrev pub AreSizesOf : Sizes → Catalogued → Type 0
AreSizesOf sizes listing = (path : List ℕ) → known_size sizes path ≡ listed_size listing path
