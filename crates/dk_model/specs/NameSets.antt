-- Names as sets.
use Rattle.std.specs.Prelude.{◌≡◌, ℕ, Bool, List}
use Rattle.std.specs.Borrow.{Bor}
use Rattle.std.specs.Ordering.{nat_cmp}
use Rattle.std.specs.Cmp.Lexicographic.{slice_cmp}
use Rattle.std.specs.BTreeSet.{BTreeSet, contains}
use Rattle.std.specs.List.{list_any}
use Rattle.std.specs.Str.{bytes_eq}

abbrev pub is_one_of : List (List ℕ) → List ℕ → Bool
is_one_of names name = list_any (bytes_eq name) names

-- a set of borrowed names
abbrev pub NameSet : Type 0
NameSet = BTreeSet (Bor (List ℕ))

-- whether a set of names has a name
abbrev pub has_name : NameSet → List ℕ → Bool
has_name names name = contains (λ x y. slice_cmp nat_cmp x.now y.now) names (record { ref_ptr = (0, 0); now = name })

-- the set has just the names of the list
abbrev pub HasNames : NameSet → List (List ℕ) → Type 0
HasNames set names = (name : List ℕ) → has_name set name ≡ is_one_of names name
