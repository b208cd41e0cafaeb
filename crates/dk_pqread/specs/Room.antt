-- What of a page is held against each other before anything of it is kept.
use Rattle.std.specs.Prelude.{◌≡◌, ◌≤◌, ◌*◌, ℕ, Bool, IsTrue, nat_le, All, ℤ, pos, Option, Some, List, length, Result, Ok, Err}
use Rattle.dk_pqmodel.specs.Datum.{Value, Column}
use Rattle.dk_pqmodel.specs.FilePages.{ColumnAt}
use Rattle.dk_pqmodel.specs.Pages.{Page}
use Rattle.dk_pqmodel.specs.Shape.{Leaf, flag, int32, int64, chars}
use Rattle.dk_pqmodel.specs.declared.fault.PqFault.{PqFault}
use Rattle.dk_pages.specs.Split.{Parts, split_of}
use Rattle.dk_pqread.specs.Meanings.{AreLevelsOf, RefusesMeaning, full_count}
use Rattle.dk_pqread.specs.PageMeaning.{PartsHold}

-- Whatever is meant passes; or nothing is meant that does.
abbrev pub Sieves : {Y : Type 0} → Result (Unit {0}) PqFault → (Y → Type 0) → (Y → Type 0) → Type 0
Sieves {Y} (Ok _) Means Passes = (y : Y) → Means y → Passes y
Sieves {Y} (Err fault) Means Passes = RefusesMeaning fault (λ (y : Y). Means y × Passes y)

-- So many plain values may stand in so many bytes: a flag takes a bit, a number its bytes, and a text four for its length at least.
abbrev pub has_room : Leaf → ℕ → ℕ → Bool
has_room flag count bytes = nat_le count (8 * bytes)
has_room int32 count bytes = nat_le (4 * count) bytes
has_room int64 count bytes = nat_le (8 * count) bytes
has_room chars count bytes = nat_le (4 * count) bytes

-- no level is above the greatest
abbrev pub AreWithin : ℕ → List ℕ → Type 0
AreWithin greatest levels = All (λ level. level ≤ greatest) levels

-- No level in the parts is above its greatest, and in PLAIN there is room for as many values as definition levels are the greatest.
pub record PartsFit (column : ColumnAt) (code : ℤ) (count : ℕ) (parts : Parts) : Type 0 where
  pub reps : (levels : List ℕ) → AreLevelsOf column.rep count parts.rep levels → AreWithin column.rep levels
  pub defs : (levels : List ℕ) → AreLevelsOf column.def count parts.def levels → AreWithin column.def levels
  pub room : code ≡ pos 0 → (levels : List ℕ) → AreLevelsOf column.def count parts.def levels → IsTrue (has_room column.kind (full_count column.def levels) (length parts.values))

-- triples in the parts, whatever dictionary they are read with
abbrev pub InParts : ColumnAt → ℤ → ℕ → Parts → Column → Type 0
InParts column code count parts triples = (dictionary : Option (List Value)) × PartsHold column dictionary code count parts triples

-- A page whose parts are so.
pub record PageFits (column : ColumnAt) (page : Page) : Type 0 where
  pub parts : Parts
  pub split : split_of column.rep column.def page ≡ Some parts
  pub fit : PartsFit column page.encoding page.values parts
