-- What the page that stands at a place holds of a column.
use Rattle.std.specs.Prelude.{◌≡◌, ℕ, Bool, true, false, IsTrue, ℤ, Option, Some, List, length, ◌++◌}
use Rattle.dk_pqmodel.specs.Datum.{Value, Column}
use Rattle.dk_pqmodel.specs.FilePages.{ColumnAt, HoldTriples}
use Rattle.dk_pqmodel.specs.Pages.{Page}
use Rattle.dk_pages.specs.Split.{Parts, split_of}
use Rattle.dk_pqmodel.specs.declared.page.PageKind.{PageKind}
use Rattle.dk_pqmodel.specs.declared.page.PageKind.TheVariants.{DataV1, DataV2, Dictionary}
use Rattle.dk_pqmodel.specs.Scans.{is_level_code}

abbrev pub is_data : PageKind → Bool
is_data DataV1 = true
is_data DataV2 = true
is_data Dictionary = false

-- A data page with as many triples as it says, in its parts.
pub record PageHolds (column : ColumnAt) (dictionary : Option (List Value)) (page : Page) (triples : Column) : Type 0 where
  pub kind : IsTrue (is_data page.kind)
  pub count : length triples ≡ page.values
  pub rep_code : IsTrue (is_level_code column.rep page.rep_code)
  pub def_code : IsTrue (is_level_code column.def page.def_code)
  pub parts : Parts
  pub split : split_of column.rep column.def page ≡ Some parts
  pub held : HoldTriples column dictionary page.encoding parts.rep parts.def parts.values triples

-- so many triples in these parts
pub record PartsHold (column : ColumnAt) (dictionary : Option (List Value)) (code : ℤ) (values : ℕ) (parts : Parts) (triples : Column) : Type 0 where
  pub count : length triples ≡ values
  pub held : HoldTriples column dictionary code parts.rep parts.def parts.values triples

-- triples of the sort, behind those before
abbrev pub AddsTriples : Column → (Column → Type 0) → Column → Type 0
AddsTriples before Means after = (more : Column) × (after ≡ before ++ more) × Means more
