-- What the wanted rows of row groups are.
use Rattle.std.specs.Prelude.{◌≡◌, ℕ, zero, suc, Some, List}
use Rattle.dk_pqmodel.specs.Datum.{group, Cells, no_cells, one_cell, appended}
use Rattle.dk_pqmodel.specs.Footer.{RowGroup}
use Rattle.dk_pqmodel.specs.FileMeans.{HasRows, HaveRows, all_rows}
use Rattle.dk_pqmodel.specs.Projection.{Plans, rows_widened}

-- so many rows without a cell
abbrev pub empty_rows : ℕ → Cells
empty_rows zero = no_cells
empty_rows (suc n) = one_cell (group no_cells) (empty_rows n)

-- The wanted rows of a group: those that are made of its own.
pub record GroupMeans (before : List ℕ) (plans : Plans) (group : RowGroup) (rows : Cells) : Type 0 where
  pub own : Cells
  pub share : HasRows before plans group own
  pub widened : rows_widened plans own ≡ Some rows

-- The wanted rows of groups, those of one group behind those of another.
pub record GroupsMean (before : List ℕ) (plans : Plans) (groups : List RowGroup) (rows : Cells) : Type 0 where
  pub shares : List Cells
  pub held : HaveRows before plans groups shares
  pub widened : rows_widened plans (all_rows shares) ≡ Some rows

-- rows of the sort, behind those before
abbrev pub AddsRows : Cells → (Cells → Type 0) → Cells → Type 0
AddsRows before Means after = (more : Cells) × (after ≡ appended before more) × Means more
