-- The levels of a data page's body.
use Rattle.std.specs.Prelude.{◌≡◌, ◌+◌, ◌*◌, ◌≤◌, ℕ, List, ◌++◌, length, map}
use Rattle.dk_pqmodel.specs.Datum.{Column}
use Rattle.dk_pqmodel.specs.FilePages.{HoldLevels, IsSized}
use Rattle.dk_pqwrite.specs.declared.column.LeafColumn.{LeafColumn}

-- the bytes are the levels of the triples, repetition levels first
pub record HoldBoth (column : LeafColumn) (triples : Column) (bytes : List ℕ) : Type 0 where
  pub rep_part : List ℕ
  pub def_part : List ℕ
  pub rep : List ℕ
  pub def : List ℕ
  pub whole : bytes ≡ rep_part ++ def_part
  pub rep_sized : IsSized column.rep rep_part rep
  pub def_sized : IsSized column.def def_part def
  pub repetitions : HoldLevels column.rep (map (λ e. e.repetition) triples) rep
  pub definitions : HoldLevels column.def (map (λ e. e.definition) triples) def
  pub size : length bytes ≤ 88 + 10 * length triples
