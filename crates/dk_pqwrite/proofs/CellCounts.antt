-- Cells that fit are as many as their fields.
use Rattle.std.proofs.Common.{◌≡◌, List, [], ◌∷◌, length, refl, arith}
use Rattle.dk_pqmodel.specs.Fits.{EachBy, fits_leaf}
use Rattle.dk_pqmodel.specs.NodeView.{fields_of}
use Rattle.dk_pqmodel.specs.RowView.{cells_of}
use Rattle.dk_pqmodel.specs.Shape.{Field, key, no_fields, one_field}
use Rattle.dk_pqmodel.specs.declared.node.Node.{Node}
use Rattle.dk_pqmodel.specs.declared.row.Cell.{Cell}

pub as_many : (cs : List Cell) (ns : List Node) → EachBy fits_leaf (cells_of cs) (fields_of ns) → length cs ≡ length ns
as_many [] [] h = refl
as_many [] (n ∷ ns) h = absurd h
as_many (c ∷ cs) [] h = absurd h
as_many (c ∷ cs) (n ∷ ns) h = omega (arith, as_many cs ns h.1)

pub two_cells : (cs : List Cell) (f : Field) → EachBy fits_leaf (cells_of cs) (one_field key (one_field f no_fields)) → length cs ≡ 2
two_cells [] f h = absurd h
two_cells (a ∷ []) f h = absurd h.1
two_cells (a ∷ b ∷ []) f h = refl
two_cells (a ∷ b ∷ c ∷ cs) f h = absurd h.1.1
