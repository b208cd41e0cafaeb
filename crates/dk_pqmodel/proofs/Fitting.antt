-- Rows that fit have the form of their schema.
use Rattle.std.proofs.Common.{◌≡◌, Bool, true, refl}
use Rattle.dk_pqmodel.specs.Shape.{Leaf, int32, int64, Field, Fields, field, no_fields, one_field, leaf, map_of, entry, root}
use Rattle.dk_pqmodel.specs.Shape as shape
use Rattle.dk_pqmodel.specs.Datum.{Value, flag, int, chars, Datum, null, atom, group, list, Cells, no_cells, one_cell}
use Rattle.dk_pqmodel.specs.Fits.{is_of_kind, fits_leaf, CellBy, EachBy, AllBy, Fit, AreRowsOf}

module _ (p q : Value → Leaf → Bool) (weaker : (v : Value) (l : Leaf) → p v l ≡ true → q v l ≡ true) where
  mutual
    by_cell : (c : Datum) (f : Field) → CellBy p c f → CellBy q c f
    by_cell null f h = h
    by_cell (atom v) (field name b (leaf l)) h = weaker v l h
    by_cell (atom v) (field name b (shape.group fs)) h = absurd h
    by_cell (atom v) (field name b (shape.list f)) h = absurd h
    by_cell (atom v) (field name b (map_of f)) h = absurd h
    by_cell (group cs) (field name b (shape.group fs)) h = by_each cs fs h
    by_cell (group cs) (field name b (leaf l)) h = absurd h
    by_cell (group cs) (field name b (shape.list f)) h = absurd h
    by_cell (group cs) (field name b (map_of f)) h = absurd h
    by_cell (list cs) (field name b (shape.list f)) h = by_all cs f h
    by_cell (list cs) (field name b (map_of f)) h = by_all cs (entry f) h
    by_cell (list cs) (field name b (leaf l)) h = absurd h
    by_cell (list cs) (field name b (shape.group fs)) h = absurd h

    by_each : (cs : Cells) (fs : Fields) → EachBy p cs fs → EachBy q cs fs
    by_each no_cells no_fields h = h
    by_each no_cells (one_field f fs) h = absurd h
    by_each (one_cell c cs) no_fields h = absurd h
    by_each (one_cell c cs) (one_field f fs) h = (by_cell c f h.0, by_each cs fs h.1)

    pub by_all : (cs : Cells) (f : Field) → AllBy p cs f → AllBy q cs f
    by_all no_cells f h = h
    by_all (one_cell c cs) f h = (by_cell c f h.0, by_all cs f h.1)

fits_kind : (v : Value) (l : Leaf) → fits_leaf v l ≡ true → is_of_kind v l ≡ true
fits_kind (flag b) shape.flag h = h
fits_kind (flag b) int32 h = cc
fits_kind (flag b) int64 h = cc
fits_kind (flag b) shape.chars h = cc
fits_kind (int n) shape.flag h = cc
fits_kind (int n) int32 h = refl
fits_kind (int n) int64 h = h
fits_kind (int n) shape.chars h = cc
fits_kind (chars t) shape.flag h = cc
fits_kind (chars t) int32 h = cc
fits_kind (chars t) int64 h = cc
fits_kind (chars t) shape.chars h = h

pub fitting_rows_match : (fs : Fields) (rows : Cells) → Fit fs rows → AreRowsOf fs rows
fitting_rows_match fs rows h = by_all fits_leaf is_of_kind fits_kind rows (root fs) h
