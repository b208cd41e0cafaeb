-- Wanted cells in the place of those that are read.
use Rattle.std.proofs.Common.{◌≡◌, ℕ, ◌+◌, ◌<◌, ◌≤◌, List, [], ◌∷◌, ◌++◌, length, get_or, set, take, drop, Option, Some, sym, ap, ◌∙◌, arith}
use Rattle.std.proofs.lemmas.List.{drop_all, drop_more, drop-set-lt, length-set, take_all, take_more_set, take-set}
use Rattle.dk_pqmodel.specs.Datum.{Datum, Cells}
use Rattle.dk_pqmodel.specs.Projection.{turned_all}
use Rattle.dk_pqmodel.specs.RowView.{datum_of, cells_of}
use Rattle.dk_pqmodel.specs.declared.row.Cell.{Cell}
use Rattle.dk_pqread.specs.Cells.{cells_then}
use Rattle.dk_pqread.proofs.Widening.{turned_done, turned_more}

module _ (cells : List Cell) (i : ℕ) (c : Cell) (h : i < length cells) (is : c ≡ get_or cells i c) where
  opened : drop i cells ≡ c ∷ drop (i + 1) cells
  opened = drop_more cells i c h ∙ ap (λ x. x ∷ drop (i + 1) cells) (sym is)

  module _ (held w : Cell) (taken : List Cell) (e : taken ≡ set cells i held) where
    take_written : take (i + 1) (set taken i w) ≡ take i cells ++ w ∷ []
    take_written =
        take_more_set taken i w (omega (arith, h, ap length e, length-set cells i held)) ∙ ap (λ x. take i x ++ w ∷ []) e ∙ ap (λ x. x ++ w ∷ []) (take-set cells i held)

    drop_written : drop (i + 1) (set taken i w) ≡ drop (i + 1) cells
    drop_written = drop-set-lt (i + 1) taken i w (omega arith) ∙ ap (drop (i + 1)) e ∙ drop-set-lt (i + 1) cells i held (omega arith)

    pub length_written : length (set taken i w) ≡ length cells
    length_written = length-set taken i w ∙ ap length e ∙ length-set cells i held

  module _ (turn : Datum → Option Datum) (all : Option Cells) (left : cells_then (cells_of (take i cells)) (turned_all turn (cells_of (drop i cells))) ≡ all) where
    pub place_turned : (held w : Cell) (taken : List Cell) → taken ≡ set cells i held → turn (datum_of c) ≡ Some (datum_of w)
        → cells_then (cells_of (take (i + 1) (set taken i w))) (turned_all turn (cells_of (drop (i + 1) (set taken i w)))) ≡ all
    place_turned held w taken e f =
        ap (λ x. cells_then (cells_of (take (i + 1) (set taken i w))) (turned_all turn (cells_of x))) (drop_written held w taken e)
        ∙ turned_more turn (take i cells) c (cells_of (drop (i + 1) cells)) all (rw opened at left) w (take (i + 1) (set taken i w)) f (take_written held w taken e)

pub places_turned : (turn : Datum → Option Datum) (cells : List Cell) (i : ℕ) (all : Option Cells) → length cells ≤ i → cells_then (cells_of (take i cells)) (turned_all turn (cells_of (drop i cells))) ≡ all
    → all ≡ Some (cells_of cells)
places_turned turn cells i all h left = turned_done (cells_of cells) all (rw (take_all i cells h, drop_all i cells h) at left)
