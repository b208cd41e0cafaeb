-- The triples of rows in several groups are those of the groups, joined.
use Rattle.std.proofs.Common.{◌≡◌, ℕ, zero, suc, List, [], ◌∷◌, refl, sym, ap, ◌∙◌}
use Rattle.dk_pqmodel.specs.Shape.{Field, Fields, root, width_in}
use Rattle.dk_pqmodel.specs.Datum.{appended, Cells, no_cells, one_cell, Column}
use Rattle.dk_pqmodel.specs.Triples.{columns_joined, cell_triples, later_triples, triples, empty_columns}
use Rattle.dk_levels.proofs.Joins.{joined_assoc}
use Rattle.dk_levels.proofs.Again.{pads}

pub later_triples-appended : (a b : Cells) (f : Field) (d k : ℕ) → later_triples (appended a b) f d k ≡ columns_joined (later_triples a f d k) (later_triples b f d k)
later_triples-appended no_cells b f d k = refl
later_triples-appended (one_cell c a) b f d k =
    ap (columns_joined (cell_triples c f k d k)) (later_triples-appended a b f d k) ∙ sym (joined_assoc (cell_triples c f k d k) (later_triples a f d k) (later_triples b f d k))

empties_twice : (n : ℕ) (ts : List Column) → columns_joined (empty_columns n) (columns_joined (empty_columns n) ts) ≡ columns_joined (empty_columns n) ts
empties_twice n ts = sym (joined_assoc (empty_columns n) (empty_columns n) ts) ∙ ap (λ e. columns_joined e ts) (twice n)
  where
    twice : (n : ℕ) → columns_joined (empty_columns n) (empty_columns n) ≡ empty_columns n
    twice zero = refl
    twice (suc n) = ap (λ e. [] ∷ e) (twice n)

pub triples-appended : (fs : Fields) (a b : Cells) → triples fs (appended a b) ≡ columns_joined (triples fs a) (triples fs b)
triples-appended fs a b =
    let E = empty_columns (width_in (root fs)) in
    let A = later_triples a (root fs) 0 0 in
    let B = later_triples b (root fs) 0 0 in
    ap (columns_joined E) (later_triples-appended a b (root fs) 0 0)
    ∙ sym (joined_assoc E A B)
    ∙ ap (λ x. columns_joined x B) (sym (empties_twice (width_in (root fs)) A) ∙ pads (width_in (root fs)) (columns_joined E A))
    ∙ joined_assoc (columns_joined E A) E B
