-- Reading cells off the fronts of the columns, from a place on.
use Rattle.std.specs.Prelude.{ℕ, zero, suc, ◌+◌, Bool, true, false, ◌&&◌, if◌then◌else◌, ◌==◌, List, [], ◌∷◌, length, Option, Some, None, option_map, is_none, slice_index_or, slice_set}
use Rattle.dk_pqmodel.specs.Shape.{Leaf, Shape, Field, field, Fields, no_fields, one_field, width_at, width_in, width_of, root}
use Rattle.dk_pqmodel.specs.Shape as shape
use Rattle.dk_pqmodel.specs.Datum.{Value, Datum, null, atom, group, list, Cells, no_cells, one_cell, Triple, Column}
use Rattle.dk_pqmodel.specs.Fits.{is_of_kind}

infixl 10 ◌>>=◌
abbrev pub ◌>>=◌ : {A B : Type 0} → Option A → (A → Option B) → Option B
None >>= f = None
(Some x) >>= f = f x

abbrev pub head_is : (Triple → Bool) → Column → Bool
head_is p [] = false
head_is p (e ∷ es) = p e

abbrev pub column_of_place : List Column → ℕ → Column
column_of_place cs place = slice_index_or cs place []

-- whether the column at the place begins with such a triple
abbrev pub begins : (Triple → Bool) → List Column → ℕ → Bool
begins p cs place = head_is p (column_of_place cs place)

abbrev pub at_definition : ℕ → Triple → Bool
at_definition d e = e.definition == d

abbrev pub at_repetition : ℕ → Triple → Bool
at_repetition r e = e.repetition == r

abbrev pub taken : Column → List Column → ℕ → Option (Triple × List Column)
taken [] cs place = None
taken (e ∷ es) cs place = Some (e, slice_set cs place es)

-- the first triple of the column, and the columns without it
abbrev pub first_triple : List Column → ℕ → Option (Triple × List Column)
first_triple cs place = taken (column_of_place cs place) cs place

abbrev pub column_length : List Column → ℕ → ℕ
column_length cs place = length (column_of_place cs place)

abbrev pub guarded : {A : Type 0} → Bool → A → Option A
guarded true x = Some x
guarded false x = None

-- a triple without a value
abbrev pub none_at : ℕ → ℕ → ℕ → List Column → Option (List Column)
none_at r d place cs = first_triple cs place >>= λ p. guarded (at_repetition r p.0 && at_definition d p.0 && is_none p.0.value) p.1

-- one from each of several columns
abbrev pub nothing_at : ℕ → ℕ → ℕ → ℕ → List Column → Option (List Column)
nothing_at zero r d place cs = Some cs
nothing_at (suc w) r d place cs =
    none_at r d place cs >>= λ rest. nothing_at w r d (place + 1) rest

-- a triple with a value
abbrev pub some_at : ℕ → ℕ → ℕ → List Column → Option (Value × List Column)
some_at r d place cs =
    first_triple cs place >>= λ p. guarded (at_repetition r p.0 && at_definition d p.0) p.1 >>= λ rest. option_map (λ v. (v, rest)) p.0.value

abbrev pub leaf_at : Leaf → ℕ → ℕ → ℕ → List Column → Option (Datum × List Column)
leaf_at l r d place cs = some_at r d place cs >>= λ p. guarded (is_of_kind p.0 l) (atom p.0, p.1)

abbrev pub Reader : Type 0
Reader = List Column → Option (Datum × List Column)

-- the elements that follow, as long as the column goes on, and at most so many
abbrev pub later_at : Reader → (List Column → Bool) → ℕ → List Column → Option (Cells × List Column)
later_at read goes_on zero cs = if goes_on cs then None else Some (no_cells, cs)
later_at read goes_on (suc n) cs =
    if goes_on cs then (read cs >>= λ c. later_at read goes_on n c.1 >>= λ more. Some (one_cell c.0 more.0, more.1)) else Some (no_cells, cs)

-- a list by its first element and the later ones
abbrev pub list_cells_at : Reader → Reader → ℕ → ℕ → ℕ → ℕ → ℕ → List Column → Option (Cells × List Column)
list_cells_at first later w r d k place cs =
    if begins (at_definition d) cs place
    then (nothing_at w r d place cs >>= λ rest. Some (no_cells, rest))
    else (first cs >>= λ c. later_at later (λ ds. begins (at_repetition (k + 1)) ds place) (column_length c.1 place) c.1 >>= λ more. Some (one_cell c.0 more.0, more.1))

-- a key and a value
abbrev pub pair_at : Reader → ℕ → ℕ → ℕ → Reader
pair_at value r d place cs =
    leaf_at shape.chars r d place cs >>= λ key. value key.1 >>= λ v. Some (group (one_cell key.0 (one_cell v.0 no_cells)), v.1)

abbrev mutual
  pub present_at : Shape → ℕ → ℕ → ℕ → ℕ → Reader
  present_at (shape.leaf l) r d k place cs = leaf_at l r d place cs
  present_at (shape.group fs) r d k place cs = option_map (λ p. (group p.0, p.1)) (cells_at fs r d k place cs)
  present_at (shape.list f) r d k place cs =
      option_map (λ p. (list p.0, p.1)) (list_cells_at (cell_at f r (d + 1) (k + 1) place) (cell_at f (k + 1) (d + 1) (k + 1) place) (width_in f) r d k place cs)
  present_at (shape.map_of f) r d k place cs =
      option_map (λ p. (list p.0, p.1))
      (list_cells_at (pair_at (cell_at f r (d + 1) (k + 1) (place + 1)) r (d + 1) place) (pair_at (cell_at f (k + 1) (d + 1) (k + 1) (place + 1)) (k + 1) (d + 1) place) (1 + width_in f) r d k place cs)

  pub cell_at : Field → ℕ → ℕ → ℕ → ℕ → Reader
  cell_at (field name nullable s) r d k place cs =
      if nullable && begins (at_definition d) cs place
      then (nothing_at (width_at s) r d place cs >>= λ rest. Some (null, rest))
      else present_at s r (if nullable then d + 1 else d) k place cs

  pub cells_at : Fields → ℕ → ℕ → ℕ → ℕ → List Column → Option (Cells × List Column)
  cells_at no_fields r d k place cs = Some (no_cells, cs)
  cells_at (one_field f fs) r d k place cs =
      cell_at f r d k place cs >>= λ c. cells_at fs r d k (place + width_in f) c.1 >>= λ more. Some (one_cell c.0 more.0, more.1)

abbrev pub all_empty : List Column → Bool
all_empty [] = true
all_empty ([] ∷ cs) = all_empty cs
all_empty ((e ∷ es) ∷ cs) = false

-- the rows, where nothing is left in any column
abbrev pub end_at : Fields → List Column → Option Cells
end_at fs cs = later_at (cell_at (root fs) 0 0 0 0) (λ ds. begins (at_repetition 0) ds 0) (column_length cs 0) cs >>= λ p. guarded (all_empty p.1) p.0

abbrev pub rows_at : Fields → List Column → Option Cells
rows_at fs cs = guarded (length cs == width_of fs) cs >>= λ cs. end_at fs cs
