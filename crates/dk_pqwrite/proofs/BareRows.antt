-- Rows by a schema without its names are those of the schema: they have its form, the same triples, and are turned into themselves.
use Rattle.std.proofs.Common.{◌≡◌, ℕ, ◌+◌, Bool, [], ◌∷◌, ◌++◌, codes, Some, None, option_map, replicate, refl, sym, ap, ap₂, subst, ◌∙◌, arith}
use Rattle.std.proofs.lemmas.Bool.{false≢true}
use Rattle.dk_pqmodel.specs.Shape.{Leaf, Shape, leaf, map_of, Field, field, Fields, no_fields, one_field, fields_at, element_at, shape_in, width_at, width_in, width_of, entry, root, field_name}
use Rattle.dk_pqmodel.specs.Shape as shape
use Rattle.dk_pqmodel.specs.Datum.{Value, Datum, null, atom, group, list, Cells, no_cells, one_cell, single_triple}
use Rattle.dk_pqmodel.specs.Fits.{CellBy, EachBy, AllBy, AreRowsOf, AreTriplesOf, is_of_kind}
use Rattle.dk_pqmodel.specs.Schema.{IsSchema}
use Rattle.dk_pqmodel.specs.Triples.{columns_joined, empty_columns, nothing, reached, cell_triples, group_triples, list_triples, later_triples, triples}
use Rattle.dk_pqmodel.specs.Projection.{Path, widened, widened_each, rows_widened, projection, projected_fields, turned_all, in_group, pair_of, both_read}
use Rattle.dk_pqwrite.specs.Written.{written_nodes}
use Rattle.dk_pqwrite.specs.OverItself.{bare_at, bare_in, bare, own_plan_in, own_plan_named, own_plans}
use Rattle.dk_pqwrite.proofs.OwnProjection.{plan_there, own_projection, projected_is_bare}

-- ---- the same triples

no_more : (m n : ℕ) → m ≡ n → 1 + (m + 0) ≡ 1 + n
no_more m n e = omega (arith, e)

mutual
  bare_width : (s : Shape) → width_at (bare_at s) ≡ width_at s
  bare_width (leaf l) = refl
  bare_width (shape.group fs) = bare_widths fs
  bare_width (shape.list f) = bare_width_in f
  bare_width (map_of f) = no_more (width_in (bare_in f)) (width_in f) (bare_width_in f)

  bare_width_in : (f : Field) → width_in (bare_in f) ≡ width_in f
  bare_width_in (field name b s) = bare_width s

  bare_widths : (fs : Fields) → width_of (bare fs) ≡ width_of fs
  bare_widths no_fields = refl
  bare_widths (one_field f fs) = ap₂ ◌+◌ (bare_width_in f) (bare_widths fs)

bare_fields : (s : Shape) → fields_at (bare_at s) ≡ bare (fields_at s)
bare_fields (leaf l) = refl
bare_fields (shape.group fs) = refl
bare_fields (shape.list f) = refl
bare_fields (map_of f) = refl

bare_element : (s : Shape) → element_at (bare_at s) ≡ bare_in (element_at s)
bare_element (leaf l) = refl
bare_element (shape.group fs) = refl
bare_element (shape.list f) = refl
bare_element (map_of f) = refl

bare_nothing : (f : Field) (r d : ℕ) → nothing (shape_in (bare_in f)) r d ≡ nothing (shape_in f) r d
bare_nothing (field name b s) r d = ap (λ n. replicate n (single_triple r d None)) (bare_width s)

mutual
  bare_cell : (c : Datum) (f : Field) (r d k : ℕ) → cell_triples c (bare_in f) r d k ≡ cell_triples c f r d k
  bare_cell null f r d k = bare_nothing f r d
  bare_cell (atom v) (field name b s) r d k = refl
  bare_cell (group cs) (field name b s) r d k =
      ap (λ fs. group_triples cs fs r (reached (field name b s) d) k) (bare_fields s) ∙ bare_group cs (fields_at s) r (reached (field name b s) d) k
  bare_cell (list cs) (field name b s) r d k =
      ap (λ f. list_triples cs f r (reached (field name b s) d) k) (bare_element s) ∙ bare_list cs (element_at s) r (reached (field name b s) d) k

  bare_group : (cs : Cells) (fs : Fields) (r d k : ℕ) → group_triples cs (bare fs) r d k ≡ group_triples cs fs r d k
  bare_group no_cells fs r d k = refl
  bare_group (one_cell c cs) no_fields r d k = refl
  bare_group (one_cell c cs) (one_field f fs) r d k = ap₂ ◌++◌ (bare_cell c f r d k) (bare_group cs fs r d k)

  bare_list : (cs : Cells) (f : Field) (r d k : ℕ) → list_triples cs (bare_in f) r d k ≡ list_triples cs f r d k
  bare_list no_cells f r d k = bare_nothing f r d
  bare_list (one_cell c cs) f r d k = ap₂ columns_joined (bare_cell c f r (d + 1) (k + 1)) (bare_later cs f (d + 1) (k + 1))

  bare_later : (cs : Cells) (f : Field) (d k : ℕ) → later_triples cs (bare_in f) d k ≡ later_triples cs f d k
  bare_later no_cells f d k = refl
  bare_later (one_cell c cs) f d k = ap₂ columns_joined (bare_cell c f k d k) (bare_later cs f d k)

pub bare_triples : (fs : Fields) (rows : Cells) → triples (bare fs) rows ≡ triples fs rows
bare_triples fs rows = ap₂ columns_joined (ap empty_columns (bare_widths fs)) (bare_later rows (root fs) 0 0)

-- ---- the same form

module _ (test : Value → Leaf → Bool) where
  mutual
    of_cell : (c : Datum) (f : Field) → CellBy test c f → CellBy test c (bare_in f)
    of_cell null (field name b s) h = h
    of_cell (atom v) (field name b (leaf l)) h = h
    of_cell (atom v) (field name b (shape.group fs)) h = absurd h
    of_cell (atom v) (field name b (shape.list f)) h = absurd h
    of_cell (atom v) (field name b (map_of f)) h = absurd h
    of_cell (group cs) (field name b (shape.group fs)) h = of_each cs fs h
    of_cell (group cs) (field name b (leaf l)) h = absurd h
    of_cell (group cs) (field name b (shape.list f)) h = absurd h
    of_cell (group cs) (field name b (map_of f)) h = absurd h
    of_cell (list cs) (field name b (shape.list f)) h = of_all cs f h
    of_cell (list cs) (field name b (map_of f)) h = of_all cs (entry f) h
    of_cell (list cs) (field name b (leaf l)) h = absurd h
    of_cell (list cs) (field name b (shape.group fs)) h = absurd h

    of_each : (cs : Cells) (fs : Fields) → EachBy test cs fs → EachBy test cs (bare fs)
    of_each no_cells no_fields h = h
    of_each no_cells (one_field f fs) h = absurd h
    of_each (one_cell c cs) no_fields h = absurd h
    of_each (one_cell c cs) (one_field f fs) h = (of_cell c f h.0, of_each cs fs h.1)

    of_all : (cs : Cells) (f : Field) → AllBy test cs f → AllBy test cs (bare_in f)
    of_all no_cells f h = h
    of_all (one_cell c cs) f h = (of_cell c f h.0, of_all cs f h.1)

  mutual
    from_cell : (c : Datum) (f : Field) → CellBy test c (bare_in f) → CellBy test c f
    from_cell null (field name b s) h = h
    from_cell (atom v) (field name b (leaf l)) h = h
    from_cell (atom v) (field name b (shape.group fs)) h = absurd h
    from_cell (atom v) (field name b (shape.list f)) h = absurd h
    from_cell (atom v) (field name b (map_of f)) h = absurd h
    from_cell (group cs) (field name b (shape.group fs)) h = from_each cs fs h
    from_cell (group cs) (field name b (leaf l)) h = absurd h
    from_cell (group cs) (field name b (shape.list f)) h = absurd h
    from_cell (group cs) (field name b (map_of f)) h = absurd h
    from_cell (list cs) (field name b (shape.list f)) h = from_all cs f h
    from_cell (list cs) (field name b (map_of f)) h = from_all cs (entry f) h
    from_cell (list cs) (field name b (leaf l)) h = absurd h
    from_cell (list cs) (field name b (shape.group fs)) h = absurd h

    from_each : (cs : Cells) (fs : Fields) → EachBy test cs (bare fs) → EachBy test cs fs
    from_each no_cells no_fields h = h
    from_each no_cells (one_field f fs) h = absurd h
    from_each (one_cell c cs) no_fields h = absurd h
    from_each (one_cell c cs) (one_field f fs) h = (from_cell c f h.0, from_each cs fs h.1)

    from_all : (cs : Cells) (f : Field) → AllBy test cs (bare_in f) → AllBy test cs f
    from_all no_cells f h = h
    from_all (one_cell c cs) f h = (from_cell c f h.0, from_all cs f h.1)

pub rows_of_bare : (fs : Fields) (rows : Cells) → AreRowsOf fs rows → AreRowsOf (bare fs) rows
rows_of_bare fs rows h = of_all is_of_kind rows (root fs) h

pub bare_rows_of : (fs : Fields) (rows : Cells) → AreRowsOf (bare fs) rows → AreRowsOf fs rows
bare_rows_of fs rows h = from_all is_of_kind rows (root fs) h

-- ---- turned into themselves

named_is_in : (f : Field) (path : Path) → own_plan_named f path ≡ own_plan_in f (path ++ field_name f ∷ [])
named_is_in (field name b s) path = refl

module _ (test : Value → Leaf → Bool) where
  mutual
    stays : (c : Datum) (f : Field) (path : Path) → CellBy test c f → widened (own_plan_in f path) c ≡ Some c
    stays null (field name b (leaf l)) path h = refl
    stays null (field name b (shape.group fs)) path h = refl
    stays null (field name b (shape.list f)) path h = refl
    stays null (field name b (map_of f)) path h = refl
    stays (atom v) (field name b (leaf l)) path h = refl
    stays (atom v) (field name b (shape.group fs)) path h = absurd h
    stays (atom v) (field name b (shape.list f)) path h = absurd h
    stays (atom v) (field name b (map_of f)) path h = absurd h
    stays (group cs) (field name b (shape.group fs)) path h = ap (option_map group) (each_stays cs fs path h)
    stays (group cs) (field name b (leaf l)) path h = absurd h
    stays (group cs) (field name b (shape.list f)) path h = absurd h
    stays (group cs) (field name b (map_of f)) path h = absurd h
    stays (list cs) (field name b (shape.list f)) path h = ap (option_map list) (all_stay cs f (path ++ codes "list" ∷ codes "element" ∷ []) h)
    stays (list cs) (field name b (map_of f)) path h = ap (option_map list) (entries_stay cs f (path ++ codes "key_value" ∷ codes "value" ∷ []) h)
    stays (list cs) (field name b (leaf l)) path h = absurd h
    stays (list cs) (field name b (shape.group fs)) path h = absurd h

    each_stays : (cs : Cells) (fs : Fields) (path : Path) → EachBy test cs fs → widened_each (own_plans fs path) cs ≡ Some cs
    each_stays no_cells no_fields path h = refl
    each_stays no_cells (one_field f fs) path h = absurd h
    each_stays (one_cell c cs) no_fields path h = absurd h
    each_stays (one_cell c cs) (one_field f fs) path h = rw (named_is_in f path, plan_there f (path ++ field_name f ∷ []), stays c f (path ++ field_name f ∷ []) h.0, each_stays cs fs path h.1) refl

    all_stay : (cs : Cells) (f : Field) (path : Path) → AllBy test cs f → turned_all (widened (own_plan_in f path)) cs ≡ Some cs
    all_stay no_cells f path h = refl
    all_stay (one_cell c cs) f path h = rw (stays c f path h.0, all_stay cs f path h.1) refl

    -- no key is null
    entries_stay : (cs : Cells) (f : Field) (path : Path) → AllBy test cs (entry f) → turned_all (pair_of (widened (own_plan_in f path))) cs ≡ Some cs
    entries_stay no_cells f path h = refl
    entries_stay (one_cell c cs) f path h = ap₂ both_read (entry_stays c f path h.0) (entries_stay cs f path h.1)

    entry_stays : (c : Datum) (f : Field) (path : Path) → CellBy test c (entry f) → pair_of (widened (own_plan_in f path)) c ≡ Some c
    entry_stays null f path h = absurd (false≢true h)
    entry_stays (atom v) f path h = absurd h
    entry_stays (list cs) f path h = absurd h
    entry_stays (group no_cells) f path h = absurd h
    entry_stays (group (one_cell k no_cells)) f path h = absurd h.1
    entry_stays (group (one_cell null (one_cell v no_cells))) f path h = absurd (false≢true h.0)
    entry_stays (group (one_cell (group ks) (one_cell v no_cells))) f path h = absurd h.0
    entry_stays (group (one_cell (list ks) (one_cell v no_cells))) f path h = absurd h.0
    entry_stays (group (one_cell (atom k) (one_cell v no_cells))) f path h = rw (stays v f path h.1.0) refl
    entry_stays (group (one_cell k (one_cell v (one_cell w more)))) f path h = absurd h.1.1

  rows_stay : (rows : Cells) (fs : Fields) → AllBy test rows (root fs) → rows_widened (own_plans fs []) rows ≡ Some rows
  rows_stay no_cells fs h = refl
  rows_stay (one_cell c cs) fs h = ap₂ both_read (row_stays c fs h.0) (rows_stay cs fs h.1)
    where
      row_stays : (c : Datum) (fs : Fields) → CellBy test c (root fs) → in_group (widened_each (own_plans fs [])) c ≡ Some c
      row_stays null fs h = absurd (false≢true h)
      row_stays (atom v) fs h = absurd h
      row_stays (list cs) fs h = absurd h
      row_stays (group cs) fs h = ap (option_map group) (each_stays cs fs [] h)

pub rows_stay_same : (fs : Fields) (rows : Cells) → AreRowsOf fs rows → rows_widened (own_plans fs []) rows ≡ Some rows
rows_stay_same fs rows h = rows_stay is_of_kind rows fs h

-- ---- as they are laid

pub own_triples : (fs : Fields) (rows : Cells) → IsSchema fs → AreRowsOf fs rows → AreTriplesOf (projected_fields (projection fs (written_nodes fs))) rows (triples fs rows)
own_triples fs rows is h = subst (λ cut. AreTriplesOf cut rows (triples fs rows)) (sym (projected_is_bare fs is)) (rows_of_bare fs rows h, sym (bare_triples fs rows))

pub own_widened : (fs : Fields) (rows : Cells) → IsSchema fs → AreRowsOf fs rows → rows_widened (projection fs (written_nodes fs)) rows ≡ Some rows
own_widened fs rows is h = ap (λ plans. rows_widened plans rows) (own_projection fs is) ∙ rows_stay_same fs rows h
