-- What was made of a cell reads back as this cell, whatever follows.
use Rattle.std.proofs.Common.{◌≡◌, ℕ, zero, suc, ◌+◌, ◌<◌, ◌≤◌, true, false, ◌==◌, IsTrue, List, [], ◌∷◌, length, replicate, refl, sym, ap, ◌∙◌, arith, Some, None, eq-eqb}
use Rattle.std.specs.Option.{option_map}
use Rattle.std.proofs.lemmas.List.{append-nil, length-replicate}
use Rattle.dk_pqmodel.specs.Shape.{Leaf, Shape, Field, Fields, field, no_fields, one_field, width_at, width_in, width_of, entry, root}
use Rattle.dk_pqmodel.specs.Shape as shape
use Rattle.dk_pqmodel.specs.Datum.{Value, Datum, null, atom, group, list, Cells, no_cells, one_cell, Column, single_triple}
use Rattle.dk_pqmodel.specs.Triples.{columns_joined, cell_triples, group_triples, list_triples, later_triples, empty_columns, triples}
use Rattle.dk_pqmodel.specs.Fits.{AreTriplesOf, Matches, MatchEach, MatchAll, is_of_kind}
use Rattle.dk_levels.specs.Places.{from}
use Rattle.dk_levels.specs.Reading.{begins, at_definition, at_repetition, first_triple, column_length, nothing_at, leaf_at, Reader, later_at, list_cells_at, pair_at, present_at, cell_at, cells_at, all_empty, rows_at}
use Rattle.dk_levels.specs.Solid.{IsSolid, IsSolidShape, AreSolid, AreReadable}
use Rattle.dk_levels.proofs.Joins.{joined-nothing, length-joined}
use Rattle.dk_levels.proofs.Begins.{Low, begin_cell, begin_group, low-joined, low-from, low_begin, low_later, low_raise, same_repetition, other_definition, lower_repetition, same_definition, behind, beside, empties, joined_longer, triple_again, wide, wide_shape, count, count_column}
use Rattle.dk_levels.proofs.Put.{length-cell_triples, length-later_triples}

same : (n : ℕ) → (n == n) ≡ true
same n = eq-eqb n n refl

pub nothing_again : (w r d place : ℕ) (rest : List Column) → place + w ≤ length rest → nothing_at w r d place (columns_joined (from place (replicate w (single_triple r d None))) rest) ≡ Some rest
nothing_again zero r d place rest h = ap Some (empties place rest (omega arith))
nothing_again (suc w) r d place rest h =
    let R = columns_joined (from (place + 1) (replicate w (single_triple r d None))) rest in
    let here : first_triple (columns_joined (from place (replicate (suc w) (single_triple r d None))) rest) place ≡ Some (record { repetition = r; definition = d; value = None }, R) =
    ap (λ x. first_triple x place) (beside place 1 (single_triple r d None ∷ []) (replicate w (single_triple r d None)) rest refl)
    ∙ triple_again place (record { repetition = r; definition = d; value = None }) R (omega (arith, joined_longer (from (place + 1) (replicate w (single_triple r d None))) rest)) in
    rw here (rw (same r, same d) (nothing_again w r d (place + 1) rest (omega arith)))

pub leaf_again : (l : Leaf) (v : Value) (r d place : ℕ) (rest : List Column) → IsTrue (is_of_kind v l) → place < length rest
    → leaf_at l r d place (columns_joined (from place (single_triple r d (Some v) ∷ [])) rest) ≡ Some (atom v, rest)
leaf_again l v r d place rest h room =
    rw (triple_again place (record { repetition = r; definition = d; value = Some v }) rest room) (rw (same r, same d, h) refl)

-- a reader that gives back each cell of the field
pub record ReadsBack (read : Reader) (f : Field) (r d k place : ℕ) : Type 0 where
  pub back : (c : Datum) (rest : List Column) → Matches c f → place + width_in f ≤ length rest → Low k rest → read (columns_joined (from place (cell_triples c f r d k)) rest) ≡ Some (c, rest)

later_again : (f : Field) (read : Reader) (d j place : ℕ) → 0 < width_in f → ReadsBack read f j d j place → (cs : Cells) (n : ℕ) (rest : List Column)
    → MatchAll cs f → count cs ≤ n → place + width_in f ≤ length rest → Low j rest → begins (at_repetition j) rest place ≡ false
    → later_at read (λ ds. begins (at_repetition j) ds place) n (columns_joined (from place (later_triples cs f d j)) rest) ≡ Some (cs, rest)
later_again f read d j place w back no_cells zero rest h c room low ends = rw (empties place rest (omega arith)) (rw ends refl)
later_again f read d j place w back no_cells (suc n) rest h c room low ends = rw (empties place rest (omega arith)) (rw ends refl)
later_again f read d j place w back (one_cell x cs) zero rest h c room low ends = absurd (omega arith)
later_again f read d j place w back (one_cell x cs) (suc n) rest h c room low ends =
    let R = columns_joined (from place (later_triples cs f d j)) rest in
    let long : place + width_in f ≤ length R = omega (arith, joined_longer (from place (later_triples cs f d j)) rest) in
    let low' : Low j R = low-joined j _ _ (low-from j place _ (low_later cs f d j h.1)) low in
    rw (behind place (cell_triples x f j d j) (later_triples cs f d j) rest)
    (rw (same_repetition place j d (cell_triples x f j d j) R (begin_cell x f j d j h.0) (omega (arith, length-cell_triples x f j d j h.0)))
    (rw (back.back x R h.0 long low') (rw (later_again f read d j place w back cs n rest h.1 (omega arith) room low ends) refl)))

list_again : (f : Field) (first later : Reader) (r d k place : ℕ) → 0 < width_in f → r ≤ k
    → ReadsBack first f r (d + 1) (k + 1) place → ReadsBack later f (k + 1) (d + 1) (k + 1) place → (cs : Cells) (rest : List Column)
    → MatchAll cs f → place + width_in f ≤ length rest → Low k rest
    → list_cells_at first later (width_in f) r d k place (columns_joined (from place (list_triples cs f r d k)) rest) ≡ Some (cs, rest)
list_again (field name b s) first later r d k place w rk one more no_cells rest h room low =
    rw (same_definition place r d _ None rest w) (rw (nothing_again _ r d place rest room) refl)
list_again f first later r d k place w rk one more (one_cell x cs) rest h room low =
    let A = cell_triples x f r (d + 1) (k + 1) in
    let B = later_triples cs f (d + 1) (k + 1) in
    let R = columns_joined (from place B) rest in
    let up : Low (k + 1) rest = low_raise k (k + 1) rest (omega arith) low in
    let low' : Low (k + 1) R = low-joined (k + 1) _ _ (low-from (k + 1) place _ (low_later cs f (d + 1) (k + 1) h.1)) up in
    let long : place + width_in f ≤ length R = omega (arith, joined_longer (from place B) rest) in
    rw (behind place A B rest)
    (rw (other_definition place r d (d + 1) A R (begin_cell x f r (d + 1) (k + 1) h.0) (omega arith) (omega (arith, length-cell_triples x f r (d + 1) (k + 1) h.0)))
    (rw (one.back x R h.0 long low')
    (rw (later_again f later (d + 1) (k + 1) place w more cs (column_length R place) rest h.1 (count_column place cs f (d + 1) (k + 1) rest h.1 w) room up
    (lower_repetition k (k + 1) place rest low (omega arith))) refl)))

pair_again : (f : Field) (value : Reader) (r d k place : ℕ) → ReadsBack value f r d k (place + 1) → (c : Datum) (rest : List Column)
    → Matches c (entry f) → place + width_in (entry f) ≤ length rest → Low k rest
    → pair_at value r d place (columns_joined (from place (cell_triples c (entry f) r d k)) rest) ≡ Some (c, rest)
pair_again f value r d k place back null rest h room low = cc
pair_again f value r d k place back (atom v) rest h room low = absurd h
pair_again f value r d k place back (list cs) rest h room low = absurd h
pair_again f value r d k place back (group no_cells) rest h room low = absurd h
pair_again f value r d k place back (group (one_cell x no_cells)) rest h room low = absurd h.1
pair_again f value r d k place back (group (one_cell x (one_cell y (one_cell z cs)))) rest h room low = absurd h.1.1
pair_again f value r d k place back (group (one_cell null (one_cell y no_cells))) rest h room low = let n : false ≡ true = h.0 in cc
pair_again f value r d k place back (group (one_cell (group xs) (one_cell y no_cells))) rest h room low = absurd h.0
pair_again f value r d k place back (group (one_cell (list xs) (one_cell y no_cells))) rest h room low = absurd h.0
pair_again f value r d k place back (group (one_cell (atom v) (one_cell y no_cells))) rest h room low =
    let V = cell_triples y f r d k in
    let R = columns_joined (from (place + 1) V) rest in
    rw (append-nil V, beside place 1 (single_triple r d (Some v) ∷ []) V rest refl)
    (rw (leaf_again shape.chars v r d place R h.0 (omega (arith, joined_longer (from (place + 1) V) rest)))
    (rw (back.back y rest h.1.0 (omega arith) low) refl))

not_null : (s : Shape) (c : Datum) (r d k place : ℕ) (rest : List Column) → IsSolidShape s → Matches c (field [] false s)
    → begins (at_definition d) (columns_joined (from place (cell_triples c (field [] false s) r (d + 1) k)) rest) place ≡ false
not_null s c r d k place rest solid h =
    other_definition place r d (d + 1) (cell_triples c (field [] false s) r (d + 1) k) rest (begin_cell c (field [] false s) r (d + 1) k h) (omega arith)
    (omega (arith, length-cell_triples c (field [] false s) r (d + 1) k h, wide_shape s solid))

mutual
  present_again : (s : Shape) (c : Datum) (r d k place : ℕ) (rest : List Column) → IsSolidShape s → r ≤ k → Matches c (field [] false s)
      → place + width_at s ≤ length rest → Low k rest → present_at s r d k place (columns_joined (from place (cell_triples c (field [] false s) r d k)) rest) ≡ Some (c, rest)
  present_again (shape.leaf l) (atom v) r d k place rest solid rk h room low = leaf_again l v r d place rest h (omega arith)
  present_again (shape.group fs) (group cs) r d k place rest solid rk h room low = rw (each_again fs cs r d k place rest solid.1 rk h room low) refl
  present_again (shape.list f) (list cs) r d k place rest solid rk h room low =
      rw (list_again f _ _ r d k place (wide f solid) rk
      (record { back = λ c more fits long deep. cell_again f c r (d + 1) (k + 1) place more solid (omega arith) fits long deep })
      (record { back = λ c more fits long deep. cell_again f c (k + 1) (d + 1) (k + 1) place more solid (omega arith) fits long deep })
      cs rest h room low) refl
  present_again (shape.map_of f) (list cs) r d k place rest solid rk h room low =
      let first : Reader = pair_at (cell_at f r (d + 1) (k + 1) (place + 1)) r (d + 1) place in
      let later : Reader = pair_at (cell_at f (k + 1) (d + 1) (k + 1) (place + 1)) (k + 1) (d + 1) place in
      let one : ReadsBack first (entry f) r (d + 1) (k + 1) place = record {
        back = λ c more fits long deep. pair_again f _ r (d + 1) (k + 1) place
            (record { back = λ c more fits long deep. cell_again f c r (d + 1) (k + 1) (place + 1) more solid (omega arith) fits long deep }) c more fits long deep;
      } in
      let more : ReadsBack later (entry f) (k + 1) (d + 1) (k + 1) place = record {
        back = λ c more fits long deep. pair_again f _ (k + 1) (d + 1) (k + 1) place
            (record { back = λ c more fits long deep. cell_again f c (k + 1) (d + 1) (k + 1) (place + 1) more solid (omega arith) fits long deep }) c more fits long deep;
      } in
      let w : width_in (entry f) ≡ 1 + width_in f = omega arith in
      let found : list_cells_at first later (width_in (entry f)) r d k place (columns_joined (from place (list_triples cs (entry f) r d k)) rest) ≡ Some (cs, rest) =
      list_again (entry f) first later r d k place (omega arith) rk one more cs rest h (omega arith) low in
      ap (option_map (λ p. (list p.0, p.1))) (ap (λ n. list_cells_at first later n r d k place (columns_joined (from place (list_triples cs (entry f) r d k)) rest)) (sym w) ∙ found)
  present_again s null r d k place rest solid rk h room low = cc
  present_again (shape.leaf l) (group cs) r d k place rest solid rk h room low = absurd h
  present_again (shape.leaf l) (list cs) r d k place rest solid rk h room low = absurd h
  present_again (shape.group fs) (atom v) r d k place rest solid rk h room low = absurd h
  present_again (shape.group fs) (list cs) r d k place rest solid rk h room low = absurd h
  present_again (shape.list f) (atom v) r d k place rest solid rk h room low = absurd h
  present_again (shape.list f) (group cs) r d k place rest solid rk h room low = absurd h
  present_again (shape.map_of f) (atom v) r d k place rest solid rk h room low = absurd h
  present_again (shape.map_of f) (group cs) r d k place rest solid rk h room low = absurd h

  pub cell_again : (f : Field) (c : Datum) (r d k place : ℕ) (rest : List Column) → IsSolid f → r ≤ k → Matches c f
      → place + width_in f ≤ length rest → Low k rest → cell_at f r d k place (columns_joined (from place (cell_triples c f r d k)) rest) ≡ Some (c, rest)
  cell_again (field name true s) null r d k place rest solid rk h room low =
      rw (same_definition place r d (width_at s) None rest (wide_shape s solid)) (rw (nothing_again (width_at s) r d place rest room) refl)
  cell_again (field name false s) null r d k place rest solid rk h room low = cc
  cell_again (field name false s) (atom v) r d k place rest solid rk h room low = present_again s (atom v) r d k place rest solid rk h room low
  cell_again (field name false s) (group cs) r d k place rest solid rk h room low = present_again s (group cs) r d k place rest solid rk h room low
  cell_again (field name false s) (list cs) r d k place rest solid rk h room low = present_again s (list cs) r d k place rest solid rk h room low
  cell_again (field name true s) (atom v) r d k place rest solid rk h room low =
      rw (not_null s (atom v) r d k place rest solid h) (present_again s (atom v) r (d + 1) k place rest solid rk h room low)
  cell_again (field name true s) (group cs) r d k place rest solid rk h room low =
      rw (not_null s (group cs) r d k place rest solid h) (present_again s (group cs) r (d + 1) k place rest solid rk h room low)
  cell_again (field name true s) (list cs) r d k place rest solid rk h room low =
      rw (not_null s (list cs) r d k place rest solid h) (present_again s (list cs) r (d + 1) k place rest solid rk h room low)

  pub each_again : (fs : Fields) (cs : Cells) (r d k place : ℕ) (rest : List Column) → AreSolid fs → r ≤ k → MatchEach cs fs
      → place + width_of fs ≤ length rest → Low k rest → cells_at fs r d k place (columns_joined (from place (group_triples cs fs r d k)) rest) ≡ Some (cs, rest)
  each_again no_fields no_cells r d k place rest solid rk h room low = ap (λ x. Some (no_cells, x)) (empties place rest (omega arith))
  each_again no_fields (one_cell c cs) r d k place rest solid rk h room low = absurd h
  each_again (one_field f fs) no_cells r d k place rest solid rk h room low = absurd h
  each_again (one_field f fs) (one_cell c cs) r d k place rest solid rk h room low =
      let B = group_triples cs fs r d k in
      let R = columns_joined (from (place + width_in f) B) rest in
      let low' : Low k R = low-joined k _ _ (low-from k (place + width_in f) B (low_begin r d k B rk (begin_group cs fs r d k h.1))) low in
      rw (beside place (width_in f) (cell_triples c f r d k) B rest (length-cell_triples c f r d k h.0))
      (rw (cell_again f c r d k place R solid.0 rk h.0 (omega (arith, joined_longer (from (place + width_in f) B) rest)) low')
      (rw (each_again fs cs r d k (place + width_in f) rest solid.1 rk h.1 (omega arith) low) refl))

pub pads : (n : ℕ) (ts : List Column) → columns_joined (empty_columns n) ts ≡ columns_joined ts (empty_columns n)
pads zero ts = sym (joined-nothing ts)
pads (suc n) [] = refl
pads (suc n) (t ∷ ts) = cc (append-nil t, pads n ts)

low_empty : (k n : ℕ) → Low k (empty_columns n)
low_empty k zero = tt
low_empty k (suc n) = (tt, low_empty k n)

all_empty_empty : (n : ℕ) → all_empty (empty_columns n) ≡ true
all_empty_empty zero = refl
all_empty_empty (suc n) = all_empty_empty n

none_begins : (j n : ℕ) → begins (at_repetition j) (empty_columns n) 0 ≡ false
none_begins j zero = refl
none_begins j (suc n) = refl

root_back : (fs : Fields) → 0 < width_of fs → AreSolid fs → ReadsBack (cell_at (root fs) 0 0 0 0) (root fs) 0 0 0 0
root_back fs w solid = record { back = λ c more fits long low. cell_again (root fs) c 0 0 0 0 more (w, solid) (omega arith) fits long low }

length-triples : (fs : Fields) (rows : Cells) → MatchAll rows (root fs) → length (triples fs rows) ≡ width_of fs
length-triples fs rows h =
    length-joined (empty_columns (width_of fs)) (later_triples rows (root fs) 0 0) (width_of fs)
    (omega (arith, length-later_triples rows (root fs) 0 0 h, length-replicate {A = Column} (width_of fs) [])) (length-replicate _ _)

-- the triples of rows read back as these rows
pub rows_again : (fs : Fields) (rows : Cells) → 0 < width_of fs → AreSolid fs → MatchAll rows (root fs) → rows_at fs (triples fs rows) ≡ Some rows
rows_again fs rows w solid h =
    let L = later_triples rows (root fs) 0 0 in
    let E = empty_columns (width_of fs) in
    let long : length (triples fs rows) ≡ width_of fs = length-triples fs rows h in
    let flip : triples fs rows ≡ columns_joined L E = pads (width_of fs) L in
    let wide : 0 + width_in (root fs) ≤ length E = omega (arith, length-replicate {A = Column} (width_of fs) []) in
    rw (eq-eqb _ _ long)
    (rw flip (rw (later_again (root fs) (cell_at (root fs) 0 0 0 0) 0 0 0 w (root_back fs w solid) rows (column_length (columns_joined L E) 0) E h
    (count_column 0 rows (root fs) 0 0 E h w) wide (low_empty 0 _) (none_begins 0 _)) (rw (all_empty_empty (width_of fs)) refl)))

-- Rows with the same triples are the same, where each field has a column.
pub one_solid_reading : (fs : Fields) (rows others : Cells) (columns : List Column) → 0 < width_of fs → AreSolid fs → AreTriplesOf fs rows columns → AreTriplesOf fs others columns
    → rows ≡ others
one_solid_reading fs rows others columns wide solid a b =
    let one : rows_at fs columns ≡ Some rows = ap (rows_at fs) a.1 ∙ rows_again fs rows wide solid a.0 in
    let other : rows_at fs columns ≡ Some others = ap (rows_at fs) b.1 ∙ rows_again fs others wide solid b.0 in
    cc (one, other)

pub one_reading : (fs : Fields) (rows others : Cells) (columns : List Column) → AreReadable fs → AreTriplesOf fs rows columns → AreTriplesOf fs others columns → rows ≡ others
one_reading fs rows others columns readable a b = one_solid_reading fs rows others columns readable.wide readable.solid a b
