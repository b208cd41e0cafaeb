-- What stands at the fronts of columns.
use Rattle.std.proofs.Common.{◌≡◌, ℕ, zero, suc, ◌+◌, ◌<◌, ◌≤◌, true, false, ◌==◌, List, [], ◌∷◌, ◌++◌, length, get_or, replicate, refl, sym, ap, ◌∙◌, arith, Some, None, Option, eq-eqb, inl, inr}
use Rattle.std.specs.Bool.{⊤}
use Rattle.std.proofs.lemmas.Bool.Decides.{eqb_tells}
use Rattle.std.specs.Option.{option_map}
use Rattle.std.proofs.lemmas.List.{append-nil, length-append}
use Rattle.dk_pqmodel.specs.Shape.{Shape, Field, Fields, field, no_fields, one_field, width_at, width_in, entry}
use Rattle.dk_pqmodel.specs.Shape as shape
use Rattle.dk_pqmodel.specs.Datum.{Value, Datum, null, atom, group, list, Cells, no_cells, one_cell, Triple, Column, single_triple}
use Rattle.dk_pqmodel.specs.Triples.{columns_joined, cell_triples, group_triples, list_triples, later_triples}
use Rattle.dk_pqmodel.specs.Fits.{Matches, MatchEach, MatchAll}
use Rattle.dk_levels.specs.Places.{from}
use Rattle.dk_levels.specs.Reading.{begins, head_is, at_definition, at_repetition, taken, first_triple, column_length}
use Rattle.dk_levels.specs.Solid.{IsSolid, IsSolidShape}
use Rattle.dk_levels.proofs.Joins.{joined-nothing, joined_assoc, joined-from, joined-behind, from-from}
use Rattle.dk_levels.proofs.Put.{reached_above, length-cell_triples, length-later_triples}

abbrev pub LowColumn : ℕ → Column → Type 0
LowColumn k [] = ⊤
LowColumn k (e ∷ es) = e.repetition ≤ k

-- no column begins above this repetition level
abbrev pub Low : ℕ → List Column → Type 0
Low k [] = ⊤
Low k (c ∷ cs) = LowColumn k c × Low k cs

abbrev pub BeginsColumn : ℕ → ℕ → Column → Type 0
BeginsColumn r d [] = ⊥
BeginsColumn r d (e ∷ es) = (e.repetition ≡ r) × (d ≤ e.definition)

-- each column begins at this repetition level, and at this definition level or above
abbrev pub Begin : ℕ → ℕ → List Column → Type 0
Begin r d [] = ⊤
Begin r d (c ∷ cs) = BeginsColumn r d c × Begin r d cs

pub begin-joined : (r d : ℕ) (a b : List Column) → Begin r d a → length b ≤ length a → Begin r d (columns_joined a b)
begin-joined r d [] [] h l = tt
begin-joined r d [] (y ∷ b) h l = absurd (omega arith)
begin-joined r d (x ∷ a) [] h l = h
begin-joined r d ([] ∷ a) (y ∷ b) h l = absurd h.0
begin-joined r d ((e ∷ es) ∷ a) (y ∷ b) h l = (h.0, begin-joined r d a b h.1 (omega arith))

begin-append : (r d : ℕ) (a b : List Column) → Begin r d a → Begin r d b → Begin r d (a ++ b)
begin-append r d [] b h g = g
begin-append r d (x ∷ a) b h g = (h.0, begin-append r d a b h.1 g)

begin-replicate : (r d e n : ℕ) (v : Option Value) → d ≤ e → Begin r d (replicate n (single_triple r e v))
begin-replicate r d e zero v h = tt
begin-replicate r d e (suc n) v h = ((refl, h), begin-replicate r d e n v h)

begin_lower : (r d e : ℕ) (ts : List Column) → d ≤ e → Begin r e ts → Begin r d ts
begin_lower r d e [] l h = tt
begin_lower r d e ([] ∷ ts) l h = absurd h.0
begin_lower r d e ((t ∷ c) ∷ ts) l h = ((h.0.0, omega (arith, h.0.1)), begin_lower r d e ts l h.1)

mutual
  pub begin_cell : (c : Datum) (f : Field) (r d k : ℕ) → Matches c f → Begin r d (cell_triples c f r d k)
  begin_cell null (field name b s) r d k h = begin-replicate r d d _ None (omega arith)
  begin_cell (atom v) f r d k h = ((refl, reached_above f d), tt)
  begin_cell (group cs) (field name b (shape.group fs)) r d k h = begin_lower r d _ _ (reached_above (field name b (shape.group fs)) d) (begin_group cs fs r _ k h)
  begin_cell (list cs) (field name b (shape.list f)) r d k h = begin_lower r d _ _ (reached_above (field name b (shape.list f)) d) (begin_list cs f r _ k h)
  begin_cell (list cs) (field name b (shape.map_of f)) r d k h = begin_lower r d _ _ (reached_above (field name b (shape.map_of f)) d) (begin_list cs (entry f) r _ k h)
  begin_cell (group cs) (field name b (shape.leaf l)) r d k h = absurd h
  begin_cell (group cs) (field name b (shape.list f)) r d k h = absurd h
  begin_cell (group cs) (field name b (shape.map_of f)) r d k h = absurd h
  begin_cell (list cs) (field name b (shape.leaf l)) r d k h = absurd h
  begin_cell (list cs) (field name b (shape.group fs)) r d k h = absurd h

  pub begin_group : (cs : Cells) (fs : Fields) (r d k : ℕ) → MatchEach cs fs → Begin r d (group_triples cs fs r d k)
  begin_group no_cells fs r d k h = tt
  begin_group (one_cell c cs) no_fields r d k h = tt
  begin_group (one_cell c cs) (one_field f fs) r d k h = begin-append r d _ _ (begin_cell c f r d k h.0) (begin_group cs fs r d k h.1)

  pub begin_list : (cs : Cells) (f : Field) (r d k : ℕ) → MatchAll cs f → Begin r d (list_triples cs f r d k)
  begin_list no_cells f r d k h = begin-replicate r d d _ None (omega arith)
  begin_list (one_cell c cs) f r d k h =
      begin-joined r d _ _ (begin_lower r d (d + 1) _ (omega arith) (begin_cell c f r (d + 1) (k + 1) h.0))
      (omega (arith, length-cell_triples c f r (d + 1) (k + 1) h.0, length-later_triples cs f (d + 1) (k + 1) h.1))

pub low-joined : (k : ℕ) (a b : List Column) → Low k a → Low k b → Low k (columns_joined a b)
low-joined k [] b h g = g
low-joined k (x ∷ a) [] h g = h
low-joined k ([] ∷ a) (y ∷ b) h g = (g.0, low-joined k a b h.1 g.1)
low-joined k ((e ∷ es) ∷ a) (y ∷ b) h g = (h.0, low-joined k a b h.1 g.1)

pub low_begin : (r d k : ℕ) (ts : List Column) → r ≤ k → Begin r d ts → Low k ts
low_begin r d k [] l h = tt
low_begin r d k ([] ∷ ts) l h = absurd h.0
low_begin r d k ((e ∷ es) ∷ ts) l h = (omega (arith, h.0.0), low_begin r d k ts l h.1)

pub low-from : (k place : ℕ) (ts : List Column) → Low k ts → Low k (from place ts)
low-from k zero ts h = h
low-from k (suc place) ts h = (tt, low-from k place ts h)

pub low_later : (cs : Cells) (f : Field) (d k : ℕ) → MatchAll cs f → Low k (later_triples cs f d k)
low_later no_cells f d k h = tt
low_later (one_cell c cs) f d k h = low-joined k _ _ (low_begin k d k _ (omega arith) (begin_cell c f k d k h.0)) (low_later cs f d k h.1)

pub low_raise : (j k : ℕ) (cs : List Column) → j ≤ k → Low j cs → Low k cs
low_raise j k [] l h = tt
low_raise j k ([] ∷ cs) l h = (tt, low_raise j k cs l h.1)
low_raise j k ((e ∷ es) ∷ cs) l h = (omega (arith, h.0), low_raise j k cs l h.1)

-- ---- the column at a place

differs : (a b : ℕ) → (a ≡ b → ⊥) → (a == b) ≡ false
differs a b n = elim (eqb_tells a b) [ inl p ↦ absurd (n p.1) | inr p ↦ p.0 ]

first-joined : (ts rest : List Column) → get_or (columns_joined ts rest) 0 [] ≡ get_or ts 0 [] ++ get_or rest 0 []
first-joined [] rest = refl
first-joined (t ∷ ts) [] = sym (append-nil t)
first-joined (t ∷ ts) (c ∷ cs) = refl

pub at-joined : (place : ℕ) (ts rest : List Column) → get_or (columns_joined (from place ts) rest) place [] ≡ get_or ts 0 [] ++ get_or rest place []
at-joined zero ts rest = first-joined ts rest
at-joined (suc place) ts [] = ap (λ x. get_or x place []) (sym (joined-nothing (from place ts))) ∙ at-joined place ts [] ∙ ap (λ x. get_or ts 0 [] ++ x) (nothing_there place)
  where
    nothing_there : (n : ℕ) → get_or {A = Column} [] n [] ≡ []
    nothing_there n = refl
at-joined (suc place) ts (c ∷ cs) = at-joined place ts cs

-- the first triple of columns that begin so
pub front : (r d : ℕ) (ts : List Column) → Begin r d ts → 0 < length ts → (e : Triple) × (es : Column) × (get_or ts 0 [] ≡ e ∷ es) × (e.repetition ≡ r) × (d ≤ e.definition)
front r d [] h l = absurd (omega arith)
front r d ([] ∷ ts) h l = absurd h.0
front r d ((e ∷ es) ∷ ts) h l = (e, es, refl, h.0.0, h.0.1)

pub same_repetition : (place r d : ℕ) (ts rest : List Column) → Begin r d ts → 0 < length ts → begins (at_repetition r) (columns_joined (from place ts) rest) place ≡ true
same_repetition place r d ts rest h l =
    let x = front r d ts h l in
    ap (head_is (at_repetition r)) (at-joined place ts rest) ∙ ap (λ c. head_is (at_repetition r) (c ++ get_or rest place [])) x.2 ∙ eq-eqb x.0.repetition r x.3

pub other_definition : (place r c d : ℕ) (ts rest : List Column) → Begin r d ts → c < d → 0 < length ts → begins (at_definition c) (columns_joined (from place ts) rest) place ≡ false
other_definition place r c d ts rest h l n =
    let x = front r d ts h n in
    let above : d ≤ x.0.definition = x.4 in
    ap (head_is (at_definition c)) (at-joined place ts rest) ∙ ap (λ z. head_is (at_definition c) (z ++ get_or rest place [])) x.2 ∙ differs x.0.definition c (λ e. let same : x.0.definition ≡ c = e in absurd (omega arith))

pub lower_repetition : (k j place : ℕ) (cs : List Column) → Low k cs → k < j → begins (at_repetition j) cs place ≡ false
lower_repetition k j place [] h l = refl
lower_repetition k j zero ([] ∷ cs) h l = refl
lower_repetition k j zero ((e ∷ es) ∷ cs) h l = differs e.repetition j (λ i. let same : e.repetition ≡ j = i in let low : e.repetition ≤ k = h.0 in absurd (omega arith))
lower_repetition k j (suc place) (c ∷ cs) h l = lower_repetition k j place cs h.1 l

pub same_definition : (place r d w : ℕ) (v : Option Value) (rest : List Column) → 0 < w → begins (at_definition d) (columns_joined (from place (replicate w (single_triple r d v))) rest) place ≡ true
same_definition place r d zero v rest h = absurd (omega arith)
same_definition place r d (suc w) v rest h = ap (head_is (at_definition d)) (at-joined place (replicate (suc w) (single_triple r d v)) rest) ∙ eq-eqb d d refl

-- ---- columns beside and behind one another

pub behind : (place : ℕ) (a b rest : List Column) → columns_joined (from place (columns_joined a b)) rest ≡ columns_joined (from place a) (columns_joined (from place b) rest)
behind place a b rest = ap (λ x. columns_joined x rest) (sym (joined-from place a b)) ∙ joined_assoc (from place a) (from place b) rest

pub beside : (place n : ℕ) (a b rest : List Column) → length a ≡ n → columns_joined (from place (a ++ b)) rest ≡ columns_joined (from place a) (columns_joined (from (place + n) b) rest)
beside place n a b rest e =
    ap (λ x. columns_joined x rest) (sym (ap (columns_joined (from place a)) (from-from place n b) ∙ joined-from place a (from n b)
    ∙ ap (from place) (ap (λ k. columns_joined a (from k b)) (sym e) ∙ joined-behind a b))) ∙ joined_assoc (from place a) (from (place + n) b) rest

pub empties : (place : ℕ) (rest : List Column) → place ≤ length rest → columns_joined (from place []) rest ≡ rest
empties zero rest h = refl
empties (suc place) [] h = absurd (omega arith)
empties (suc place) (c ∷ rest) h = ap (λ x. c ∷ x) (empties place rest (omega arith))

pub joined_longer : (a rest : List Column) → length rest ≤ length (columns_joined a rest)
joined_longer [] rest = omega arith
joined_longer (x ∷ a) [] = omega arith
joined_longer (x ∷ a) (c ∷ rest) = omega (arith, joined_longer a rest)

pub taken_suc : (s : Column) (c : Column) (cs : List Column) (place : ℕ) (e : Triple) (rest : List Column) → taken s cs place ≡ Some (e, rest) → taken s (c ∷ cs) (suc place) ≡ Some (e, c ∷ rest)
taken_suc [] c cs place e rest h = cc
taken_suc (t ∷ s) c cs place e rest h = ap (option_map (λ p. (p.0, c ∷ p.1))) h

pub triple_again : (place : ℕ) (e : Triple) (rest : List Column) → place < length rest → first_triple (columns_joined (from place ((e ∷ []) ∷ [])) rest) place ≡ Some (e, rest)
triple_again place e [] h = absurd (omega arith)
triple_again zero e (c ∷ rest) h = refl
triple_again (suc place) e (c ∷ rest) h = taken_suc _ c _ place e rest (triple_again place e rest (omega arith))

-- ---- widths

mutual
  pub wide_shape : (s : Shape) → IsSolidShape s → 0 < width_at s
  wide_shape (shape.leaf l) h = omega arith
  wide_shape (shape.group fs) h = h.0
  wide_shape (shape.list f) h = wide f h
  wide_shape (shape.map_of f) h = omega arith

  pub wide : (f : Field) → IsSolid f → 0 < width_in f
  wide (field name b s) h = wide_shape s h

-- ---- as many triples as elements

abbrev pub count : Cells → ℕ
count no_cells = 0
count (one_cell c cs) = 1 + count cs

count_first : (cs : Cells) (f : Field) (d k : ℕ) → MatchAll cs f → 0 < width_in f → count cs ≤ length (get_or (later_triples cs f d k) 0 [])
count_first no_cells f d k h w = omega arith
count_first (one_cell c cs) f d k h w =
    let x = front k d (cell_triples c f k d k) (begin_cell c f k d k h.0) (omega (arith, length-cell_triples c f k d k h.0)) in
    omega (arith, count_first cs f d k h.1 w, ap length (first-joined (cell_triples c f k d k) (later_triples cs f d k)), length-append (get_or (cell_triples c f k d k) 0 []) (get_or (later_triples cs f d k) 0 []), ap length x.2)

pub count_column : (place : ℕ) (cs : Cells) (f : Field) (d k : ℕ) (rest : List Column) → MatchAll cs f → 0 < width_in f → count cs ≤ column_length (columns_joined (from place (later_triples cs f d k)) rest) place
count_column place cs f d k rest h w =
    omega (arith, count_first cs f d k h w, ap length (at-joined place (later_triples cs f d k) rest), length-append (get_or (later_triples cs f d k) 0 []) (get_or rest place []))
