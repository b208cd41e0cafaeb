-- What is read off the fronts of columns are the triples of the cell that is read.
use Rattle.std.proofs.Common.{◌≡◌, ℕ, zero, suc, ◌+◌, ◌<◌, ◌≤◌, Bool, true, false, cond, ◌&&◌, ◌==◌, List, [], ◌∷◌, ◌++◌, length, get_or, set, replicate, refl, sym, ap, subst, ◌∙◌, arith, Some, None, Option, ◌⊎◌, inl, inr, eqb-true}
use Rattle.std.specs.Option.{option_map, is_none}
use Rattle.std.proofs.lemmas.List.{append-nil}
use Rattle.dk_pqmodel.specs.Shape.{Leaf, Shape, Field, Fields, field, no_fields, one_field, width_at, width_in, width_of, entry, key, root}
use Rattle.dk_pqmodel.specs.Shape as shape
use Rattle.dk_pqmodel.specs.Datum.{Value, Datum, null, atom, group, list, Cells, no_cells, Triple, Column, single_triple}
use Rattle.dk_pqmodel.specs.Triples.{columns_joined, cell_triples, group_triples, list_triples, later_triples, empty_columns, triples}
use Rattle.dk_pqmodel.specs.Fits.{Matches, MatchEach, MatchAll}
use Rattle.dk_levels.specs.Places.{from}
use Rattle.dk_levels.specs.Reading.{begins, at_definition, at_repetition, taken, first_triple, guarded, ◌>>=◌, nothing_at, some_at, none_at, leaf_at, Reader, later_at, list_cells_at, pair_at, present_at, cell_at, cells_at, all_empty, rows_at}
use Rattle.dk_levels.proofs.Begins.{behind, beside, empties}
use Rattle.dk_levels.proofs.Again.{pads}
use Rattle.dk_levels.proofs.Put.{length-cell_triples}

bind_ok : {A B : Type 0} (o : Option A) (f : A → Option B) (y : B) → (o >>= f) ≡ Some y → (x : A) × (o ≡ Some x) × (f x ≡ Some y)
bind_ok None f y h = cc
bind_ok (Some x) f y h = (x, refl, h)

map_ok : {A B : Type 0} (o : Option A) (f : A → B) (y : B) → option_map f o ≡ Some y → (x : A) × (o ≡ Some x) × (f x ≡ y)
map_ok None f y h = cc
map_ok (Some x) f y h = (x, refl, cc)

guard_ok : {A : Type 0} (b : Bool) (x y : A) → guarded b x ≡ Some y → (b ≡ true) × (x ≡ y)
guard_ok true x y h = (refl, cc)
guard_ok false x y h = cc

pub both_true : (a b : Bool) → (a && b) ≡ true → (a ≡ true) × (b ≡ true)
both_true true b h = (refl, h)
both_true false b h = cc

chosen : {A : Type 0} (b : Bool) (x y z : A) → cond b x y ≡ z → ((b ≡ true) × (x ≡ z)) ⊎ ((b ≡ false) × (y ≡ z))
chosen true x y z h = inl (refl, h)
chosen false x y z h = inr (refl, h)

-- these triples stood at the fronts
pub record Takes (cs : List Column) (place : ℕ) (ts rest : List Column) : Type 0 where
  pub whole : cs ≡ columns_joined (from place ts) rest
  pub long : length rest ≡ length cs

pub record TakesTriple (cs : List Column) (place : ℕ) (p : Triple × List Column) : Type 0 where
  pub takes : Takes cs place ((p.0 ∷ []) ∷ []) p.1
  pub within : place < length cs

some_is : {A : Type 0} (x y : A) → Some x ≡ Some y → x ≡ y
some_is x y h = cc

taken_pred : (s c : Column) (cs : List Column) (place : ℕ) (p : Triple × List Column) → taken s (c ∷ cs) (suc place) ≡ Some p → (rest : List Column) × (taken s cs place ≡ Some (p.0, rest)) × (p.1 ≡ c ∷ rest)
taken_pred [] c cs place p h = cc
taken_pred (e ∷ es) c cs place p h =
    let i : (e, c ∷ set cs place es) ≡ p = some_is _ _ h in
    (set cs place es, ap (λ q. Some (q.0, set cs place es)) i, sym (ap (λ q. q.1) i))

pub triple_takes : (cs : List Column) (place : ℕ) (p : Triple × List Column) → first_triple cs place ≡ Some p → TakesTriple cs place p
triple_takes [] place p h = cc
triple_takes ([] ∷ cs) zero p h = cc
triple_takes ((e ∷ es) ∷ cs) zero p h =
    subst (TakesTriple ((e ∷ es) ∷ cs) zero) (some_is _ _ h) (record { takes = record { whole = refl; long = refl }; within = omega arith })
triple_takes (c ∷ cs) (suc place) p h =
    let q = taken_pred (get_or cs place []) c cs place p h in
    let t = triple_takes cs place (p.0, q.0) q.1 in
    record {
      takes = record { whole = ap (λ x. c ∷ x) t.takes.whole ∙ ap (columns_joined (from (suc place) ((p.0 ∷ []) ∷ []))) (sym q.2); long = ap length q.2 ∙ ap suc t.takes.long };
      within = omega (arith, t.within);
    }

none_is : {A : Type 0} (o : Option A) → is_none o ≡ true → o ≡ None
none_is None h = refl
none_is (Some x) h = cc

-- an entry, part by part
triple_is : (e : Triple) (r d : ℕ) (v : Option Value) → e.repetition ≡ r → e.definition ≡ d → e.value ≡ v → (e ∷ []) ≡ single_triple r d v
triple_is e r d v hr hd hv = ap (λ x. single_triple x e.definition e.value) hr ∙ ap (λ x. single_triple r x e.value) hd ∙ ap (single_triple r d) hv

beside_takes : (place n : ℕ) (a b cs between rest : List Column) → length a ≡ n → Takes cs place a between → Takes between (place + n) b rest → Takes cs place (a ++ b) rest
beside_takes place n a b cs between rest e one more = record {
  whole = one.whole ∙ ap (columns_joined (from place a)) more.whole ∙ sym (beside place n a b rest e);
  long = more.long ∙ one.long;
}

behind_takes : (place : ℕ) (a b cs between rest : List Column) → Takes cs place a between → Takes between place b rest → Takes cs place (columns_joined a b) rest
behind_takes place a b cs between rest one more = record {
  whole = one.whole ∙ ap (columns_joined (from place a)) more.whole ∙ sym (behind place a b rest);
  long = more.long ∙ one.long;
}

pub nothing_takes : (w r d place : ℕ) (cs rest : List Column) → place + w ≤ length cs → nothing_at w r d place cs ≡ Some rest → Takes cs place (replicate w (single_triple r d None)) rest
nothing_takes zero r d place cs rest room h =
    subst (Takes cs place []) (some_is _ _ h) (record { whole = sym (empties place cs (omega arith)); long = refl })
nothing_takes (suc w) r d place cs rest room h =
    let g = bind_ok (none_at r d place cs) _ rest h in
    let b = bind_ok (first_triple cs place) _ g.0 g.1 in
    let ok = guard_ok _ _ _ b.2 in
    let t = triple_takes cs place b.0 b.1 in
    let two = both_true _ _ ok.0 in
    let three = both_true _ _ two.0 in
    let is : (b.0.0 ∷ []) ≡ single_triple r d None = triple_is b.0.0 r d None (eqb-true _ _ three.0) (eqb-true _ _ three.1) (none_is b.0.0.value two.1) in
    let one : Takes cs place (single_triple r d None ∷ []) g.0 = subst (λ x. Takes cs place (single_triple r d None ∷ []) x) ok.1 (subst (λ e. Takes cs place (e ∷ []) b.0.1) is t.takes) in
    beside_takes place 1 (single_triple r d None ∷ []) (replicate w (single_triple r d None)) cs g.0 rest refl one
    (nothing_takes w r d (place + 1) g.0 rest (omega (arith, one.long)) g.2)

-- a cell that was read, with the triples of a field
pub record TakesCell (cs : List Column) (f : Field) (r d k place : ℕ) (p : Datum × List Column) : Type 0 where
  pub fits : Matches p.0 f
  pub takes : Takes cs place (cell_triples p.0 f r d k) p.1

pub record TakesAll (cs : List Column) (f : Field) (d k place : ℕ) (p : Cells × List Column) : Type 0 where
  pub fits : MatchAll p.0 f
  pub takes : Takes cs place (later_triples p.0 f d k) p.1
  pub ends : begins (at_repetition k) p.1 place ≡ false

pub record TakesList (cs : List Column) (f : Field) (r d k place : ℕ) (p : Cells × List Column) : Type 0 where
  pub fits : MatchAll p.0 f
  pub takes : Takes cs place (list_triples p.0 f r d k) p.1

pub record TakesEach (cs : List Column) (fs : Fields) (r d k place : ℕ) (p : Cells × List Column) : Type 0 where
  pub fits : MatchEach p.0 fs
  pub takes : Takes cs place (group_triples p.0 fs r d k) p.1

pub record ReadsCells (read : Reader) (f : Field) (r d k place : ℕ) : Type 0 where
  pub reads : (cs : List Column) (p : Datum × List Column) → place + width_in f ≤ length cs → read cs ≡ Some p → TakesCell cs f r d k place p

leaf_takes : (l : Leaf) (b : Bool) (name : List ℕ) (r d k place : ℕ) (cs : List Column) (p : Datum × List Column) → leaf_at l r d place cs ≡ Some p → TakesCell cs (field [] false (shape.leaf l)) r d k place p
leaf_takes l b name r d k place cs p h =
    let got = bind_ok (some_at r d place cs) _ p h in
    let fit = guard_ok _ _ _ got.2 in
    let one = bind_ok (first_triple cs place) _ got.0 got.1 in
    let two = bind_ok _ _ got.0 one.2 in
    let three = map_ok _ _ got.0 two.2 in
    let ok = guard_ok _ _ _ two.1 in
    let t = triple_takes cs place one.0 one.1 in
    let both = both_true _ _ ok.0 in
    let is : (one.0.0 ∷ []) ≡ single_triple r d (Some three.0) = triple_is one.0.0 r d (Some three.0) (eqb-true _ _ both.0) (eqb-true _ _ both.1) three.1 in
    let taken : Takes cs place (single_triple r d (Some three.0) ∷ []) two.0 = subst (λ x. Takes cs place (single_triple r d (Some three.0) ∷ []) x) ok.1 (subst (λ e. Takes cs place (e ∷ []) one.0.1) is t.takes) in
    let all : Takes cs place (single_triple r d (Some got.0.0) ∷ []) got.0.1 = subst (λ q. Takes cs place (single_triple r d (Some q.0) ∷ []) q.1) three.2 taken in
    subst (TakesCell cs (field [] false (shape.leaf l)) r d k place) fit.1 (record { fits = fit.0; takes = all })

later_takes : (f : Field) (read : Reader) (d j place : ℕ) → ReadsCells read f j d j place → (n : ℕ) (cs : List Column) (p : Cells × List Column) → place + width_in f ≤ length cs
    → later_at read (λ ds. begins (at_repetition j) ds place) n cs ≡ Some p → TakesAll cs f d j place p
later_takes f read d j place reads zero cs p room h =
    elim (chosen (begins (at_repetition j) cs place) None (Some (no_cells, cs)) (Some p) h) [
      | inl x ↦ (let no : None ≡ Some p = x.1 in cc)
      | inr x ↦ subst (TakesAll cs f d j place) (some_is _ _ x.1) (record { fits = tt; takes = record { whole = sym (empties place cs (omega arith)); long = refl }; ends = x.0 })
    ]
later_takes f read d j place reads (suc n) cs p room h =
    elim (chosen (begins (at_repetition j) cs place) _ (Some (no_cells, cs)) (Some p) h) [
      | inl x ↦ (
          let one = bind_ok (read cs) _ p x.1 in
          let two = bind_ok _ _ p one.2 in
          let t = reads.reads cs one.0 room one.1 in
          let more = later_takes f read d j place reads n one.0.1 two.0 (omega (arith, t.takes.long)) two.1 in
          subst (TakesAll cs f d j place) (some_is _ _ two.2) (record { fits = (t.fits, more.fits); takes = behind_takes place _ _ cs one.0.1 two.0.1 t.takes more.takes; ends = more.ends }))
      | inr x ↦ subst (TakesAll cs f d j place) (some_is _ _ x.1) (record { fits = tt; takes = record { whole = sym (empties place cs (omega arith)); long = refl }; ends = x.0 })
    ]

list_takes : (f : Field) (first later : Reader) (r d k place : ℕ) → ReadsCells first f r (d + 1) (k + 1) place → ReadsCells later f (k + 1) (d + 1) (k + 1) place
    → (cs : List Column) (p : Cells × List Column) → place + width_in f ≤ length cs → list_cells_at first later (width_in f) r d k place cs ≡ Some p → TakesList cs f r d k place p
list_takes (field name b s) first later r d k place one more cs p room h =
    let f : Field = field name b s in
    elim (chosen (begins (at_definition d) cs place) _ _ (Some p) h) [
      | inl x ↦ (
          let n = bind_ok _ _ p x.1 in
          subst (TakesList cs f r d k place) (some_is _ _ n.2) (record { fits = tt; takes = nothing_takes (width_in f) r d place cs n.0 room n.1 }))
      | inr x ↦ (
          let c = bind_ok _ _ p x.1 in
          let m = bind_ok _ _ p c.2 in
          let t = one.reads cs c.0 room c.1 in
          let u = later_takes f later (d + 1) (k + 1) place more _ c.0.1 m.0 (omega (arith, t.takes.long)) m.1 in
          subst (TakesList cs f r d k place) (some_is _ _ m.2) (record { fits = (t.fits, u.fits); takes = behind_takes place _ _ cs c.0.1 m.0.1 t.takes u.takes }))
    ]

pair_takes : (f : Field) (value : Reader) (r d k place : ℕ) → ReadsCells value f r d k (place + 1) → (cs : List Column) (p : Datum × List Column)
    → place + width_in (entry f) ≤ length cs → pair_at value r d place cs ≡ Some p → TakesCell cs (entry f) r d k place p
pair_takes f value r d k place back cs p room h =
    let one = bind_ok (leaf_at shape.chars r d place cs) _ p h in
    let two = bind_ok _ _ p one.2 in
    let t = leaf_takes shape.chars false [] r d k place cs one.0 one.1 in
    let u = back.reads one.0.1 two.0 (omega (arith, t.takes.long)) two.1 in
    let n : length (cell_triples one.0.0 key r d k) ≡ 1 = length-cell_triples one.0.0 key r d k t.fits in
    subst (TakesCell cs (entry f) r d k place) (some_is _ _ two.2)
    (record { fits = (t.fits, (u.fits, tt)); takes = rw (append-nil (cell_triples two.0.0 f r d k)) (beside_takes place 1 _ _ cs one.0.1 two.0.1 n t.takes u.takes) })

-- what fits a field that can't be null fits the field that can
lifted : (c : Datum) (name : List ℕ) (b : Bool) (s : Shape) (r d k : ℕ) → Matches c (field [] false s)
    → Matches c (field name b s) × (cell_triples c (field [] false s) r (cond b (d + 1) d) k ≡ cell_triples c (field name b s) r d k)
lifted null name b s r d k h = cc
lifted (atom v) name b s r d k h = (h, refl)
lifted (group cs) name b s r d k h = (h, refl)
lifted (list cs) name b s r d k h = (h, refl)

mutual
  present_takes : (s : Shape) (r d k place : ℕ) (cs : List Column) (p : Datum × List Column) → place + width_at s ≤ length cs → present_at s r d k place cs ≡ Some p
      → TakesCell cs (field [] false s) r d k place p
  present_takes (shape.leaf l) r d k place cs p room h = leaf_takes l false [] r d k place cs p h
  present_takes (shape.group fs) r d k place cs p room h =
      let m = map_ok _ _ p h in
      let t = each_takes fs r d k place cs m.0 room m.1 in
      subst (TakesCell cs (field [] false (shape.group fs)) r d k place) m.2 (record { fits = t.fits; takes = t.takes })
  present_takes (shape.list f) r d k place cs p room h =
      let m = map_ok _ _ p h in
      let t = list_takes f _ _ r d k place (record { reads = λ ds q l e. cell_takes f r (d + 1) (k + 1) place ds q l e }) (record { reads = λ ds q l e. cell_takes f (k + 1) (d + 1) (k + 1) place ds q l e }) cs m.0 room m.1 in
      subst (TakesCell cs (field [] false (shape.list f)) r d k place) m.2 (record { fits = t.fits; takes = t.takes })
  present_takes (shape.map_of f) r d k place cs p room h =
      let m = map_ok _ _ p h in
      let first : Reader = pair_at (cell_at f r (d + 1) (k + 1) (place + 1)) r (d + 1) place in
      let later : Reader = pair_at (cell_at f (k + 1) (d + 1) (k + 1) (place + 1)) (k + 1) (d + 1) place in
      let one : ReadsCells first (entry f) r (d + 1) (k + 1) place = record {
        reads = λ ds q l e. pair_takes f _ r (d + 1) (k + 1) place
            (record { reads = λ ds q l e. cell_takes f r (d + 1) (k + 1) (place + 1) ds q l e }) ds q l e;
      } in
      let more : ReadsCells later (entry f) (k + 1) (d + 1) (k + 1) place = record {
        reads = λ ds q l e. pair_takes f _ (k + 1) (d + 1) (k + 1) place
            (record { reads = λ ds q l e. cell_takes f (k + 1) (d + 1) (k + 1) (place + 1) ds q l e }) ds q l e;
      } in
      let w : 1 + width_in f ≡ width_in (entry f) = omega arith in
      let t = list_takes (entry f) first later r d k place one more cs m.0 (omega arith) (ap (λ n. list_cells_at first later n r d k place cs) (sym w) ∙ m.1) in
      subst (TakesCell cs (field [] false (shape.map_of f)) r d k place) m.2 (record { fits = t.fits; takes = t.takes })

  pub cell_takes : (f : Field) (r d k place : ℕ) (cs : List Column) (p : Datum × List Column) → place + width_in f ≤ length cs → cell_at f r d k place cs ≡ Some p → TakesCell cs f r d k place p
  cell_takes (field name b s) r d k place cs p room h =
      elim (chosen (b && begins (at_definition d) cs place) _ _ (Some p) h) [
        | inl x ↦ (
            let n = bind_ok _ _ p x.1 in
            subst (TakesCell cs (field name b s) r d k place) (some_is _ _ n.2) (record { fits = (both_true _ _ x.0).0; takes = nothing_takes (width_at s) r d place cs n.0 room n.1 }))
        | inr x ↦ (
            let t = present_takes s r (cond b (d + 1) d) k place cs p room x.1 in
            let l = lifted p.0 name b s r d k t.fits in
            record { fits = l.0; takes = subst (λ ts. Takes cs place ts p.1) l.1 t.takes })
      ]

  pub each_takes : (fs : Fields) (r d k place : ℕ) (cs : List Column) (p : Cells × List Column) → place + width_of fs ≤ length cs → cells_at fs r d k place cs ≡ Some p → TakesEach cs fs r d k place p
  each_takes no_fields r d k place cs p room h =
      subst (TakesEach cs no_fields r d k place) (some_is _ _ h) (record { fits = tt; takes = record { whole = sym (empties place cs (omega arith)); long = refl } })
  each_takes (one_field f fs) r d k place cs p room h =
      let one = bind_ok _ _ p h in
      let two = bind_ok _ _ p one.2 in
      let t = cell_takes f r d k place cs one.0 (omega arith) one.1 in
      let u = each_takes fs r d k (place + width_in f) one.0.1 two.0 (omega (arith, t.takes.long)) two.1 in
      subst (TakesEach cs (one_field f fs) r d k place) (some_is _ _ two.2)
      (record { fits = (t.fits, u.fits); takes = beside_takes place (width_in f) _ _ cs one.0.1 two.0.1 (length-cell_triples one.0.0 f r d k t.fits) t.takes u.takes })

only_empty : (cs : List Column) → all_empty cs ≡ true → cs ≡ empty_columns (length cs)
only_empty [] h = refl
only_empty ([] ∷ cs) h = ap (λ x. [] ∷ x) (only_empty cs h)
only_empty ((e ∷ es) ∷ cs) h = cc

-- Rows that are read have these triples.
pub rows_take : (fs : Fields) (cs : List Column) (rows : Cells) → rows_at fs cs ≡ Some rows → MatchAll rows (root fs) × (cs ≡ triples fs rows)
rows_take fs cs rows h =
    let g = bind_ok (guarded (length cs == width_of fs) cs) _ rows h in
    let l = guard_ok _ _ _ g.1 in
    let m = bind_ok _ _ rows g.2 in
    let long : length g.0 ≡ width_of fs = ap length (sym l.1) ∙ eqb-true _ _ l.0 in
    let t = later_takes (root fs) (cell_at (root fs) 0 0 0 0) 0 0 0 (record { reads = λ ds q n e. cell_takes (root fs) 0 0 0 0 ds q n e }) _ g.0 m.0 (omega arith) m.1 in
    let e = guard_ok _ _ _ m.2 in
    let rest : m.0.1 ≡ empty_columns (width_of fs) = only_empty _ e.0 ∙ ap empty_columns (t.takes.long ∙ long) in (
      subst (λ x. MatchAll x (root fs)) e.1 t.fits,
      l.1 ∙ t.takes.whole ∙ ap (columns_joined (later_triples m.0.0 (root fs) 0 0)) rest ∙ sym (pads (width_of fs) (later_triples m.0.0 (root fs) 0 0)) ∙ ap (triples fs) e.1,
    )
