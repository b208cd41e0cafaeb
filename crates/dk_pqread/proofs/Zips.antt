-- Triples of levels and values are those whose levels and values they are.
use Rattle.std.proofs.Common.{◌≡◌, ℕ, suc, ◌+◌, ◌≤◌, nat_le, Bool, true, false, cond, ◌&&◌, ◌==◌, IsTrue, subst, Option, Some, None, List, [], ◌∷◌, ◌++◌, length, map, refl, sym, ap, ◌∙◌, arith}
use Rattle.std.specs.Option.{option_map}
use Rattle.std.specs.Prelude.{is_some}
use Rattle.std.specs.List.{AllByRecursion, filter_map, cons_option}
use Rattle.std.proofs.lemmas.Bool.{leb-true, le-leb, and_parts, eqb-true}
use Rattle.std.proofs.Common.{eq-eqb, zero-add}
use Rattle.std.proofs.lemmas.List.Sums.{sum_by-cons}
use Rattle.dk_pqmodel.specs.Datum.{Value, Triple, Column}
use Rattle.dk_pqmodel.specs.FilePages.{IsFull}
use Rattle.dk_pqread.specs.Meanings.{triple_with, full_triple, one_triple, zipped, full_count}
use Rattle.dk_pqread.proofs.PartLaws.{none_is_not_some, some_is, some_bound}

-- a triple of these levels, whose value, if it has one, stands before the others
pub record IsNext (rep def r d : ℕ) (vs : List Value) (e : Triple) (rest : List Value) : Type 0 where
  pub repetition : e.repetition ≡ r
  pub definition : e.definition ≡ d
  pub values : vs ≡ filter_map (λ x. x.value) (e ∷ []) ++ rest
  pub full : IsFull def e
  pub low : e.repetition ≤ rep

abbrev Next : Type 0
Next = Triple × List Value

by_full : (rep def r d : ℕ) (b : Bool) (vs rest : List Value) (e : Triple) → (d == def) ≡ b → r ≤ rep → d ≤ def
    → ◌≡◌ {A = Option Next} (cond b (full_triple r d vs) (Some (triple_with r d None, vs))) (Some (e, rest)) → IsNext rep def r d vs e rest
by_full rep def r d true [] rest e is low within h = absurd (none_is_not_some (e, rest) h)
by_full rep def r d true (v ∷ vs) rest e is low within h =
    let same : ◌≡◌ {A = Next} (triple_with r d (Some v), vs) (e, rest) = some_is (triple_with r d (Some v), vs) (e, rest) h in
    let equal : d ≡ def = eqb-true d def is in
    subst_next same equal
  where
    subst_next : ◌≡◌ {A = Next} (triple_with r d (Some v), vs) (e, rest) → d ≡ def → IsNext rep def r d (v ∷ vs) e rest
    subst_next same equal =
        subst (λ (y : Triple × List Value). IsNext rep def r d (v ∷ vs) y.0 y.1) same
        (record { repetition = refl; definition = refl; values = refl; full = (within, (λ _. equal, λ _. refl)); low = low })
by_full rep def r d false vs rest e is low within h =
    let same : ◌≡◌ {A = Next} (triple_with r d None, vs) (e, rest) = some_is (triple_with r d None, vs) (e, rest) h in
    subst (λ (y : Triple × List Value). IsNext rep def r d vs y.0 y.1) same
    (record { repetition = refl; definition = refl; values = refl; full = (within, (λ t. cc, λ equal. (let yes : (d == def) ≡ true = eq-eqb d def equal in cc))); low = low })

one_found : (rep def r d : ℕ) (vs rest : List Value) (e : Triple) → ◌≡◌ {A = Option Next} (one_triple rep def r d vs) (Some (e, rest)) → IsNext rep def r d vs e rest
one_found rep def r d vs rest e h = by_low (nat_le r rep && nat_le d def) refl h
  where
    by_low : (b : Bool) → (nat_le r rep && nat_le d def) ≡ b → ◌≡◌ {A = Option Next} (cond b (cond (d == def) (full_triple r d vs) (Some (triple_with r d None, vs))) None) (Some (e, rest)) → IsNext rep def r d vs e rest
    by_low true is g =
        let both = and_parts (nat_le r rep) (nat_le d def) is in
        by_full rep def r d (d == def) vs rest e refl (leb-true r rep both.0) (leb-true d def both.1) g
    by_low false is g = absurd (none_is_not_some (e, rest) g)

-- the triples have these levels and values, and those that are full have a value
pub record AreZipped (rep def : ℕ) (rs ds : List ℕ) (vs : List Value) (es : Column) : Type 0 where
  pub repetitions : map (λ e. e.repetition) es ≡ rs
  pub definitions : map (λ e. e.definition) es ≡ ds
  pub values : filter_map (λ e. e.value) es ≡ vs
  pub full : AllByRecursion (IsFull def) es
  pub low : AllByRecursion (λ e. e.repetition ≤ rep) es

map_bound : {A B : Type 0} (o : Option A) (f : A → B) (y : B) → option_map f o ≡ Some y → (x : A) × ((o ≡ Some x) × (f x ≡ y))
map_bound None f y h = absurd (none_is_not_some y h)
map_bound (Some x) f y h = (x, (refl, some_is (f x) y h))

one_value : (e : Triple) (es : Column) → filter_map (λ x. x.value) (e ∷ es) ≡ filter_map (λ x. x.value) (e ∷ []) ++ filter_map (λ x. x.value) es
one_value e es = by_value e.value refl
  where
    by_value : (o : Option Value) → e.value ≡ o → filter_map (λ x. x.value) (e ∷ es) ≡ filter_map (λ x. x.value) (e ∷ []) ++ filter_map (λ x. x.value) es
    by_value None is = rw is refl
    by_value (Some v) is = rw is refl

pub zipped_found : (rep def : ℕ) (rs ds : List ℕ) (vs : List Value) (es : Column) → zipped rep def rs ds vs ≡ Some es → AreZipped rep def rs ds vs es
zipped_found rep def [] [] [] es h = (
    let same : [] ≡ es = some_is [] es h in
    subst (AreZipped rep def [] [] []) same (record { repetitions = refl; definitions = refl; values = refl; full = tt; low = tt }))
zipped_found rep def (r ∷ rs) (d ∷ ds) vs es h =
    let x = some_bound (one_triple rep def r d vs) (λ x. option_map (λ es. x.0 ∷ es) (zipped rep def rs ds x.1)) es h in
    let y = map_bound (zipped rep def rs ds x.0.1) (λ es. x.0.0 ∷ es) es x.1.1 in
    let first = one_found rep def r d vs (x.0.1) (x.0.0) x.1.0 in
    let rest = zipped_found rep def rs ds (x.0.1) y.0 y.1.0 in
    subst (AreZipped rep def (r ∷ rs) (d ∷ ds) vs) y.1.1 (record {
      repetitions = cc (first.repetition, rest.repetitions);
      definitions = cc (first.definition, rest.definitions);
      values = one_value (x.0.0) y.0 ∙ ap (λ z. filter_map (λ e. e.value) (x.0.0 ∷ []) ++ z) rest.values ∙ sym first.values;
      full = (first.full, rest.full);
      low = (first.low, rest.low);
    })
zipped_found rep def [] [] (v ∷ vs) es h = absurd (none_is_not_some es h)
zipped_found rep def [] (d ∷ ds) vs es h = absurd (none_is_not_some es h)
zipped_found rep def (r ∷ rs) [] vs es h = absurd (none_is_not_some es h)

-- ---- and what has the levels is found

value_is : (e : Triple) (def : ℕ) (vs : List Value) → e.definition ≡ def → IsTrue (is_some e.value) → ◌≡◌ {A = Option Next} (full_triple e.repetition e.definition (filter_map (λ x. x.value) (e ∷ []) ++ vs)) (Some (e, vs))
value_is e def vs is some = by_value e.value refl
  where
    by_value : (o : Option Value) → e.value ≡ o → ◌≡◌ {A = Option Next} (full_triple e.repetition e.definition (filter_map (λ x. x.value) (e ∷ []) ++ vs)) (Some (e, vs))
    by_value None gone = (let no : is_some e.value ≡ false = ap is_some gone in cc)
    by_value (Some v) there = rw there refl

no_value : (e : Triple) (vs : List Value) → (IsTrue (is_some e.value) → ⊥) → ◌≡◌ {A = Option Next} (Some (triple_with e.repetition e.definition None, filter_map (λ x. x.value) (e ∷ []) ++ vs)) (Some (e, vs))
no_value e vs none = by_value e.value refl
  where
    by_value : (o : Option Value) → e.value ≡ o → ◌≡◌ {A = Option Next} (Some (triple_with e.repetition e.definition None, filter_map (λ x. x.value) (e ∷ []) ++ vs)) (Some (e, vs))
    by_value None gone = rw gone refl
    by_value (Some v) there = absurd (none (ap is_some there))

one_given : (rep def : ℕ) (e : Triple) (vs : List Value) → IsFull def e → e.repetition ≤ rep → ◌≡◌ {A = Option Next} (one_triple rep def e.repetition e.definition (filter_map (λ x. x.value) (e ∷ []) ++ vs)) (Some (e, vs))
one_given rep def e vs full low = rw (le-leb e.repetition rep low, le-leb e.definition def full.0) (by_full (e.definition == def) refl)
  where
    by_full : (b : Bool) → (e.definition == def) ≡ b
        → ◌≡◌ {A = Option Next} (cond b (full_triple e.repetition e.definition (filter_map (λ x. x.value) (e ∷ []) ++ vs)) (Some (triple_with e.repetition e.definition None, filter_map (λ x. x.value) (e ∷ []) ++ vs))) (Some (e, vs))
    by_full true is = (let equal = eqb-true e.definition def is in value_is e def vs equal (full.1.1 equal))
    by_full false is = no_value e vs (λ some. (let yes : (e.definition == def) ≡ true = eq-eqb e.definition def (full.1.0 some) in cc))

pub zipped_given : (rep def : ℕ) (es : Column) → AllByRecursion (IsFull def) es → AllByRecursion (λ e. e.repetition ≤ rep) es
    → zipped rep def (map (λ e. e.repetition) es) (map (λ e. e.definition) es) (filter_map (λ e. e.value) es) ≡ Some es
zipped_given rep def [] full low = refl
zipped_given rep def (e ∷ es) full low =
    rw (one_value e es, one_given rep def e (filter_map (λ x. x.value) es) full.0 low.0, zipped_given rep def es full.1 low.1) refl

-- as many values as definition levels that are the greatest
filled : (e : Triple) (es : Column) (v : Value) → e.value ≡ Some v → length (filter_map (λ x. x.value) (e ∷ es)) ≡ 1 + length (filter_map (λ x. x.value) es)
filled e es v there =
    let one : length (cons_option e.value (filter_map (λ (x : Triple). x.value) es)) ≡ suc (length (filter_map (λ (x : Triple). x.value) es)) = ap (λ o. length (cons_option o (filter_map (λ (x : Triple). x.value) es))) there in
    omega (arith, one)

lacking : (e : Triple) (es : Column) → e.value ≡ None → length (filter_map (λ x. x.value) (e ∷ es)) ≡ length (filter_map (λ x. x.value) es)
lacking e es gone = ap (λ o. length (cons_option o (filter_map (λ (x : Triple). x.value) es))) gone

count_more : (def : ℕ) (e : Triple) (es : Column) (b : Bool) (o : Option Value) → (e.definition == def) ≡ b → e.value ≡ o → IsFull def e
    → length (filter_map (λ x. x.value) es) ≡ full_count def (map (λ x. x.definition) es) → length (filter_map (λ x. x.value) (e ∷ es)) ≡ full_count def (map (λ x. x.definition) (e ∷ es))
count_more def e es true None is gone full rest = (
    let some : is_some e.value ≡ true = full.1.1 (eqb-true e.definition def is) in
    let no : is_some e.value ≡ false = ap is_some gone in cc)
count_more def e es true (Some v) is there full rest =
    let counted : cond (e.definition == def) 1 0 + full_count def (map (λ (x : Triple). x.definition) es) ≡ 1 + full_count def (map (λ (x : Triple). x.definition) es) =
    ap (λ b. cond b 1 0 + full_count def (map (λ (x : Triple). x.definition) es)) is in
    filled e es v there ∙ ap (λ n. 1 + n) rest ∙ sym (sum_by-cons (λ x. cond (x == def) 1 0) e.definition (map (λ (x : Triple). x.definition) es) ∙ counted)
count_more def e es false None is gone full rest =
    let counted : cond (e.definition == def) 1 0 + full_count def (map (λ (x : Triple). x.definition) es) ≡ 0 + full_count def (map (λ (x : Triple). x.definition) es) =
    ap (λ b. cond b 1 0 + full_count def (map (λ (x : Triple). x.definition) es)) is in
    lacking e es gone ∙ rest ∙ sym (sum_by-cons (λ x. cond (x == def) 1 0) e.definition (map (λ (x : Triple). x.definition) es) ∙ counted ∙ zero-add (full_count def (map (λ (x : Triple). x.definition) es)))
count_more def e es false (Some v) is there full rest = (let yes : (e.definition == def) ≡ true = eq-eqb e.definition def (full.1.0 (ap is_some there)) in cc)

pub values_count : (def : ℕ) (es : Column) → AllByRecursion (IsFull def) es → length (filter_map (λ e. e.value) es) ≡ full_count def (map (λ e. e.definition) es)
values_count def [] full = refl
values_count def (e ∷ es) full = count_more def e es (e.definition == def) e.value refl refl full.0 (values_count def es full.1)
