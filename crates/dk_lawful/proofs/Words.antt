-- The last words of the actions that are written of a state.
use Rattle.std.proofs.Common.{◌≡◌, ℕ, zero, suc, Bool, true, false, cond, ◌&&◌, List, [], ◌∷◌, ◌++◌, map, filter, take, drop, Option, Some, None, option_map, if◌then◌else◌, refl, sym, ap, subst, ◌∙◌}
use Rattle.std.specs.Option.{option_or}
use Rattle.std.specs.Prelude.{is_some, T}
use Rattle.std.specs.List.{AllByRecursion}
use Rattle.std.specs.Ordering.{nat_cmp, is_lt, is_eq, ordering_reverse}
use Rattle.std.specs.Cmp.Lexicographic.{slice_cmp}
use Rattle.std.specs.declared.cmp.Ordering.{Ordering}
use Rattle.std.specs.declared.cmp.Ordering.TheVariants.{Less, Equal, Greater}
use Rattle.std.specs.FinMap.{get, find, entries, get-entries, entries_sorted, is_sorted}
use Rattle.std.specs.FinMap.Entries.{below_all}
use Rattle.std.proofs.lemmas.Cmp.{nat_list_cmp_total}
use Rattle.dk_model.specs.declared.action.Action.{Action}
use Rattle.dk_model.specs.Texts.{ByText}
use Rattle.dk_model.specs.Changes.{is_same_text, last_some}
use Rattle.dk_model.proofs.TextMaps.{text_order}

-- ---- each entry of a map is what the map has at its key

first_of : (a b : Bool) → T (a && b) → T a
first_of true b both = tt
first_of false b both = absurd both

second_of : (a b : Bool) → T (a && b) → T b
second_of true b both = both
second_of false b both = absurd both

not_tied : (x y : List ℕ) → T (is_lt (slice_cmp nat_cmp x y)) → is_eq (slice_cmp nat_cmp y x) ≡ false
not_tied x y less = ap is_eq (nat_list_cmp_total.antisymm y x) ∙ by (slice_cmp nat_cmp x y) less
  where
    by : (order : Ordering) → T (is_lt order) → is_eq (ordering_reverse order) ≡ false
    by Less less = refl
    by Equal less = absurd less
    by Greater less = absurd less

tied : (x : List ℕ) → is_eq (slice_cmp nat_cmp x x) ≡ true
tied x = by (slice_cmp nat_cmp x x) (nat_list_cmp_total.antisymm x x)
  where
    by : (order : Ordering) → order ≡ ordering_reverse order → is_eq order ≡ true
    by Less same = absurd (subst (λ o. T (is_lt o)) same tt)
    by Equal same = refl
    by Greater same = absurd (subst (λ o. T (is_lt o)) (sym same) tt)

abbrev pub Entries : Type 0 → Type 0
Entries X = List (List ℕ × X)

module _ {X : Type 0} where
  apart_from_first : (x : List ℕ) (es : Entries X) → T (below_all (slice_cmp nat_cmp) x es) → AllByRecursion (λ e. is_eq (slice_cmp nat_cmp e.0 x) ≡ false) es
  apart_from_first x [] below = tt
  apart_from_first x (e ∷ es) below =
      (not_tied x e.0 (first_of _ _ below), apart_from_first x es (second_of (is_lt (slice_cmp nat_cmp x e.0)) (below_all (slice_cmp nat_cmp) x es) below))

  also_behind : (first : List ℕ × X) (rest es : Entries X) → AllByRecursion (λ e. is_eq (slice_cmp nat_cmp e.0 first.0) ≡ false) es
      → AllByRecursion (λ e. find (slice_cmp nat_cmp) e.0 rest ≡ Some e.1) es → AllByRecursion (λ e. find (slice_cmp nat_cmp) e.0 (first ∷ rest) ≡ Some e.1) es
  also_behind first rest [] apart found = tt
  also_behind first rest (e ∷ es) apart found =
      (ap (λ b. cond b (Some first.1) (find (slice_cmp nat_cmp) e.0 rest)) apart.0 ∙ found.0, also_behind first rest es apart.1 found.1)

  found_sorted : (es : Entries X) → T (is_sorted (slice_cmp nat_cmp) es) → AllByRecursion (λ e. find (slice_cmp nat_cmp) e.0 es ≡ Some e.1) es
  found_sorted [] sorted = tt
  found_sorted (e ∷ es) sorted = (
    ap (λ b. cond b (Some e.1) (find (slice_cmp nat_cmp) e.0 es)) (tied e.0),
    also_behind e es es (apart_from_first e.0 es (first_of (below_all (slice_cmp nat_cmp) e.0 es) (is_sorted (slice_cmp nat_cmp) es) sorted))
        (found_sorted es (second_of (below_all (slice_cmp nat_cmp) e.0 es) (is_sorted (slice_cmp nat_cmp) es) sorted)),
  )

  -- the entries are the map's
  abbrev pub AreOf : ByText X → Entries X → Type 0
  AreOf m es = AllByRecursion (λ e. get m e.0 ≡ Some e.1) es

  by_entries : (m : ByText X) (es : Entries X) → AllByRecursion (λ e. find (slice_cmp nat_cmp) e.0 (entries m) ≡ Some e.1) es → AreOf m es
  by_entries m [] all = tt
  by_entries m (e ∷ es) all = (get-entries m e.0 ∙ all.0, by_entries m es all.1)

  pub entries_are_of : (m : ByText X) → AreOf m (entries m)
  entries_are_of m = by_entries m (entries m) (found_sorted (entries m) (entries_sorted m))

  pub drop_is_of : (m : ByText X) (n : ℕ) (es : Entries X) → AreOf m es → AreOf m (drop n es)
  drop_is_of m zero es all = all
  drop_is_of m (suc n) [] all = tt
  drop_is_of m (suc n) (e ∷ es) all = drop_is_of m n es all.1

  pub take_is_of : (m : ByText X) (n : ℕ) (es : Entries X) → AreOf m es → AreOf m (take n es)
  take_is_of m zero es all = tt
  take_is_of m (suc n) [] all = tt
  take_is_of m (suc n) (e ∷ es) all = (all.0, take_is_of m n es all.1)

  kept_is_of : (m : ByText X) (e : List ℕ × X) (es : Entries X) (keep : Bool) → (get m e.0 ≡ Some e.1) → AreOf m es → AreOf m (if keep then e ∷ es else es)
  kept_is_of m e es true is all = (is, all)
  kept_is_of m e es false is all = all

  pub filter_is_of : (m : ByText X) (test : List ℕ × X → Bool) (es : Entries X) → AreOf m es → AreOf m (filter test es)
  filter_is_of m test [] all = tt
  filter_is_of m test (e ∷ es) all = kept_is_of m e (filter test es) (test e) all.0 (filter_is_of m test es all.1)

  -- an entry whose value passes the test is among those that do
  pub found_filtered : (test : X → Bool) (es : Entries X) (path : List ℕ) (x : X) → find (slice_cmp nat_cmp) path es ≡ Some x → test x ≡ true
      → is_some (find (slice_cmp nat_cmp) path (filter (λ e. test e.1) es)) ≡ true
  found_filtered test [] path x found passes = absurd (let no : ◌≡◌ {A = Option X} None (Some x) = found in cc)
  found_filtered test (e ∷ es) path x found passes = by (is_eq (slice_cmp nat_cmp path e.0)) refl found (λ rest. found_filtered test es path x rest passes)
    where
      kept : (same keep : Bool) → is_eq (slice_cmp nat_cmp path e.0) ≡ same → (same ≡ true → keep ≡ true) → (same ≡ false → is_some (find (slice_cmp nat_cmp) path (filter (λ e. test e.1) es)) ≡ true)
          → is_some (find (slice_cmp nat_cmp) path (if keep then e ∷ filter (λ e. test e.1) es else filter (λ e. test e.1) es)) ≡ true
      kept true true is keeps rest = ap (λ b. is_some (cond b (Some e.1) (find (slice_cmp nat_cmp) path (filter (λ e. test e.1) es)))) is
      kept true false is keeps rest = absurd (let no : false ≡ true = keeps refl in cc)
      kept false true is keeps rest = ap (λ b. is_some (cond b (Some e.1) (find (slice_cmp nat_cmp) path (filter (λ e. test e.1) es)))) is ∙ rest refl
      kept false false is keeps rest = rest refl

      by : (same : Bool) → is_eq (slice_cmp nat_cmp path e.0) ≡ same → cond same (Some e.1) (find (slice_cmp nat_cmp) path es) ≡ Some x
          → (find (slice_cmp nat_cmp) path es ≡ Some x → is_some (find (slice_cmp nat_cmp) path (filter (λ e. test e.1) es)) ≡ true)
          → is_some (find (slice_cmp nat_cmp) path (filter (λ e. test e.1) (e ∷ es))) ≡ true
      by true is found rest =
          let same : e.1 ≡ x = (let both : ◌≡◌ {A = Option X} (Some e.1) (Some x) = found in cc) in
          kept true (test e.1) is (λ t. ap test same ∙ passes) (λ wrong. absurd (let differs : true ≡ false = wrong in cc))
      by false is found rest = kept false (test e.1) is (λ wrong. absurd (let differs : false ≡ true = wrong in cc)) (λ f. rest found)

-- ---- last words

pub none_after : {A : Type 0} (found : Option A) → option_or found None ≡ found
none_after None = refl
none_after (Some x) = refl

or_thrice : {A : Type 0} (x y z : Option A) → option_or x (option_or y z) ≡ option_or (option_or x y) z
or_thrice None y z = refl
or_thrice (Some x) y z = refl

pub last_of_both : {A W : Type 0} (word : A → Option W) (xs ys : List A) → last_some word (xs ++ ys) ≡ option_or (last_some word ys) (last_some word xs)
last_of_both word [] ys = sym (none_after (last_some word ys))
last_of_both word (x ∷ xs) ys = ap (λ o. option_or o (word x)) (last_of_both word xs ys) ∙ sym (or_thrice (last_some word ys) (last_some word xs) (word x))

pub last_of_none : {E A W : Type 0} (word : A → Option W) (act : E → A) (es : List E) → ((e : E) → word (act e) ≡ None) → last_some word (map act es) ≡ None
last_of_none word act [] none = refl
last_of_none word act (e ∷ es) none = ap (λ o. option_or o (word (act e))) (last_of_none word act es none) ∙ none e

module _ {X W : Type 0} (word : Action → Option W) (path : List ℕ) (act : List ℕ × X → Action) (value : X → W) (m : ByText X) where
  -- the word on a path that an entry has, where it is of that path
  abbrev pub Speak : List (List ℕ × X) → Type 0
  Speak es = AllByRecursion (λ e. word (act e) ≡ (if is_same_text path e.0 then Some (value e.1) else None)) es

  last_step : (same : Bool) (x : X) (found got : Option X) → (same ≡ true → got ≡ Some x)
      → option_or (if is_some found then option_map value got else None) (if same then Some (value x) else None)
      ≡ (if is_some (cond same (Some x) found) then option_map value got else None)
  last_step true x None got is = ap (option_map value) (sym (is refl))
  last_step true x (Some y) got is = ap (λ o. option_or (option_map value o) (Some (value x))) (is refl) ∙ ap (option_map value) (sym (is refl))
  last_step false x found got is = none_after (if is_some found then option_map value got else None)

  tied_key : (e : List ℕ × X) → get m e.0 ≡ Some e.1 → is_same_text path e.0 ≡ true → get m path ≡ Some e.1
  tied_key e is same = ap (get m) (text_order path e.0 (equal (slice_cmp nat_cmp path e.0) same)) ∙ is
    where
      equal : (order : Ordering) → is_eq order ≡ true → order ≡ Equal
      equal Less wrong = absurd (let differs : false ≡ true = wrong in cc)
      equal Equal is = refl
      equal Greater wrong = absurd (let differs : false ≡ true = wrong in cc)

  -- of entries of a map the last word on a path is what the map has there, if one of them is of the path
  pub last_of_entries : (es : List (List ℕ × X)) → AreOf m es → Speak es
      → last_some word (map act es) ≡ (if is_some (find (slice_cmp nat_cmp) path es) then option_map value (get m path) else None)
  last_of_entries [] all speak = refl
  last_of_entries (e ∷ es) all speak =
      ap (λ o. option_or o (word (act e))) (last_of_entries es all.1 speak.1)
      ∙ ap (option_or (if is_some (find (slice_cmp nat_cmp) path es) then option_map value (get m path) else None)) speak.0
      ∙ last_step (is_same_text path e.0) e.1 (find (slice_cmp nat_cmp) path es) (get m path) (tied_key e all.0)
