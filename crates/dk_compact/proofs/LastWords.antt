-- The last words of a sum are those of its commits.
use Rattle.std.proofs.Common.{◌≡◌, ℕ, suc, length, arith, Bool, true, false, cond, List, [], ◌∷◌, ◌++◌, map, reverse, Option, Some, None, option_map, if◌then◌else◌, refl, sym, ap, ap₂, subst, ◌∙◌, nat_cmp}
use Rattle.std.specs.Prelude.{is_some}
use Rattle.std.specs.Option.{option_or}
use Rattle.std.specs.List.{filter_map, cons_option, AllByRecursion}
use Rattle.std.specs.Cmp.Lexicographic.{slice_cmp}
use Rattle.std.specs.FinMap.{get, entries, from_entries, get-from_entries, get-entries, entries-insert, len-entries, len-empty}
use Rattle.std.specs.FinMap as map_of
use Rattle.std.specs.FinMap.Entries.{by_order}
use Rattle.std.specs.declared.cmp.Ordering.{Ordering}
use Rattle.std.specs.declared.cmp.Ordering.TheVariants.{Less, Equal, Greater}
use Rattle.dk_model.proofs.TextMaps.{text_order}
use Rattle.std.proofs.lemmas.Cmp.{nat_list_cmp_total}
use Rattle.std.proofs.lemmas.List.{reverse-append}
use Rattle.dk_model.specs.declared.action.Action.{Action}
use Rattle.dk_model.specs.Texts.{ByText}
use Rattle.dk_model.specs.Changes.{is_same_text, last_some}
use Rattle.dk_lawful.proofs.Words.{entries_are_of, none_after, last_of_entries}
use Rattle.dk_compact.specs.Settled.{settled}
use Rattle.dk_compact.specs.Keyed.{Keyed, put_text, in_order, actions_in}
use Rattle.dk_compact.specs.Summary.{under_key, newest_each}

-- the answer of the first action that has one
abbrev pub first_word : {W : Type 0} → (Action → Option W) → List Action → Option W
first_word word [] = None
first_word word (a ∷ rest) = option_or (word a) (first_word word rest)

or_thrice : {A : Type 0} (x y z : Option A) → option_or x (option_or y z) ≡ option_or (option_or x y) z
or_thrice None y z = refl
or_thrice (Some x) y z = refl

first_of_both : {W : Type 0} (word : Action → Option W) (xs ys : List Action) → first_word word (xs ++ ys) ≡ option_or (first_word word xs) (first_word word ys)
first_of_both word [] ys = refl
first_of_both word (x ∷ xs) ys = ap (option_or (word x)) (first_of_both word xs ys) ∙ or_thrice (word x) (first_word word xs) (first_word word ys)

-- newest first, the first answer is the last
pub first_of_reverse : {W : Type 0} (word : Action → Option W) (xs : List Action) → first_word word (reverse xs) ≡ last_some word xs
first_of_reverse word [] = refl
first_of_reverse word (x ∷ xs) =
    ap (first_word word) (reverse-append (x ∷ []) xs) ∙ first_of_both word (reverse xs) (x ∷ [])
    ∙ ap₂ option_or (first_of_reverse word xs) (none_after (word x))

-- ---- keyed actions are the entries of a map

text_map : Keyed → ByText Action
text_map es = from_entries es

none_of : {A : Type 0} (es : List A) → length es ≡ 0 → es ≡ []
none_of [] e = refl
none_of (x ∷ es) e = absurd (let none : suc (length es) ≡ 0 = e in omega (arith, none))

empty_has : entries (map_of.empty {K = List ℕ} {X = Action} {R = slice_cmp nat_cmp}) ≡ []
empty_has = none_of _ (sym (len-entries (map_of.empty {K = List ℕ} {X = Action} {R = slice_cmp nat_cmp})) ∙ len-empty (slice_cmp nat_cmp) Action)

map_in_order : (es : Keyed) → entries (from_entries {R = slice_cmp nat_cmp} es) ≡ in_order es
map_in_order [] = empty_has
map_in_order (e ∷ es) = entries-insert nat_list_cmp_total (from_entries es) e.0 e.1 ∙ ap (λ l. put_text l e.0 e.1) (map_in_order es)

-- ---- each of the newest stands under its own key

module _ (key : Action → Option (List ℕ)) where
  -- each entry stands under its own key
  abbrev pub HaveKeys : Keyed → Type 0
  HaveKeys es = AllByRecursion (λ e. key e.1 ≡ Some e.0) es

  under_has : (a : Action) (k : Option (List ℕ)) (rest : Keyed) → key a ≡ k → HaveKeys rest → HaveKeys (cons_option (option_map (λ n. (n, a)) k) rest)
  under_has a None rest is have = have
  under_has a (Some k) rest is have = (is, have)

  filtered_have : (actions : List Action) → HaveKeys (filter_map (under_key key) actions)
  filtered_have [] = tt
  filtered_have (a ∷ rest) = under_has a (key a) (filter_map (under_key key) rest) refl (filtered_have rest)

  put_has : (k : List ℕ) (a : Action) (es : Keyed) → key a ≡ Some k → HaveKeys es → HaveKeys (put_text es k a)
  put_has k a [] is have = (is, tt)
  put_has k a (e ∷ es) is have = by (slice_cmp nat_cmp k e.0) refl (put_has k a es is have.1)
    where
      by : (r : Ordering) → slice_cmp nat_cmp k e.0 ≡ r → HaveKeys (put_text es k a) → HaveKeys (by_order r ((k, a) ∷ e ∷ es) ((e.0, a) ∷ es) (e ∷ put_text es k a))
      by Less order later = (is, have)
      by Equal order later = (is ∙ ap (λ (n : List ℕ). Some n) (text_order k e.0 order), have.1)
      by Greater order later = (have.0, later)

  pub ordered_have : (es : Keyed) → HaveKeys es → HaveKeys (in_order es)
  ordered_have [] have = tt
  ordered_have (e ∷ es) have = put_has e.0 e.1 (in_order es) have.0 (ordered_have es have.1)

  pub each_has : (newest : List Action) → HaveKeys (newest_each key newest)
  each_has newest = ordered_have (filter_map (under_key key) newest) (filtered_have newest)

-- ---- the word on one key

module _ {W : Type 0} (word : Action → Option W) (key : Action → Option (List ℕ)) (path : List ℕ) (value : Action → W) where
  -- the word is that of the settled action, where its key is the path, and no action without a key has one
  abbrev pub if_same : Action → Option (List ℕ) → Option W
  if_same a None = None
  if_same a (Some k) = if is_same_text path k then Some (value a) else None

  abbrev pub SpeaksByKey : Type 0
  SpeaksByKey = (a : Action) → word a ≡ if_same a (key a)

  abbrev pub KeepsWords : Type 0
  KeepsWords = (a : Action) → word (settled a) ≡ word a

  found_step : (a : Action) (k : Option (List ℕ)) (rest : Keyed) (later : Option W) → later ≡ option_map value (map_of.find (slice_cmp nat_cmp) path rest)
      → option_or (if_same a k) later ≡ option_map value (map_of.find (slice_cmp nat_cmp) path (cons_option (option_map (λ n. (n, a)) k) rest))
  found_step a None rest later is = is
  found_step a (Some k) rest later is = by (is_same_text path k) is
    where
      by : (same : Bool) → later ≡ option_map value (map_of.find (slice_cmp nat_cmp) path rest)
          → option_or (if same then Some (value a) else None) later ≡ option_map value (cond same (Some a) (map_of.find (slice_cmp nat_cmp) path rest))
      by true is = refl
      by false is = is

  found_first : SpeaksByKey → (actions : List Action) → first_word word actions ≡ option_map value (map_of.find (slice_cmp nat_cmp) path (filter_map (under_key key) actions))
  found_first speaks [] = refl
  found_first speaks (a ∷ rest) =
      ap (λ o. option_or o (first_word word rest)) (speaks a) ∙ found_step a (key a) (filter_map (under_key key) rest) (first_word word rest) (found_first speaks rest)

  settled_each : (es : Keyed) → map settled (actions_in es) ≡ map (λ (e : List ℕ × Action). settled e.1) es
  settled_each [] = refl
  settled_each (e ∷ es) = ap (λ l. settled e.1 ∷ l) (settled_each es)

  speak_each : SpeaksByKey → KeepsWords → (es : Keyed) → HaveKeys key es → AllByRecursion (λ e. word (settled e.1) ≡ (if is_same_text path e.0 then Some (value e.1) else None)) es
  speak_each speaks keeps [] have = tt
  speak_each speaks keeps (e ∷ es) have = (keeps e.1 ∙ speaks e.1 ∙ ap (if_same e.1) have.0, speak_each speaks keeps es have.1)

  where_found : (found : Option Action) → (if is_some found then option_map value found else None) ≡ option_map value found
  where_found None = refl
  where_found (Some a) = refl

  -- the word of those on each key is the first word of all
  pub each_speaks : SpeaksByKey → KeepsWords → (newest : List Action) → last_some word (map settled (actions_in (newest_each key newest))) ≡ first_word word newest
  each_speaks speaks keeps newest =
      let keyed : Keyed = filter_map (under_key key) newest in
      let m : ByText Action = from_entries keyed in
      let same : entries m ≡ in_order keyed = map_in_order keyed in
      let have : HaveKeys key (entries m) = subst (HaveKeys key) (sym same) (each_has key newest) in
      ap (λ es. last_some word (map settled (actions_in es))) (sym same)
      ∙ ap (last_some word) (settled_each (entries m))
      ∙ last_of_entries word path (λ e. settled e.1) value m (entries m) (entries_are_of m) (speak_each speaks keeps (entries m) have)
      ∙ ap (λ o. if is_some o then option_map value (get m path) else None) (sym (get-entries m path))
      ∙ where_found (get m path)
      ∙ ap (option_map value) (get-from_entries nat_list_cmp_total keyed path)
      ∙ sym (found_first speaks newest)
