-- One more entry of a listing in the sets and the map of versions.
use Rattle.std.proofs.Common.{◌≡◌, ℕ, ◌+◌, ◌<◌, List, [], ◌∷◌, ◌++◌, length, map, take, get_or, Bool, true, false, true≢false, cond, refl, ap, ap₂, sym, ◌∙◌, arith, add-one, inl, inr}
use Rattle.std.specs.Prelude.{Option, Some, None, is_some, option_map, string_bytes, ◌==◌, ◌&&◌, ◌||◌}
use Rattle.std.specs.Option.{option_or}
use Rattle.std.specs.Borrow.{Bor}
use Rattle.std.specs.List.{list_any}
use Rattle.std.specs.Ordering.{nat_cmp, is_eq}
use Rattle.std.specs.Cmp.{tied_then}
use Rattle.std.specs.BTreeMap.{BTreeMap, get}
use Rattle.std.specs.BTreeMap as tree
use Rattle.std.specs.BTreeSet.{BTreeSet, contains}
use Rattle.std.specs.BTreeSet as set
use Rattle.std.proofs.Math.Seq.{take-suc}
use Rattle.std.proofs.lemmas.List.{map_push}
use Rattle.std.proofs.lemmas.List.Folds.{list_any-append}
use Rattle.std.proofs.lemmas.Bool.Decides.{nat_tests, eqb_tells}
use Rattle.dk_store.specs.declared.event.Ratification.{Ratification}
use Rattle.dk_store.specs.Views.{ratification}
use Rattle.dk_listing.specs.declared.named.Staged as entries
use Rattle.dk_listing.specs.Presence.{lists_staged, name_at}
use Rattle.dk_segment.specs.CommitIndex.{staged_cmp, HasStagedCommits, HasRatifiedNames, name_for_version}

pub one_same : (x w : ℕ) → is_eq (nat_cmp x w) ≡ (x == w)
one_same x w = grind (arith, nat_tests)

join_last : (t a : Bool) → cond t true a ≡ (a || (t || false))
join_last true true = refl
join_last true false = refl
join_last false true = refl
join_last false false = refl

-- a test of some of the first elements, and of one more
any_more : {X : Type 0} (test : X → Bool) (xs : List X) (place : ℕ) (x : X) → place < length xs → x ≡ get_or xs place x → list_any test (take (place + 1) xs) ≡ (list_any test (take place xs) || (test x || false))
any_more test xs place x lt is = rw (add-one place, take-suc xs place x lt, ← is) (list_any-append test (take place xs) (x ∷ []))

-- ---- staged commits

pair_same : (v i w id : ℕ) → is_eq (staged_cmp (v, i) (w, id)) ≡ (v == w && i == id)
pair_same v i w id = sym (tied_then (nat_cmp v w) (nat_cmp i id)) ∙ ap₂ (λ (a b : Bool). a && b) (one_same v w) (one_same i id)

pub staged_more : (old new : BTreeSet (ℕ × ℕ)) (staged : List entries.Staged) (place : ℕ) (commit : entries.Staged) → place < length staged → commit ≡ get_or staged place commit
    → HasStagedCommits old (take place staged) → set.Updates staged_cmp old new (commit.version, commit.id) true → HasStagedCommits new (take (place + 1) staged)
staged_more old new staged place commit lt is has updates = λ w id.
    let test : Bool = commit.version == w && commit.id == id in
    let now : contains staged_cmp new (w, id) ≡ cond test true (contains staged_cmp old (w, id)) =
    updates.0 (w, id) ∙ ap (λ (t : Bool). cond t true (contains staged_cmp old (w, id))) (pair_same commit.version commit.id w id) in
    now ∙ ap (λ (b : Bool). cond test true b) (has w id) ∙ join_last test (lists_staged (take place staged) w id)
    ∙ sym (any_more (λ (s : entries.Staged). s.version == w && s.id == id) staged place commit lt is)

-- ---- ratifications

name_last : (rs : List (ℕ × List ℕ)) (r : ℕ × List ℕ) (w : ℕ) → name_at (rs ++ r ∷ []) w ≡ option_or (name_at rs w) (cond (r.0 == w) (Some r.1) None)
name_last [] r w = refl
name_last (s ∷ rs) r w = by (s.0 == w) (name_last rs r w)
  where
    by : (t : Bool) → name_at (rs ++ r ∷ []) w ≡ option_or (name_at rs w) (cond (r.0 == w) (Some r.1) None)
        → cond t (Some s.1) (name_at (rs ++ r ∷ []) w) ≡ option_or (cond t (Some s.1) (name_at rs w)) (cond (r.0 == w) (Some r.1) None)
    by true later = refl
    by false later = later

name_more : (rs : List Ratification) (place : ℕ) (r : Ratification) → place < length rs → r ≡ get_or rs place r → (w : ℕ)
    → name_at (map ratification (take (place + 1) rs)) w ≡ option_or (name_at (map ratification (take place rs)) w) (cond (r.version == w) (Some (string_bytes r.name)) None)
name_more rs place r lt is w =
    rw (add-one place, take-suc rs place r lt, ← is, map_push ratification (take place rs) r) (name_last (map ratification (take place rs)) (ratification r) w)

none_first : (o p : Option (List ℕ)) → o ≡ None → p ≡ option_or o p
none_first o p none = rw none refl

none_last : (o : Option (List ℕ)) → o ≡ option_or o None
none_last None = refl
none_last (Some name) = refl

some_first : (o p : Option (List ℕ)) → is_some o ≡ true → o ≡ option_or o p
some_first None p some = absurd (true≢false (sym some))
some_first (Some name) p some = refl

some_now : (o : Option (Bor (List ℕ))) → is_some o ≡ true → is_some (option_map (λ (name : Bor (List ℕ)). name.now) o) ≡ true
some_now None some = some
some_now (Some name) some = refl

-- one more version that stands ratified
pub names_more : (old new : BTreeMap ℕ (Bor (List ℕ))) (rs : List Ratification) (place : ℕ) (r : Ratification) (name : Bor (List ℕ)) → place < length rs → r ≡ get_or rs place r
    → name.now ≡ string_bytes r.name → get nat_cmp old r.version ≡ None → HasRatifiedNames old (take place rs) → tree.Updates nat_cmp old new r.version (Some name) → HasRatifiedNames new (take (place + 1) rs)
names_more old new rs place r name lt is read absent has updates = λ w.
    let before : Option (List ℕ) = name_at (map ratification (take place rs)) w in
    let now : get nat_cmp new w ≡ cond (r.version == w) (Some name) (get nat_cmp old w) =
    updates.0 w ∙ ap (λ (t : Bool). cond t (Some name) (get nat_cmp old w)) (one_same r.version w) in
    elim (eqb_tells r.version w) [
      | inl t ↦
          let here : name_for_version new w ≡ Some (string_bytes r.name) =
          ap (λ (o : Option (Bor (List ℕ))). option_map (λ (n : Bor (List ℕ)). n.now) o) (now ∙ ap (λ (b : Bool). cond b (Some name) (get nat_cmp old w)) t.0) ∙ ap Some read in
          let none : before ≡ None =
          sym (has w) ∙ ap (λ (v : ℕ). name_for_version old v) (sym t.1) ∙ ap (λ (o : Option (Bor (List ℕ))). option_map (λ (n : Bor (List ℕ)). n.now) o) absent in
          here ∙ none_first before (Some (string_bytes r.name)) none
          ∙ ap (λ (b : Bool). option_or before (cond b (Some (string_bytes r.name)) None)) (sym t.0)
          ∙ sym (name_more rs place r lt is w)
      | inr f ↦
          let other : name_for_version new w ≡ before =
          ap (λ (o : Option (Bor (List ℕ))). option_map (λ (n : Bor (List ℕ)). n.now) o) (now ∙ ap (λ (b : Bool). cond b (Some name) (get nat_cmp old w)) f.0) ∙ has w in
          other ∙ none_last before
          ∙ ap (λ (b : Bool). option_or before (cond b (Some (string_bytes r.name)) None)) (sym f.0)
          ∙ sym (name_more rs place r lt is w)
    ]

-- one more of a version that stood so before
pub names_same : (names : BTreeMap ℕ (Bor (List ℕ))) (rs : List Ratification) (place : ℕ) (r : Ratification) → place < length rs → r ≡ get_or rs place r
    → is_some (get nat_cmp names r.version) ≡ true → HasRatifiedNames names (take place rs) → HasRatifiedNames names (take (place + 1) rs)
names_same names rs place r lt is there has = λ w.
    let before : Option (List ℕ) = name_at (map ratification (take place rs)) w in
    elim (eqb_tells r.version w) [
      | inl t ↦
          let some : is_some before ≡ true =
          ap (λ (o : Option (List ℕ)). is_some o) (sym (has w)) ∙ ap (λ (v : ℕ). is_some (name_for_version names v)) (sym t.1) ∙ some_now (get nat_cmp names r.version) there in
          has w ∙ some_first before (cond (r.version == w) (Some (string_bytes r.name)) None) some ∙ sym (name_more rs place r lt is w)
      | inr f ↦
          has w ∙ none_last before
          ∙ ap (λ (b : Bool). option_or before (cond b (Some (string_bytes r.name)) None)) (sym f.0)
          ∙ sym (name_more rs place r lt is w)
    ]
