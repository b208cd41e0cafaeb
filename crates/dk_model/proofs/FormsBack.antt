-- What is written of each form is read as it was.
use Rattle.std.proofs.Common.{◌≡◌, ℕ, ℤ, pos, negsuc, ◌^◌, ◌<◌, List, [], ◌∷◌, ◌++◌, map, Option, Some, None, option_map, nat_cmp, Less, Greater, refl, sym, ap, subst, ◌∙◌, append_assoc, append-nil}
use Rattle.std.specs.Prelude.{IfSome}
use Rattle.std.specs.Ordering.{ordering_reverse}
use Rattle.std.specs.Cmp.Lexicographic.{slice_cmp}
use Rattle.std.specs.List.{AllByRecursion}
use Rattle.std.specs.List.Sorted.{IsStrictlySortedBy}
use Rattle.std.proofs.lemmas.Cmp.{nat_list_cmp_total}
use Rattle.std.proofs.lemmas.Bool.{lt-ltb}
use Rattle.serde_json.specs.Data.{Members, no_members, member, put}
use Rattle.dk_model.specs.Pairs.{AreKeysRising}
use Rattle.dk_model.specs.Ranges.{IsWhole}
use Rattle.dk_model.specs.Fields.{whole, version, count, names, pairs, pairs_of}
use Rattle.dk_model.specs.Shown.{whole_data, version_data, names_data, text_or_null_data, with_pairs, pairs_data}

pub whole_back : (z : ℤ) → IsWhole z → whole (whole_data z) ≡ Some z
whole_back (pos n) h = rw (lt-ltb n (2 ^ 63) h)
whole_back (negsuc n) h = refl

pub version_back : (n : ℕ) → n < 2 ^ 31 → version (version_data n) ≡ Some n
version_back n h = rw (lt-ltb n (2 ^ 31) h)

pub count_back : (n : ℕ) → n < 2 ^ 63 → count (version_data n) ≡ Some n
count_back n h = rw (lt-ltb n (2 ^ 63) h)

pub names_back : (ns : List (List ℕ)) → names (names_data ns) ≡ Some ns
names_back [] = refl
names_back (n ∷ ns) = ap (option_map (λ ts. n ∷ ts)) (names_back ns)

abbrev pub Pair : Type 0
Pair = List ℕ × Option (List ℕ)

-- the members of the pairs, in their order
abbrev onto : List Pair → Members
onto [] = no_members
onto (p ∷ ps) = member p.0 (text_or_null_data p.1) (onto ps)

pairs_of-onto : (ps : List Pair) → pairs_of (onto ps) ≡ Some ps
pairs_of-onto [] = refl
pairs_of-onto ((k, None) ∷ ps) = ap (option_map (λ qs. (k, None) ∷ qs)) (pairs_of-onto ps)
pairs_of-onto ((k, Some t) ∷ ps) = ap (option_map (λ qs. (k, Some t) ∷ qs)) (pairs_of-onto ps)

below_middle : (first : Pair) (ps : List Pair) (p : Pair) (more : List Pair) → AllByRecursion (λ y. slice_cmp nat_cmp first.0 y ≡ Less) (map (λ q. q.0) (ps ++ p ∷ more)) → slice_cmp nat_cmp first.0 p.0 ≡ Less
below_middle first [] p more h = h.0
below_middle first (q ∷ ps) p more h = below_middle first ps p more h.1

-- a key that is above those before it goes last
put_last : (done : List Pair) (p : Pair) (more : List Pair) → AreKeysRising (done ++ p ∷ more) → put p.0 (text_or_null_data p.1) (onto done) ≡ onto (done ++ p ∷ [])
unfolding IsStrictlySortedBy
put_last [] p more h = refl
put_last (first ∷ done) p more h =
    let above : slice_cmp nat_cmp p.0 first.0 ≡ Greater = nat_list_cmp_total.antisymm p.0 first.0 ∙ ap ordering_reverse (below_middle first done p more h.0) in
    rw above (ap (member first.0 (text_or_null_data first.1)) (put_last done p more h.1))

with_pairs-onto : (ps done : List Pair) → AreKeysRising (done ++ ps) → with_pairs ps (onto done) ≡ onto (done ++ ps)
with_pairs-onto [] done h = ap onto (sym (append-nil done))
with_pairs-onto (p ∷ ps) done h =
    let regrouped : (done ++ p ∷ []) ++ ps ≡ done ++ p ∷ ps = append_assoc done (p ∷ []) ps in
    ap (with_pairs ps) (put_last done p ps h) ∙ with_pairs-onto ps (done ++ p ∷ []) (subst AreKeysRising (sym regrouped) h) ∙ ap onto regrouped

pub pairs_back : (ps : List Pair) → AreKeysRising ps → pairs (pairs_data ps) ≡ Some ps
pairs_back ps h = ap pairs_of (with_pairs-onto ps [] h) ∙ pairs_of-onto ps

pub at_some : {A : Type 0} (P : A → Type 0) (o : Option A) → IfSome o P → (x : A) → o ≡ Some x → P x
at_some P o h x e = let Q : Option _ → Type 0 = λ o'. IfSome o' P in subst Q e h
