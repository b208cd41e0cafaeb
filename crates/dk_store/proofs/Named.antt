-- The code's map of ratifications as a finite map: what it answers, what a change to it is, and its entries.
use Rattle.std.proofs.Common.{◌≡◌, ℕ, ◌<◌, ◌+◌, Bool, true, false, cond, List, [], ◌∷◌, ◌&&◌, map, filter, Option, Some, None, option_map, nat_cmp, is_eq, is_lt, refl, sym, ap, ap₂, ◌∙◌, T, subst, Less, arith, Bor}
use Rattle.std.specs.BTreeMap as tree
use Rattle.std.specs.BTreeMap.{BTreeMap, is_at}
use Rattle.std.specs.Map.{lookup}
use Rattle.std.specs.Ordering.{eq_by_cmp}
use Rattle.std.specs.Cmp.{nat_cmp_total}
use Rattle.std.specs.List.{AllByRecursion}
use Rattle.std.specs.List.Sorted.{IsStrictlySortedBy}
use Rattle.std.specs.FinMap.{FinMap, get, insert, retain_keys, entries, find, from_sorted, get-from_entries, get-from_sorted, entries-from_sorted, get-insert, get-retain_keys, same_map, nat_cmp-IsAntisymmetric, is_sorted}
use Rattle.std.specs.FinMap.Entries.{below_all, find-where_key}
use Rattle.std.proofs.lemmas.Bool.Decides.{nat_tests}
use Rattle.dk_store.specs.Settled.{named, named_map}

Entries : Type 0
Entries = List (ℕ × Bor (List ℕ))

moved : (b : Bool) (x : Bor (List ℕ)) (o : Option (Bor (List ℕ))) → cond b (Some x.now) (option_map (λ y. y.now) o) ≡ option_map (λ y. y.now) (cond b (Some x) o)
moved true x o = refl
moved false x o = refl

find-named : (es : List (ℕ × Bor (List ℕ))) (v : ℕ) → find nat_cmp v (map named es) ≡ option_map (λ y. y.now) (lookup (is_at (nat_cmp v)) es)
find-named [] v = refl
find-named (e ∷ es) v = ap (cond (is_eq (nat_cmp v e.0)) (Some e.1.now)) (find-named es v) ∙ moved (is_eq (nat_cmp v e.0)) e.1 _

get-named_map : (m : BTreeMap ℕ (Bor (List ℕ))) (v : ℕ) → get (named_map m.entries) v ≡ option_map (λ y. y.now) (tree.get nat_cmp m v)
get-named_map m v = get-from_entries nat_cmp_total (map named m.entries) v ∙ find-named m.entries v

same_versions : (m n : FinMap nat_cmp (List ℕ)) → ((v : ℕ) → get m v ≡ get n v) → m ≡ n
same_versions m n h = same_map nat_cmp_total nat_cmp-IsAntisymmetric m n h

turned : (v w : ℕ) → is_eq (nat_cmp v w) ≡ eq_by_cmp nat_cmp w v
turned v w = grind (arith, nat_tests)

-- a version is ratified
pub named_map-insert : (m n : BTreeMap ℕ (Bor (List ℕ))) (v : ℕ) (x : Bor (List ℕ)) → tree.Updates nat_cmp m n v (Some x) → named_map n.entries ≡ insert (named_map m.entries) v x.now
named_map-insert m n v x h = same_versions _ _ (λ w.
    get-named_map n w ∙ ap (option_map (λ y. y.now)) (h.0 w)
    ∙ sym (moved (is_eq (nat_cmp v w)) x (tree.get nat_cmp m w))
    ∙ ap₂ (λ b r. cond b (Some x.now) r) (turned v w) (sym (get-named_map m w))
    ∙ sym (get-insert nat_cmp_total (named_map m.entries) v x.now w))

kept : (p : ℕ → Bool) (b : Bool) (e : ℕ × Bor (List ℕ)) (rest : List (ℕ × Bor (List ℕ))) → map named (cond b (e ∷ rest) rest) ≡ cond b (named e ∷ map named rest) (map named rest)
kept p true e rest = refl
kept p false e rest = refl

map-filter : (p : ℕ → Bool) (es : List (ℕ × Bor (List ℕ))) → map named (filter (λ e. p e.0) es) ≡ filter (λ e. p e.0) (map named es)
map-filter p [] = refl
map-filter p (e ∷ es) = kept p (p e.0) e (filter (λ e. p e.0) es) ∙ ap (λ rest. cond (p e.0) (named e ∷ rest) rest) (map-filter p es)

-- the versions that pass a test are kept
pub named_map-filter : (p : ℕ → Bool) (es : List (ℕ × Bor (List ℕ))) → named_map (filter (λ e. p e.0) es) ≡ retain_keys (named_map es) p
named_map-filter p es = same_versions _ _ (λ v.
    let alike : (x : ℕ) → nat_cmp v x ≡ _ → p x ≡ p v = λ x e. ap p (sym (nat_cmp-IsAntisymmetric v x e)) in
    get-from_entries nat_cmp_total (map named (filter (λ e. p e.0) es)) v
    ∙ ap (find nat_cmp v) (map-filter p es)
    ∙ find-where_key nat_cmp p v alike (map named es)
    ∙ ap (λ o. cond (p v) o None) (sym (get-from_entries nat_cmp_total (map named es) v))
    ∙ sym (get-retain_keys (named_map es) p v alike))

below : (k : ℕ) (es : List (ℕ × Bor (List ℕ))) → AllByRecursion (λ y. nat_cmp k y ≡ Less) (map (λ e. e.0) es) → below_all nat_cmp k (map named es) ≡ true
below k [] h = refl
below k (e ∷ es) h = ap₂ (λ o b. is_lt o && b) h.0 (below k es h.1)

rising : (es : List (ℕ × Bor (List ℕ))) → IsStrictlySortedBy nat_cmp (map (λ e. e.0) es) → is_sorted nat_cmp (map named es) ≡ true
unfolding IsStrictlySortedBy
rising [] h = refl
rising (e ∷ es) h = ap₂ ◌&&◌ (below e.0 es h.0) (rising es h.1)

-- entries in order are those of the finite map that they make
pub entries-named_map : (es : List (ℕ × Bor (List ℕ))) → IsStrictlySortedBy nat_cmp (map (λ e. e.0) es) → entries (named_map es) ≡ map named es
entries-named_map es h =
    let t : T (is_sorted nat_cmp (map named es)) = subst T (sym (rising es h)) tt in
    let same : named_map es ≡ from_sorted (map named es) = same_versions _ _ (λ v. get-from_entries nat_cmp_total (map named es) v ∙ sym (get-from_sorted nat_cmp (map named es) v t)) in
    ap entries same ∙ entries-from_sorted nat_cmp (map named es) t
