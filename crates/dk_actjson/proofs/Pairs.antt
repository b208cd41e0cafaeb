-- A loop that reads the members of an object as pairs.
use Rattle.std.proofs.Common.{◌≡◌, ℕ, List, [], ◌∷◌, ◌++◌, map, Option, Some, String, Global, string_bytes, string_cmp, nat_cmp, Less, refl, ap}
use Rattle.std.specs.Cmp.Lexicographic.{slice_cmp}
use Rattle.std.specs.List.{AllByRecursion}
use Rattle.std.specs.List.Sorted.{IsStrictlySortedBy}
use Rattle.serde_json.specs.declared.value.Value.{Value}
use Rattle.serde_json.specs.View.{view, members_view}
use Rattle.dk_model.specs.Fields.{pairs_of, text_or_null}
use Rattle.dk_actjson.proofs.Turns.{before, before-push}

abbrev pub Entry : Type 0
Entry = String Global × Value

abbrev pub Pair : Type 0
Pair = List ℕ × Option (List ℕ)

pub pairs_turn : (front : List Pair) (t : List Entry) (k : String Global) (v : Value) (x : Option (List ℕ)) → text_or_null (view v) ≡ Some x
    → before front (pairs_of (members_view ((k, v) ∷ t))) ≡ before (front ++ (string_bytes k, x) ∷ []) (pairs_of (members_view t))
pairs_turn front t k v x is = rw is (before-push front (string_bytes k, x) (pairs_of (members_view t)))

abbrev pub keys_of_pairs : List Pair → List (List ℕ)
keys_of_pairs ps = map (λ p. p.0) ps

abbrev pub keys_of_entries : List Entry → List (List ℕ)
keys_of_entries es = map (λ e. string_bytes e.0) es

pub keys_turn : (front : List Pair) (t : List Entry) (k : String Global) (v : Value) (x : Option (List ℕ))
    → keys_of_pairs (front ++ (string_bytes k, x) ∷ []) ++ keys_of_entries t ≡ keys_of_pairs front ++ keys_of_entries ((k, v) ∷ t)
keys_turn [] t k v x = refl
keys_turn (p ∷ front) t k v x = ap (λ ks. p.0 ∷ ks) (keys_turn front t k v x)

below_entries : (k : String Global) (es : List Entry) → AllByRecursion (λ y. string_cmp k y ≡ Less) (map (λ e. e.0) es) → AllByRecursion (λ y. slice_cmp nat_cmp (string_bytes k) y ≡ Less) (keys_of_entries es)
below_entries k [] h = tt
below_entries k (e ∷ es) h = (h.0, below_entries k es h.1)

pub rising_entries : (es : List Entry) → IsStrictlySortedBy string_cmp (map (λ e. e.0) es) → IsStrictlySortedBy (slice_cmp nat_cmp) (keys_of_entries es)
unfolding IsStrictlySortedBy
rising_entries [] h = tt
rising_entries (e ∷ es) h = (below_entries e.0 es h.0, rising_entries es h.1)
