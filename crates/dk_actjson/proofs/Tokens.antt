-- The tokens of an object whose keys rise.
use Rattle.std.proofs.Common.{◌≡◌, ℕ, Bool, true, List, [], ◌∷◌, ◌++◌, map, Option, Some, None, nat_cmp, Ordering, Less, Greater, refl, sym, ap, subst, ◌∙◌, append_assoc, append-nil, ◌&&◌}
use Rattle.std.specs.Ordering.{is_lt, ordering_reverse}
use Rattle.std.specs.Cmp.Lexicographic.{slice_cmp}
use Rattle.std.specs.List.{AllByRecursion}
use Rattle.std.specs.List.Sorted.{IsStrictlySortedBy}
use Rattle.std.proofs.lemmas.Cmp.{nat_list_cmp_total}
use Rattle.std.proofs.lemmas.Bool.{and_parts}
use Rattle.json.specs.Token.{Token, begin_object, end_object, begin_array, end_array, key, string}
use Rattle.json.specs.Tree.{items_tokens, members_tokens}
use Rattle.serde_json.specs.Data as json_data
use Rattle.serde_json.specs.Data.{Data, Members, no_members, member, put}
use Rattle.serde_json.specs.View.{items_of}
use Rattle.serde_json.specs.Written.{items_outline, members_outline}
use Rattle.dk_model.specs.Pairs.{AreKeysRising}
use Rattle.dk_model.specs.Shown.{Field, text_or_null_data, with_pairs, pairs_data, names_data, with_field, with_fields, object_with}
use Rattle.json.specs.Written.{Written}
use Rattle.dk_actjson.specs.Tokens.{keys_of, HasTokens, tokens_of, after_field, after_fields, after_pairs, after_names}

-- ---- keys that rise, as a test on literals

abbrev pub all_above : List ℕ → List (List ℕ) → Bool
all_above k [] = true
all_above k (l ∷ ls) = is_lt (slice_cmp nat_cmp k l) && all_above k ls

abbrev pub rising : List (List ℕ) → Bool
rising [] = true
rising (k ∷ ks) = all_above k ks && rising ks

abbrev pub Above : List ℕ → List (List ℕ) → Type 0
Above k ks = AllByRecursion (λ l. slice_cmp nat_cmp k l ≡ Less) ks

less : (o : Ordering) → is_lt o ≡ true → o ≡ Less
less Less e = refl
less _ e = cc

above_from_test : (k : List ℕ) (ks : List (List ℕ)) → all_above k ks ≡ true → Above k ks
above_from_test k [] e = tt
above_from_test k (l ∷ ls) e = let parts = and_parts (is_lt (slice_cmp nat_cmp k l)) (all_above k ls) e in (less _ parts.0, above_from_test k ls parts.1)

pub rising_from_test : (ks : List (List ℕ)) → rising ks ≡ true → IsStrictlySortedBy (slice_cmp nat_cmp) ks
unfolding IsStrictlySortedBy
rising_from_test [] e = tt
rising_from_test (k ∷ ks) e = let parts = and_parts (all_above k ks) (rising ks) e in (above_from_test k ks parts.0, rising_from_test ks parts.1)

-- ---- members in order

-- the members' tokens, without the closing bracket
abbrev front : Members → List Token
front no_members = []
front (member k d ms) = key k ∷ (tokens_of d ++ front ms)

closed : (ms : Members) → members_tokens (members_outline ms) ≡ front ms ++ end_object ∷ []
closed no_members = refl
closed (member k d ms) = ap (λ ts. key k ∷ (tokens_of d ++ ts)) (closed ms) ∙ ap (λ ts. key k ∷ ts) (sym (append_assoc (tokens_of d) (front ms) (end_object ∷ [])))

-- each member's key is below these keys
abbrev AreBelow : Members → List (List ℕ) → Type 0
AreBelow no_members ks = Unit {0}
AreBelow (member l e ms) ks = Above l ks × AreBelow ms ks

-- a key that is above those of the members goes last
front_put : (ms : Members) (k : List ℕ) (d : Data) (ks : List (List ℕ)) → AreBelow ms (k ∷ ks) → front (put k d ms) ≡ front ms ++ key k ∷ tokens_of d
front_put no_members k d ks h = ap (λ ts. key k ∷ ts) (append-nil (tokens_of d))
front_put (member l e ms) k d ks h =
    let above : slice_cmp nat_cmp k l ≡ Greater = nat_list_cmp_total.antisymm k l ∙ ap ordering_reverse h.0.0 in
    rw above (ap (λ ts. key l ∷ (tokens_of e ++ ts)) (front_put ms k d ks h.1) ∙ ap (λ ts. key l ∷ ts) (sym (append_assoc (tokens_of e) (front ms) (key k ∷ tokens_of d))))

below_put : (ms : Members) (k : List ℕ) (d : Data) (ks : List (List ℕ)) → AreBelow ms (k ∷ ks) → Above k ks → AreBelow (put k d ms) ks
below_put no_members k d ks h above = (above, tt)
below_put (member l e ms) k d ks h above =
    let greater : slice_cmp nat_cmp k l ≡ Greater = nat_list_cmp_total.antisymm k l ∙ ap ordering_reverse h.0.0 in
    rw greater (h.0.1, below_put ms k d ks h.1 above)

fewer : (ms : Members) (k : List ℕ) (ks : List (List ℕ)) → AreBelow ms (k ∷ ks) → AreBelow ms ks
fewer no_members k ks h = tt
fewer (member l e ms) k ks h = (h.0.1, fewer ms k ks h.1)

regroup : (ts fs : List Token) (k : List ℕ) (d : Data) → ((ts ++ fs) ++ key k ∷ []) ++ tokens_of d ≡ ts ++ (fs ++ key k ∷ tokens_of d)
regroup ts fs k d = append_assoc (ts ++ fs) (key k ∷ []) (tokens_of d) ∙ append_assoc ts fs (key k ∷ tokens_of d)

one_field : (ts : List Token) (ms : Members) (k : List ℕ) (o : Option Data) (ks : List (List ℕ)) → AreBelow ms (k ∷ ks) → after_field (ts ++ front ms) k o ≡ ts ++ front (with_field k o ms)
unfolding after_field
one_field ts ms k None ks h = refl
one_field ts ms k (Some d) ks h = regroup ts (front ms) k d ∙ ap (λ fs. ts ++ fs) (sym (front_put ms k d ks h))

below_field : (ms : Members) (k : List ℕ) (o : Option Data) (ks : List (List ℕ)) → AreBelow ms (k ∷ ks) → Above k ks → AreBelow (with_field k o ms) ks
below_field ms k None ks h above = fewer ms k ks h
below_field ms k (Some d) ks h above = below_put ms k d ks h above

all_fields : (fs : List Field) (ts : List Token) (ms : Members) → IsStrictlySortedBy (slice_cmp nat_cmp) (keys_of fs) → AreBelow ms (keys_of fs) → after_fields (ts ++ front ms) fs ≡ ts ++ front (with_fields fs ms)
unfolding IsStrictlySortedBy
all_fields [] ts ms r b = refl
all_fields (f ∷ fs) ts ms r b =
    ap (λ us. after_fields us fs) (one_field ts ms f.0 f.1 (keys_of fs) b)
    ∙ all_fields fs ts (with_field f.0 f.1 ms) r.1 (below_field ms f.0 f.1 (keys_of fs) b r.0)

-- the tokens of an object, from those of its fields
object_from : (ts : List Token) (ms : Members) (us : List Token) → us ≡ (ts ++ begin_object ∷ []) ++ front ms → us ++ end_object ∷ [] ≡ ts ++ tokens_of (json_data.object ms)
object_from ts ms us e =
    ap (λ vs. vs ++ end_object ∷ []) e ∙ append_assoc (ts ++ begin_object ∷ []) (front ms) (end_object ∷ [])
    ∙ append_assoc ts (begin_object ∷ []) (front ms ++ end_object ∷ []) ∙ ap (λ vs. ts ++ begin_object ∷ vs) (sym (closed ms))

pub object_tokens : (ts : List Token) (fs : List Field) → IsStrictlySortedBy (slice_cmp nat_cmp) (keys_of fs) → after_fields (ts ++ begin_object ∷ []) fs ++ end_object ∷ [] ≡ ts ++ tokens_of (object_with fs)
unfolding object_with
object_tokens ts fs r =
    object_from ts (with_fields fs no_members) _ (ap (λ us. after_fields us fs) (sym (append-nil (ts ++ begin_object ∷ []))) ∙ all_fields fs (ts ++ begin_object ∷ []) no_members r tt)

-- ---- maps of texts

abbrev pub Pair : Type 0
Pair = List ℕ × Option (List ℕ)

abbrev pair_field : Pair → Field
pair_field p = (p.0, Some (text_or_null_data p.1))

fields_of_pairs : (ps : List Pair) (ms : Members) → with_pairs ps ms ≡ with_fields (map pair_field ps) ms
fields_of_pairs [] ms = refl
fields_of_pairs (p ∷ ps) ms = fields_of_pairs ps (put p.0 (text_or_null_data p.1) ms)

after_pair_fields : (ts : List Token) (ps : List Pair) → after_pairs ts ps ≡ after_fields ts (map pair_field ps)
after_pair_fields ts [] = refl
after_pair_fields ts (p ∷ ps) = after_pair_fields (after_field ts p.0 (Some (text_or_null_data p.1))) ps

keys_of_pairs : (ps : List Pair) → keys_of (map pair_field ps) ≡ map (λ p. p.0) ps
keys_of_pairs [] = refl
keys_of_pairs (p ∷ ps) = ap (λ ks. p.0 ∷ ks) (keys_of_pairs ps)

pub pairs_tokens : (ts : List Token) (ps : List Pair) → AreKeysRising ps → after_pairs (ts ++ begin_object ∷ []) ps ++ end_object ∷ [] ≡ ts ++ tokens_of (pairs_data ps)
unfolding object_with
pairs_tokens ts ps r =
    let start = ts ++ begin_object ∷ [] in
    object_from ts (with_pairs ps no_members) _
    (after_pair_fields start ps ∙ ap (λ us. after_fields us (map pair_field ps)) (sym (append-nil start))
    ∙ all_fields (map pair_field ps) start no_members (subst (IsStrictlySortedBy (slice_cmp nat_cmp)) (sym (keys_of_pairs ps)) r) tt
    ∙ ap (λ ms. start ++ front ms) (sym (fields_of_pairs ps no_members)))

-- ---- lists of texts

all_names : (ns : List (List ℕ)) (ts : List Token) → after_names ts ns ++ end_array ∷ [] ≡ ts ++ items_tokens (items_outline (items_of (map json_data.string ns)))
all_names [] ts = refl
all_names (n ∷ ns) ts = all_names ns (ts ++ string n ∷ []) ∙ append_assoc ts (string n ∷ []) _

pub names_tokens : (ts : List Token) (ns : List (List ℕ)) → after_names (ts ++ begin_array ∷ []) ns ++ end_array ∷ [] ≡ ts ++ tokens_of (names_data ns)
names_tokens ts ns = all_names ns (ts ++ begin_array ∷ []) ∙ append_assoc ts (begin_array ∷ []) _

-- ---- the steps of a writer

-- what is written between the brackets of an object
pub closed_object : (w0 w1 w2 w3 : Written) (fs : List Field) → IsStrictlySortedBy (slice_cmp nat_cmp) (keys_of fs)
    → HasTokens w0 (w0.tokens ++ begin_object ∷ []) w1 → HasTokens w1 (after_fields w1.tokens fs) w2 → HasTokens w2 (w2.tokens ++ end_object ∷ []) w3
    → HasTokens w0 (w0.tokens ++ tokens_of (object_with fs)) w3
closed_object w0 w1 w2 w3 fs r h1 h2 h3 =
    (h3.0 ∙ h2.0 ∙ h1.0, h3.1 ∙ ap (λ ts. ts ++ end_object ∷ []) (h2.1 ∙ ap (λ ts. after_fields ts fs) h1.1) ∙ object_tokens w0.tokens fs r)

pub closed_pairs : (w0 w1 w2 w3 : Written) (ps : List Pair) → AreKeysRising ps
    → HasTokens w0 (w0.tokens ++ begin_object ∷ []) w1 → HasTokens w1 (after_pairs w1.tokens ps) w2 → HasTokens w2 (w2.tokens ++ end_object ∷ []) w3
    → HasTokens w0 (w0.tokens ++ tokens_of (pairs_data ps)) w3
closed_pairs w0 w1 w2 w3 ps r h1 h2 h3 =
    (h3.0 ∙ h2.0 ∙ h1.0, h3.1 ∙ ap (λ ts. ts ++ end_object ∷ []) (h2.1 ∙ ap (λ ts. after_pairs ts ps) h1.1) ∙ pairs_tokens w0.tokens ps r)

pub closed_names : (w0 w1 w2 w3 : Written) (ns : List (List ℕ))
    → HasTokens w0 (w0.tokens ++ begin_array ∷ []) w1 → HasTokens w1 (after_names w1.tokens ns) w2 → HasTokens w2 (w2.tokens ++ end_array ∷ []) w3
    → HasTokens w0 (w0.tokens ++ tokens_of (names_data ns)) w3
closed_names w0 w1 w2 w3 ns h1 h2 h3 =
    (h3.0 ∙ h2.0 ∙ h1.0, h3.1 ∙ ap (λ ts. ts ++ end_array ∷ []) (h2.1 ∙ ap (λ ts. after_names ts ns) h1.1) ∙ names_tokens w0.tokens ns)
