-- A map of texts, read a member at a time.
use Rattle.std.proofs.Common.{◌≡◌, ℕ, List, [], ◌∷◌, ◌++◌, map, Option, Some, option_map, option_and_then, Bool, true, false, ◌&&◌, T, Ordering, Less, Equal, Greater, is_lt, nat_cmp, refl, ap, ◌∙◌, String, Global, string_cmp}
use Rattle.std.specs.Ordering.{match_ordering}
use Rattle.std.specs.Cmp.Lexicographic.{slice_cmp}
use Rattle.std.specs.List.{AllByRecursion}
use Rattle.std.specs.List.Sorted.{IsStrictlySortedBy}
use Rattle.std.specs.FinMap.{FinMap, entries, insert, entries-insert, entries_sorted, is_sorted}
use Rattle.std.specs.FinMap as fin
use Rattle.std.specs.FinMap.Entries.{below_all, by_order}
use Rattle.std.proofs.lemmas.Cmp.{nat_list_cmp_total}
use Rattle.json.specs.Json as json
use Rattle.serde_json.specs.Data.{Data, Members, no_members, member, put}
use Rattle.dk_model.proofs.TextMaps.{entries_in_order}
use Rattle.dk_model.specs.Fields.{text_or_null, pairs_of}
use Rattle.dk_actjson.specs.Seen.{seen, seen_members}
use Rattle.dk_actjson.specs.Slots.{Slot, slots_after, all_slots}
use Rattle.dk_actjson.proofs.Turns.{before, before-push}

abbrev pub slots : Members → List Slot
slots no_members = []
slots (member k d ms) = (k, text_or_null d) ∷ slots ms

pub slots_put : (k : List ℕ) (d : Data) (ms : Members) → slots (put k d ms) ≡ fin.put (slice_cmp nat_cmp) k (text_or_null d) (slots ms)
slots_put k d no_members = refl
slots_put k d (member l e ms) =
    elim (slice_cmp nat_cmp k l) as (λ o. slots (match_ordering o (member k d (member l e ms)) (member l d ms) (member l e (put k d ms)))
    ≡ by_order o ((k, text_or_null d) ∷ (l, text_or_null e) ∷ slots ms) ((l, text_or_null d) ∷ slots ms) ((l, text_or_null e) ∷ fin.put (slice_cmp nat_cmp) k (text_or_null d) (slots ms))) [
      | Less ↦ refl
      | Equal ↦ refl
      | Greater ↦ ap (λ es. (l, text_or_null e) ∷ es) (slots_put k d ms)
    ]

slots_seen : (ms : json.Members) (found : Members) → slots (seen_members ms found) ≡ slots_after ms (slots found)
slots_seen json.no_members found = refl
slots_seen (json.member k j ms) found = slots_seen ms (put k (seen j) found) ∙ ap (slots_after ms) (slots_put k (seen j) found)

pub pairs_of-slots : (ms : Members) → pairs_of ms ≡ all_slots (slots ms)
pairs_of-slots no_members = refl
pairs_of-slots (member k d ms) = ap (λ rest. option_and_then (λ t. option_map (λ ps. (k, t) ∷ ps) rest) (text_or_null d)) (pairs_of-slots ms)

-- the pairs of an object are those of its slots
pub pairs_from_slots : (ms : json.Members) → pairs_of (seen_members ms no_members) ≡ all_slots (slots_after ms [])
pairs_from_slots ms = pairs_of-slots (seen_members ms no_members) ∙ ap all_slots (slots_seen ms no_members)

abbrev pub Slots : Type 0
Slots = FinMap (slice_cmp nat_cmp) (Option (Option (List ℕ)))

-- one more member
pub inserted : (m n : Slots) (k : List ℕ) (j : json.Json) (x : Option (Option (List ℕ))) (rest : json.Members) → x ≡ text_or_null (seen j) → n ≡ insert m k x
    → slots_after rest (entries n) ≡ slots_after (json.member k j rest) (entries m)
inserted m n k j x rest is e =
    ap (λ s. slots_after rest (entries s)) e ∙ ap (slots_after rest) (entries-insert nat_list_cmp_total m k x)
    ∙ ap (λ y. slots_after rest (fin.put (slice_cmp nat_cmp) k y (entries m))) is

-- ---- the keys rise

both_of : (a b : Bool) → T (a && b) → T a × T b
both_of true b h = (tt, h)
both_of false b h = absurd h

less_of : (o : Ordering) → T (is_lt o) → o ≡ Less
less_of Less h = refl
less_of Equal h = absurd h
less_of Greater h = absurd h

below_keys : (k : List ℕ) (es : List Slot) → T (below_all (slice_cmp nat_cmp) k es) → AllByRecursion (λ l. slice_cmp nat_cmp k l ≡ Less) (map (λ e. e.0) es)
below_keys k [] h = tt
below_keys k (e ∷ es) h = let parts = both_of _ _ h in (less_of _ parts.0, below_keys k es parts.1)

rising_keys : (es : List Slot) → T (is_sorted (slice_cmp nat_cmp) es) → IsStrictlySortedBy (slice_cmp nat_cmp) (map (λ e. e.0) es)
unfolding IsStrictlySortedBy
rising_keys [] h = tt
rising_keys (e ∷ es) h = let parts = both_of _ _ h in (below_keys e.0 es parts.0, rising_keys es parts.1)

pub rising_slots : (m : Slots) → IsStrictlySortedBy (slice_cmp nat_cmp) (map (λ e. e.0) (entries m))
rising_slots m = rising_keys (entries m) (entries_sorted m)

none_sorted : IsStrictlySortedBy string_cmp (map (λ (e : String Global × Option (Option (List ℕ))). e.0) [])
unfolding IsStrictlySortedBy
none_sorted = tt

pub no_slots : entries (fin.empty {X = Option (Option (List ℕ))} {R = slice_cmp nat_cmp}) ≡ []
no_slots = entries_in_order [] none_sorted

-- ---- a turn of the loop over the slots

pub slot_turn : (front : List (List ℕ × Option (List ℕ))) (k : List ℕ) (t : Option (List ℕ)) (rest : List Slot) → before front (all_slots ((k, Some t) ∷ rest)) ≡ before (front ++ (k, t) ∷ []) (all_slots rest)
slot_turn front k t rest = before-push front (k, t) (all_slots rest)

pub keys_turn : (front : List (List ℕ × Option (List ℕ))) (k : List ℕ) (t : Option (List ℕ)) (rest : List (List ℕ)) → map (λ p. p.0) front ++ k ∷ rest ≡ map (λ p. p.0) (front ++ (k, t) ∷ []) ++ rest
keys_turn [] k t rest = refl
keys_turn (p ∷ front) k t rest = ap (λ ks. p.0 ∷ ks) (keys_turn front k t rest)
