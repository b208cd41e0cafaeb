-- The walk along the features that the versions stand for.
use Rattle.std.proofs.Common.{◌≡◌, ℕ, ◌+◌, ◌<◌, Bool, true, false, ◌&&◌, List, [], Some, cond, drop, get_or, length, option_map, ap, sym, ◌∙◌}
use Rattle.std.specs.List.{list_all, position_from}
use Rattle.std.proofs.lemmas.List.{at_drop_more}
use Rattle.dk_model.specs.declared.action.Protocol.{Protocol}
use Rattle.dk_features.specs.declared.fault.FeatureList.TheVariants as lists
use Rattle.dk_features.specs.InForce.{implied}
use Rattle.dk_features.specs.Support.{fault_at, is_in_the_way, unwritten_implied}

one : {X : Type 0} (test : X → Bool) (xs : List X) (i : ℕ) (x d : X) → i < length xs → x ≡ get_or xs i d
    → position_from test i (drop i xs) ≡ cond (test x) (Some i) (position_from test (i + 1) (drop (i + 1) xs))
one test xs i x d lt is = at_drop_more (position_from test i) xs i d lt ∙ ap (λ y. cond (test y) (Some i) (position_from test (i + 1) (drop (i + 1) xs))) (sym is)

-- one that is in the way is the first
pub in_the_way : (uses : Bool) (p : Protocol) (place since : ℕ) (name : List ℕ) → place < 7 → (name, since) ≡ get_or implied place ([], 0)
    → position_from (is_in_the_way uses p) place (drop place implied) ≡ position_from (is_in_the_way uses p) 0 implied
    → is_in_the_way uses p (name, since) ≡ true → unwritten_implied uses p ≡ Some (fault_at lists.Implied name place)
in_the_way uses p place since name lt is before way =
    let found : position_from (is_in_the_way uses p) 0 implied ≡ Some place =
    sym before ∙ one (is_in_the_way uses p) implied place (name, since) ([], 0) lt is ∙ ap (λ b. cond b (Some place) (position_from (is_in_the_way uses p) (place + 1) (drop (place + 1) implied))) way in
    ap (option_map (λ i. fault_at lists.Implied (get_or implied i ([], 0)).0 i)) found ∙ ap (λ feature. Some (fault_at lists.Implied feature.0 place)) (sym is)

-- one that isn't is passed
pub not_in_the_way : (uses : Bool) (p : Protocol) (place since : ℕ) (name : List ℕ) → place < 7 → (name, since) ≡ get_or implied place ([], 0)
    → position_from (is_in_the_way uses p) place (drop place implied) ≡ position_from (is_in_the_way uses p) 0 implied
    → is_in_the_way uses p (name, since) ≡ false → position_from (is_in_the_way uses p) (place + 1) (drop (place + 1) implied) ≡ position_from (is_in_the_way uses p) 0 implied
not_in_the_way uses p place since name lt is before way =
    ap (λ b. cond b (Some place) (position_from (is_in_the_way uses p) (place + 1) (drop (place + 1) implied))) (sym way)
    ∙ sym (one (is_in_the_way uses p) implied place (name, since) ([], 0) lt is) ∙ before

-- a name that passes a test is passed
pub passed_on : (test : List ℕ → Bool) (names : List (List ℕ)) (place : ℕ) (name : List ℕ) (all : Bool) → place < length names → name ≡ get_or names place [] → test name ≡ true
    → list_all test (drop place names) ≡ all → list_all test (drop (place + 1) names) ≡ all
passed_on test names place name all lt is passes before =
    let here : test (get_or names place []) ≡ true = ap test (sym is) ∙ passes in
    ap (λ b. b && list_all test (drop (place + 1) names)) (sym here) ∙ sym (at_drop_more (list_all test) names place [] lt) ∙ before
