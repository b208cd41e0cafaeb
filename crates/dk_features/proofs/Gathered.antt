-- Names that stand once in a list, told by a set of those seen before.
use Rattle.std.proofs.Common.{◌≡◌, ℕ, ◌+◌, ◌<◌, List, [], ◌∷◌, Bool, true, false, cond, refl, ap, sym, ◌∙◌, drop, length, get_or, nat_cmp}
use Rattle.std.specs.Prelude.{◌&&◌, ◌||◌, not}
use Rattle.std.specs.Borrow.{Bor}
use Rattle.std.specs.Cmp.Lexicographic.{slice_cmp}
use Rattle.std.specs.BTreeMap.{is_at}
use Rattle.std.specs.BTreeSet.{Updates}
use Rattle.std.specs.List.{list_any, list_all}
use Rattle.std.specs.Str.{bytes_eq}
use Rattle.dk_model.specs.NameSets.{NameSet, has_name}
use Rattle.dk_model.proofs.NameSets.{name_order, at_item, has_more}
use Rattle.dk_features.specs.Forms.{is_each_once}

-- no name stands twice, and none is one of those seen before
abbrev pub each_new : (List ℕ → Bool) → List (List ℕ) → Bool
each_new seen [] = true
each_new seen (name ∷ names) = not (seen name) && each_new (λ other. bytes_eq name other || seen other) names

-- what was seen counts only by what it answers
pub each_new-agree : (seen other : List ℕ → Bool) (names : List (List ℕ)) → ((name : List ℕ) → seen name ≡ other name) → each_new seen names ≡ each_new other names
each_new-agree seen other [] same = refl
each_new-agree seen other (name ∷ names) same =
    rw (same name, each_new-agree (λ q. bytes_eq name q || seen q) (λ q. bytes_eq name q || other q) names (λ q. ap (λ (b : Bool). bytes_eq name q || b) (same q))) refl

regroup : (seen any all once : Bool) → (not seen && ((not any && all) && once)) ≡ ((not seen && all) && (not any && once))
regroup true any all once = refl
regroup false true true once = refl
regroup false true false once = refl
regroup false false all once = refl

neither : (a b x y : Bool) → (not (a || b) && (not x && y)) ≡ (not (a || x) && (not b && y))
neither true b x y = refl
neither false true true y = refl
neither false true false y = refl
neither false false x y = refl

-- none of the names is this one or was seen
none_of : (name : List ℕ) (seen : List ℕ → Bool) (names : List (List ℕ))
    → list_all (λ q. not (bytes_eq name q || seen q)) names ≡ (not (list_any (bytes_eq name) names) && list_all (λ q. not (seen q)) names)
none_of name seen [] = refl
none_of name seen (q ∷ names) = rw (none_of name seen names) (neither (bytes_eq name q) (seen q) (list_any (bytes_eq name) names) (list_all (λ q. not (seen q)) names))

each_new-is : (seen : List ℕ → Bool) (names : List (List ℕ)) → each_new seen names ≡ (list_all (λ q. not (seen q)) names && is_each_once names)
each_new-is seen [] = refl
each_new-is seen (name ∷ names) =
    rw (each_new-is (λ q. bytes_eq name q || seen q) names, none_of name seen names)
    (regroup (seen name) (list_any (bytes_eq name) names) (list_all (λ q. not (seen q)) names) (is_each_once names))

all_unseen : (names : List (List ℕ)) → list_all (λ (q : List ℕ). true) names ≡ true
all_unseen [] = refl
all_unseen (name ∷ names) = all_unseen names

pub none_seen : (set : NameSet) (all : List (List ℕ)) → set.keys ≡ [] → each_new (has_name set) all ≡ is_each_once all
none_seen set all empty =
    each_new-agree (has_name set) (λ q. false) all (λ q. ap (list_any (is_at (λ (k : Bor (List ℕ)). slice_cmp nat_cmp q k.now))) empty)
    ∙ each_new-is (λ q. false) all ∙ ap (λ (b : Bool). b && is_each_once all) (all_unseen all)

or_true : (test seen : Bool) → cond test true seen ≡ (test || seen)
or_true true seen = refl
or_true false seen = refl

-- a name that wasn't seen is taken into the set
pub new_more : (old new : NameSet) (key : Bor (List ℕ)) (left : List (List ℕ)) → has_name old key.now ≡ false → Updates name_order old new key true
    → each_new (has_name old) (key.now ∷ left) ≡ each_new (has_name new) left
new_more old new key left unseen updates =
    let same : each_new (has_name new) left ≡ each_new (λ q. bytes_eq key.now q || has_name old q) left =
    each_new-agree _ _ left (λ q. has_more old new key q updates ∙ or_true (bytes_eq key.now q) (has_name old q)) in
    let turn : each_new (has_name old) (key.now ∷ left) ≡ each_new (λ q. bytes_eq key.now q || has_name old q) left = rw unseen refl in
    turn ∙ sym same

pub name_more : (old new : NameSet) (key : Bor (List ℕ)) (names : List (List ℕ)) (place : ℕ) (all : Bool) → place < length names → key.now ≡ get_or names place key.now
    → has_name old key.now ≡ false → Updates name_order old new key true
    → each_new (has_name old) (drop place names) ≡ all → each_new (has_name new) (drop (place + 1) names) ≡ all
name_more old new key names place all less is unseen updates before =
    sym (new_more old new key (drop (place + 1) names) unseen updates) ∙ sym (ap (each_new (has_name old)) (at_item names place key.now less is)) ∙ before
