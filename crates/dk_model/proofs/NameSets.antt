-- Gathering names into a set, one after the other.
use Rattle.std.proofs.Common.{◌≡◌, ℕ, ◌+◌, ◌<◌, List, [], ◌∷◌, Bool, true, false, cond, refl, ap, sym, ◌∙◌, drop, length, get_or, nat_cmp}
use Rattle.std.specs.Prelude.{◌||◌}
use Rattle.std.specs.Borrow.{Bor}
use Rattle.std.specs.declared.cmp.Ordering.{Ordering}
use Rattle.std.specs.Ordering.{is_eq}
use Rattle.std.specs.Cmp.Lexicographic.{slice_cmp}
use Rattle.std.specs.BTreeSet.{Updates}
use Rattle.std.specs.List.{list_any}
use Rattle.std.specs.Str.{bytes_eq}
use Rattle.std.proofs.lemmas.List.{drop_more}
use Rattle.std.proofs.lemmas.Map.Text.{is_eq-slice_cmp}
use Rattle.std.proofs.lemmas.Slice.Eq.{bytes_eq-Decides}
use Rattle.dk_model.specs.NameSets.{NameSet, is_one_of, has_name, HasNames}

abbrev pub name_order : Bor (List ℕ) → Bor (List ℕ) → Ordering
name_order x y = slice_cmp nat_cmp x.now y.now

pub at_item : {X : Type 0} (xs : List X) (place : ℕ) (item : X) → place < length xs → item ≡ get_or xs place item → drop place xs ≡ item ∷ drop (place + 1) xs
at_item xs place item less is = drop_more xs place item less ∙ ap (λ x. x ∷ drop (place + 1) xs) (sym is)

-- the set and the names that are left have all names
pub record Gathers (set : NameSet) (left all : List (List ℕ)) : Type 0 where
  pub has : (name : List ℕ) → (has_name set name || is_one_of left name) ≡ is_one_of all name

pub same_turned : (xs ys : List ℕ) → bytes_eq xs ys ≡ bytes_eq ys xs
same_turned xs ys = by (bytes_eq xs ys) (bytes_eq ys xs) refl refl
  where
    by : (one other : Bool) → bytes_eq xs ys ≡ one → bytes_eq ys xs ≡ other → one ≡ other
    by true true first second = refl
    by false false first second = refl
    by true false first second = sym ((bytes_eq-Decides ys xs).1 (sym ((bytes_eq-Decides xs ys).0 first))) ∙ second
    by false true first second = sym first ∙ (bytes_eq-Decides xs ys).1 (sym ((bytes_eq-Decides ys xs).0 second))

or_cond : (test seen left : Bool) → (cond test true seen || left) ≡ (seen || (test || left))
or_cond true true left = refl
or_cond true false left = refl
or_cond false seen left = refl

pub has_more : (old new : NameSet) (key : Bor (List ℕ)) (name : List ℕ) → Updates name_order old new key true → has_name new name ≡ cond (bytes_eq key.now name) true (has_name old name)
has_more old new key name updates =
    let found : has_name new name ≡ cond (is_eq (slice_cmp nat_cmp key.now name)) true (has_name old name) = updates.0 (record { ref_ptr = (0, 0); now = name }) in
    found ∙ ap (λ (t : Bool). cond t true (has_name old name)) (is_eq-slice_cmp key.now name)

pub one_more : (old new : NameSet) (key : Bor (List ℕ)) (left all : List (List ℕ)) → Updates name_order old new key true → Gathers old (key.now ∷ left) all → Gathers new left all
one_more old new key left all updates before = record { has = λ name. at name }
  where
    at : (name : List ℕ) → (has_name new name || is_one_of left name) ≡ is_one_of all name
    at name =
        ap (λ b. b || is_one_of left name) (has_more old new key name updates ∙ ap (λ (t : Bool). cond t true (has_name old name)) (same_turned key.now name))
        ∙ or_cond (bytes_eq name key.now) (has_name old name) (is_one_of left name) ∙ before.has name

-- names that are among a list are those that its set has
pub among : (set : NameSet) (names others : List (List ℕ)) → HasNames set names → list_any (has_name set) others ≡ list_any (is_one_of names) others
among set names [] has = refl
among set names (other ∷ others) has = rw (has other, among set names others has) refl
