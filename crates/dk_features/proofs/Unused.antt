-- Whether the schema has invariants doesn't matter where the feature isn't listed.
use Rattle.std.proofs.Common.{◌≡◌, ℕ, ◌+◌, Bool, true, false, List, [], ◌∷◌, Option, Some, None, Result, Ok, Err, subst, ◌||◌, arith, cond, get_or, rules, option_map, refl, ap, sym, ◌∙◌, true≢false}
use Rattle.std.specs.List.{position_from}
use Rattle.std.specs.Str.{bytes_eq}
use Rattle.std.proofs.lemmas.Grind.{common_steps}
use Rattle.std.proofs.lemmas.Slice.Eq.{bytes_eq-Decides}
use Rattle.dk_features.specs.declared.fault.FeatureFault.{FeatureFault}
use Rattle.dk_features.specs.declared.fault.FeatureFault.TheVariants as faults
use Rattle.dk_features.specs.declared.fault.FeatureList.TheVariants as lists
use Rattle.dk_model.specs.NameSets.{is_one_of}
use Rattle.dk_features.specs.Names.{invariants}
use Rattle.dk_features.specs.Support.{answer_of, Answers, fault_at, is_unwritten, unwritten_listed}

turned : (xs ys : List ℕ) (r : Bool) → bytes_eq xs ys ≡ r → bytes_eq ys xs ≡ false → r ≡ false
turned xs ys false is differs = refl
turned xs ys true is differs = absurd (true≢false (sym ((bytes_eq-Decides ys xs).1 (sym ((bytes_eq-Decides xs ys).0 is))) ∙ differs))

first : (uses other : Bool) (i : ℕ) (names : List (List ℕ)) → is_one_of names invariants ≡ false → position_from (is_unwritten uses) i names ≡ position_from (is_unwritten other) i names
first uses other i [] none = refl
first uses other i (name ∷ names) none =
    let differs : bytes_eq name invariants ≡ false = turned name invariants (bytes_eq name invariants) refl (left none) in
    let same : is_unwritten uses name ≡ is_unwritten other name = grind (arith, common_steps, differs) in
    let later : position_from (is_unwritten uses) (i + 1) names ≡ position_from (is_unwritten other) (i + 1) names = first uses other (i + 1) names (right none) in
    ap (λ b. cond b (Some i) (position_from (is_unwritten uses) (i + 1) names)) same ∙ ap (cond (is_unwritten other name) (Some i)) later
  where
    left : bytes_eq invariants name || is_one_of names invariants ≡ false → bytes_eq invariants name ≡ false
    left is = search rules

    right : bytes_eq invariants name || is_one_of names invariants ≡ false → is_one_of names invariants ≡ false
    right is = search rules

pub unused : (uses other : Bool) (names : List (List ℕ)) → is_one_of names invariants ≡ false → unwritten_listed uses names ≡ unwritten_listed other names
unused uses other names none = ap (option_map (λ place. fault_at lists.Writer (get_or names place []) place)) (first uses other 0 names none)

-- the answer to what is in the way answers it
pub answers : (meant : Option FeatureFault) (result : Result (Unit {0}) FeatureFault) → result ≡ answer_of meant → Answers result meant
answers None result is = subst (λ r. Answers r None) (sym is) refl
answers (Some faults.OutOfMemory) result is = subst (λ r. Answers r (Some faults.OutOfMemory)) (sym is) tt
answers (Some (faults.ReaderVersion n)) result is = subst (λ r. Answers r (Some (faults.ReaderVersion n))) (sym is) refl
answers (Some (faults.WriterVersion n)) result is = subst (λ r. Answers r (Some (faults.WriterVersion n))) (sym is) refl
answers (Some (faults.Feature list place)) result is = subst (λ r. Answers r (Some (faults.Feature list place))) (sym is) refl
answers (Some faults.InvariantsUsed) result is = subst (λ r. Answers r (Some faults.InvariantsUsed)) (sym is) refl

-- what an answer tells of what is in the way
pub told_none : (meant : Option FeatureFault) (u : Unit {0}) → Ok u ≡ answer_of meant → meant ≡ None
told_none None u is = refl
told_none (Some fault) u is = absurd (let no : ◌≡◌ {A = Result (Unit {0}) FeatureFault} (Ok u) (Err fault) = is in cc)

pub told_some : (meant : Option FeatureFault) (fault : FeatureFault) → Err fault ≡ answer_of meant → meant ≡ Some fault
told_some None fault is = absurd (let no : ◌≡◌ {A = Result (Unit {0}) FeatureFault} (Err fault) (Ok tt) = is in cc)
told_some (Some other) fault is = let same : fault ≡ other = cc in ap (λ (f : FeatureFault). Some f) (sym same)

pub told_fault : (meant : Option FeatureFault) (fault : FeatureFault) → (fault ≡ faults.OutOfMemory → ⊥) → Answers (Err fault) meant → meant ≡ Some fault
told_fault meant faults.OutOfMemory other is = absurd (other refl)
told_fault meant (faults.ReaderVersion n) other is = is
told_fault meant (faults.WriterVersion n) other is = is
told_fault meant (faults.Feature list place) other is = is
told_fault meant faults.InvariantsUsed other is = is
