-- One more step of a walk, its end, and its gap.
use Rattle.std.proofs.Common.{◌≡◌, ℕ, zero, suc, ◌+◌, ◌-◌, ◌<◌, ◌≤◌, List, [], ◌∷◌, ◌++◌, true, false, refl, sym, ap, ap₂, ◌∙◌, arith, append_assoc, append-nil}
use Rattle.std.specs.Prelude.{Option, Some, None, IfSome, Ok, Err, nat_lt, option_map}
use Rattle.std.specs.Option.{option_or}
use Rattle.std.proofs.lemmas.Bool.Decides.{nat_tests}
use Rattle.dk_paths.specs.Names.{commit_path}
use Rattle.dk_paths.specs.Places.{Place}
use Rattle.dk_lawful.specs.declared.segment.Step.{Step}
use Rattle.dk_lawful.specs.Segments.{walked_to, gap_to, after_step, commit_step, compacted_step, step_at}
use Rattle.dk_engine.specs.declared.refusal.Refusal.TheVariants.{Missing}
use Rattle.dk_segment.specs.declared.commit_index.CommitObject.{CommitObject}
use Rattle.dk_segment.specs.declared.stepping.Found.TheVariants as founds
use Rattle.dk_segment.specs.Walked.{object_place, step_found, stepped, unless_absent}

-- ---- the step of a version

-- no compacted file begins there
pub found_object : (reach : ℕ → Option ℕ) (place_at : ℕ → Option Place) (version : ℕ) (object : Option CommitObject) → reach version ≡ None → option_map (object_place version) object ≡ place_at version
    → option_map (λ o. step_found version (founds.Object o)) object ≡ step_at reach place_at version
found_object reach place_at version object none is =
    fused object ∙ ap (option_map (commit_step version)) is ∙ ap (λ (o : Option ℕ). option_or (option_map (compacted_step version) o) (option_map (commit_step version) (place_at version))) (sym none)
  where
    fused : (o : Option CommitObject) → option_map (λ o. step_found version (founds.Object o)) o ≡ option_map (commit_step version) (option_map (object_place version) o)
    fused None = refl
    fused (Some o) = refl

pub found_compacted : (reach : ℕ → Option ℕ) (place_at : ℕ → Option Place) (version last : ℕ) → reach version ≡ Some last → Some (step_found version (founds.Compacted last)) ≡ step_at reach place_at version
found_compacted reach place_at version last is = ap (λ (o : Option ℕ). option_or (option_map (compacted_step version) o) (option_map (commit_step version) (place_at version))) (sym is)

-- it goes on by a version at least, and passes the asked one by no more than that
pub step_within : (reach : ℕ → Option ℕ) (place_at : ℕ → Option Place) (asked version : ℕ) → version ≤ asked → ((last : ℕ) → reach version ≡ Some last → (version < last) × (last ≤ asked))
    → IfSome (step_at reach place_at version) (λ s. after_step s ≤ asked + 1)
step_within reach place_at asked version within reached = by (reach version) (place_at version) reached
  where
    by : (last : Option ℕ) (place : Option Place) → ((l : ℕ) → last ≡ Some l → (version < l) × (l ≤ asked))
        → IfSome (option_or (option_map (compacted_step version) last) (option_map (commit_step version) place)) (λ s. after_step s ≤ asked + 1)
    by None None are = tt
    by None (Some place) are = omega arith
    by (Some last) place are = let both = are last refl in let most : last ≤ asked = both.1 in omega (arith, most)

-- ---- the walk

-- the steps found, then those that are left, are the whole; and no gap was passed
pub record IsWalking (at : ℕ → Option Step) (asked first done next : ℕ) (found : List Step) : Type 0 where
  pub steps : found ++ walked_to at asked next (asked + 1 - done) ≡ walked_to at asked first (suc asked)
  pub gap : gap_to at asked next (asked + 1 - done) ≡ gap_to at asked first (suc asked)

pub begins : (at : ℕ → Option Step) (asked first : ℕ) → IsWalking at asked first 0 first []
begins at asked first = record {
  steps = ap (walked_to at asked first) (let e : asked + 1 - 0 ≡ suc asked = omega arith in e);
  gap = ap (gap_to at asked first) (let e : asked + 1 - 0 ≡ suc asked = omega arith in e);
}

not_past : (asked next : ℕ) → next ≤ asked → nat_lt asked next ≡ false
not_past asked next within = grind (arith, nat_tests)

is_past : (asked next : ℕ) → asked < next → nat_lt asked next ≡ true
is_past asked next past = grind (arith, nat_tests)

steps_more : (at : ℕ → Option Step) (asked next left : ℕ) (step : Step) → next ≤ asked → at next ≡ Some step → walked_to at asked next (suc left) ≡ step ∷ walked_to at asked (after_step step) left
unfolding walked_to
steps_more at asked next left step within is = rw (not_past asked next within, is) refl

gap_more : (at : ℕ → Option Step) (asked next left : ℕ) (step : Step) → next ≤ asked → at next ≡ Some step → gap_to at asked next (suc left) ≡ gap_to at asked (after_step step) left
unfolding gap_to
gap_more at asked next left step within is = rw (not_past asked next within, is) refl

gap_here : (at : ℕ → Option Step) (asked next left : ℕ) → next ≤ asked → at next ≡ None → gap_to at asked next (suc left) ≡ Some next
unfolding gap_to
gap_here at asked next left within is = rw (not_past asked next within, is) refl

steps_past : (at : ℕ → Option Step) (asked next left : ℕ) → asked < next → walked_to at asked next left ≡ []
unfolding walked_to
steps_past at asked next zero past = refl
steps_past at asked next (suc left) past = rw (is_past asked next past) refl

gap_past : (at : ℕ → Option Step) (asked next left : ℕ) → asked < next → gap_to at asked next left ≡ None
unfolding gap_to
gap_past at asked next zero past = refl
gap_past at asked next (suc left) past = rw (is_past asked next past) refl

steps_end : (at : ℕ → Option Step) (asked next : ℕ) → walked_to at asked next 0 ≡ []
unfolding walked_to
steps_end at asked next = refl

gap_end : (at : ℕ → Option Step) (asked next : ℕ) → gap_to at asked next 0 ≡ None
unfolding gap_to
gap_end at asked next = refl

-- one more step
pub goes_on : (at : ℕ → Option Step) (asked first done next : ℕ) (found : List Step) (step : Step) → done < asked + 1 → next ≤ asked → at next ≡ Some step
    → IsWalking at asked first done next found → IsWalking at asked first (done + 1) (after_step step) (found ++ step ∷ [])
goes_on at asked first done next found step lt within is walking =
    let left : ℕ = asked + 1 - (done + 1) in
    let more : asked + 1 - done ≡ suc left = omega arith in
    let ahead : walked_to at asked next (asked + 1 - done) ≡ step ∷ walked_to at asked (after_step step) left = ap (walked_to at asked next) more ∙ steps_more at asked next left step within is in
    record {
      steps = append_assoc found (step ∷ []) (walked_to at asked (after_step step) left) ∙ ap (λ (later : List Step). found ++ later) (sym ahead) ∙ walking.steps;
      gap = sym (ap (gap_to at asked next) more ∙ gap_more at asked next left step within is) ∙ walking.gap;
    }

-- the asked version is passed
pub passes_asked : (at : ℕ → Option Step) (asked first done next : ℕ) (found : List Step) → asked < next → IsWalking at asked first done next found → stepped at asked first ≡ Ok found
passes_asked at asked first done next found past walking =
    let left : ℕ = asked + 1 - done in
    let steps : walked_to at asked first (suc asked) ≡ found = sym walking.steps ∙ ap (λ (later : List Step). found ++ later) (steps_past at asked next left past) ∙ append-nil found in
    let gap : gap_to at asked first (suc asked) ≡ None = sym walking.gap ∙ gap_past at asked next left past in
    ap₂ unless_absent steps gap

-- as many steps are made as there are versions
pub ends : (at : ℕ → Option Step) (asked first done next : ℕ) (found : List Step) → done ≡ asked + 1 → IsWalking at asked first done next found → stepped at asked first ≡ Ok found
ends at asked first done next found all walking =
    let none : asked + 1 - done ≡ 0 = omega (arith, all) in
    let steps : walked_to at asked first (suc asked) ≡ found =
    sym walking.steps ∙ ap (λ (n : ℕ). found ++ walked_to at asked next n) none ∙ ap (λ (later : List Step). found ++ later) (steps_end at asked next) ∙ append-nil found in
    let gap : gap_to at asked first (suc asked) ≡ None = sym walking.gap ∙ ap (gap_to at asked next) none ∙ gap_end at asked next in
    ap₂ unless_absent steps gap

-- a version for which there is no step
pub stops : (at : ℕ → Option Step) (asked first done next : ℕ) (found : List Step) → done < asked + 1 → next ≤ asked → at next ≡ None → IsWalking at asked first done next found
    → stepped at asked first ≡ Err (Missing (commit_path next))
stops at asked first done next found lt within is walking =
    let left : ℕ = asked + 1 - (done + 1) in
    let more : asked + 1 - done ≡ suc left = omega arith in
    let gap : gap_to at asked first (suc asked) ≡ Some next = sym walking.gap ∙ ap (gap_to at asked next) more ∙ gap_here at asked next left within is in
    ap (unless_absent (walked_to at asked first (suc asked))) gap
