-- One more version of a walk, its end, and its gap.
use Rattle.std.proofs.Common.{◌≡◌, ℕ, suc, ◌+◌, ◌-◌, ◌<◌, List, [], ◌∷◌, ◌++◌, refl, sym, ap, ap₂, ◌∙◌, arith, add-one, append_assoc, append-nil}
use Rattle.std.specs.Prelude.{Option, Some, None, Ok, Err}
use Rattle.dk_paths.specs.Names.{commit_path}
use Rattle.dk_paths.specs.Places.{Place, place_path}
use Rattle.dk_lawful.specs.declared.segment.Step.{Step}
use Rattle.dk_lawful.specs.declared.segment.Step.TheVariants.{Commit}
use Rattle.dk_lawful.specs.Segments.{steps_from, gap_from}
use Rattle.dk_engine.specs.declared.refusal.Refusal.TheVariants.{Missing}
use Rattle.dk_segment.specs.Walked.{walked, unless_absent}

-- the steps found, then those that are left, are the whole; and no gap was passed
pub record IsOnTheWay (place_at : ℕ → Option Place) (found : List Step) (first version count : ℕ) : Type 0 where
  pub steps : found ++ steps_from place_at version (first + count - version) ≡ steps_from place_at first count
  pub gap : gap_from place_at version (first + count - version) ≡ gap_from place_at first count

pub begins : (place_at : ℕ → Option Place) (first count : ℕ) → IsOnTheWay place_at [] first first count
begins place_at first count = record {
  steps = ap (steps_from place_at first) (let e : first + count - first ≡ count = omega arith in e);
  gap = ap (gap_from place_at first) (let e : first + count - first ≡ count = omega arith in e);
}

steps_more : (place_at : ℕ → Option Place) (place : Place) (v left : ℕ) → place_at v ≡ Some place → steps_from place_at v (suc left) ≡ Commit v (place_path place) ∷ steps_from place_at (suc v) left
unfolding steps_from
steps_more place_at place v left is = rw is refl

gap_more : (place_at : ℕ → Option Place) (place : Place) (v left : ℕ) → place_at v ≡ Some place → gap_from place_at v (suc left) ≡ gap_from place_at (suc v) left
unfolding gap_from
gap_more place_at place v left is = rw is refl

gap_here : (place_at : ℕ → Option Place) (v left : ℕ) → place_at v ≡ None → gap_from place_at v (suc left) ≡ Some v
unfolding gap_from
gap_here place_at v left is = rw is refl

steps_end : (place_at : ℕ → Option Place) (v : ℕ) → steps_from place_at v 0 ≡ []
unfolding steps_from
steps_end place_at v = refl

gap_end : (place_at : ℕ → Option Place) (v : ℕ) → gap_from place_at v 0 ≡ None
unfolding gap_from
gap_end place_at v = refl

-- one more version, whose commit is there
pub goes_on : (place_at : ℕ → Option Place) (found : List Step) (place : Place) (step : Step) (first v count : ℕ) → v < first + count → Some place ≡ place_at v → step ≡ Commit v (place_path place)
    → IsOnTheWay place_at found first v count → IsOnTheWay place_at (found ++ step ∷ []) first (v + 1) count
goes_on place_at found place step first v count lt is made way =
    let left : ℕ = first + count - (v + 1) in
    let more : first + count - v ≡ suc left = omega arith in
    let next : suc v ≡ v + 1 = sym (add-one v) in
    let ahead : steps_from place_at v (first + count - v) ≡ step ∷ steps_from place_at (v + 1) left =
    ap (steps_from place_at v) more ∙ steps_more place_at place v left (sym is) ∙ ap₂ (λ (s : Step) (n : ℕ). s ∷ steps_from place_at n left) (sym made) next in
    record {
      steps = append_assoc found (step ∷ []) (steps_from place_at (v + 1) left) ∙ ap (λ (later : List Step). found ++ later) (sym ahead) ∙ way.steps;
      gap = sym (ap (gap_from place_at v) more ∙ gap_more place_at place v left (sym is) ∙ ap (λ (n : ℕ). gap_from place_at n left) next) ∙ way.gap;
    }

-- all versions are done
pub ends : (place_at : ℕ → Option Place) (found : List Step) (first v count : ℕ) → v ≡ first + count → IsOnTheWay place_at found first v count → walked place_at first count ≡ Ok found
ends place_at found first v count same way =
    let none : first + count - v ≡ 0 = omega (arith, same) in
    let steps : steps_from place_at first count ≡ found =
    sym way.steps ∙ ap (λ (n : ℕ). found ++ steps_from place_at v n) none ∙ ap (λ (later : List Step). found ++ later) (steps_end place_at v) ∙ append-nil found in
    let gap : gap_from place_at first count ≡ None = sym way.gap ∙ ap (gap_from place_at v) none ∙ gap_end place_at v in
    ap₂ unless_absent steps gap

-- a version whose commit isn't there
pub stops : (place_at : ℕ → Option Place) (found : List Step) (first v count : ℕ) → v < first + count → None ≡ place_at v → IsOnTheWay place_at found first v count → walked place_at first count ≡ Err (Missing (commit_path v))
stops place_at found first v count lt is way =
    let left : ℕ = first + count - (v + 1) in
    let more : first + count - v ≡ suc left = omega arith in
    let gap : gap_from place_at first count ≡ Some v = sym way.gap ∙ ap (gap_from place_at v) more ∙ gap_here place_at v left (sym is) in
    ap (unless_absent (steps_from place_at first count)) gap
