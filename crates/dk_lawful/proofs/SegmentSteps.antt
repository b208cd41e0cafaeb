-- The steps of a segment: versions that have their places, gaps, and one more version.
use Rattle.std.proofs.Common.{◌≡◌, ℕ, zero, suc, ◌+◌, ◌<◌, ◌≤◌, Bool, true, false, List, [], ◌∷◌, ◌++◌, Option, Some, None, refl, sym, ap, ◌∙◌, arith, inl, inr}
use Rattle.std.specs.Prelude.{is_some, if◌then◌else◌}
use Rattle.std.proofs.lemmas.Bool.{cases_lt}
use Rattle.dk_paths.specs.Places.{Place, place_path}
use Rattle.dk_lawful.specs.declared.segment.Step.{Step}
use Rattle.dk_lawful.specs.declared.segment.Step.TheVariants.{Commit}
use Rattle.dk_lawful.specs.Segments.{before_later, steps_from, gap_from}

-- what is there
pub some_of : {X : Type 0} (found : Option X) → is_some found ≡ true → (x : X) × (found ≡ Some x)
some_of None is = cc
some_of (Some x) is = (x, refl)

-- up to a version without a gap each version has its place
pub no_gap : (place_at : ℕ → Option Place) (v count : ℕ) → gap_from place_at v count ≡ None → (w : ℕ) → v ≤ w → w < v + count → is_some (place_at w) ≡ true
unfolding gap_from
no_gap place_at v zero none w least less = absurd (omega arith)
no_gap place_at v (suc count) none w least less = by (is_some (place_at v)) refl none (λ rest past. no_gap place_at (suc v) count rest w past (omega arith))
  where
    by : (there : Bool) → is_some (place_at v) ≡ there → (if there then gap_from place_at (suc v) count else Some v) ≡ None → (gap_from place_at (suc v) count ≡ None → suc v ≤ w → is_some (place_at w) ≡ true)
        → is_some (place_at w) ≡ true
    by true at rest later = elim (cases_lt v w) [ inl under ↦ later rest (omega arith) | inr past ↦ (let same : w ≡ v = omega arith in ap (λ n. is_some (place_at n)) same ∙ at) ]
    by false at rest later = absurd (let no : ◌≡◌ {A = Option ℕ} (Some v) None = rest in cc)

-- where each version has its place there is no gap
pub all_there : (place_at : ℕ → Option Place) (v count : ℕ) → ((w : ℕ) → w < v + count → is_some (place_at w) ≡ true) → gap_from place_at v count ≡ None
unfolding gap_from
all_there place_at v zero all = refl
all_there place_at v (suc count) all = rw (all v (omega arith)) (all_there place_at (suc v) count (λ w less. all w (omega arith)))

-- the last version is the last step
pub steps_last : (place_at : ℕ → Option Place) (place : Place) (v count : ℕ) → ((w : ℕ) → v ≤ w → w < v + suc count → is_some (place_at w) ≡ true) → place_at (v + count) ≡ Some place
    → steps_from place_at v (suc count) ≡ steps_from place_at v count ++ Commit (v + count) (place_path place) ∷ []
unfolding steps_from
steps_last place_at place v zero all is =
    let here : v ≡ v + 0 = omega arith in
    ap (λ (p : Option Place). before_later v p []) (ap place_at here ∙ is) ∙ ap (λ (n : ℕ). Commit n (place_path place) ∷ []) here
steps_last place_at place v (suc count) all is =
    let first = some_of (place_at v) (all v (omega arith) (omega arith)) in
    let next : suc v + count ≡ v + suc count = omega arith in
    let rest : steps_from place_at (suc v) (suc count) ≡ steps_from place_at (suc v) count ++ Commit (suc v + count) (place_path place) ∷ [] =
    steps_last place_at place (suc v) count (λ w least less. all w (omega arith) (omega arith)) (ap place_at next ∙ is) in
    ap (λ (p : Option Place). before_later v p (steps_from place_at (suc v) (suc count))) first.1
    ∙ ap (λ (later : List Step). Commit v (place_path first.0) ∷ later) (rest ∙ ap (λ (n : ℕ). steps_from place_at (suc v) count ++ Commit n (place_path place) ∷ []) next)
    ∙ ap (λ (p : Option Place). before_later v p (steps_from place_at (suc v) count) ++ Commit (v + suc count) (place_path place) ∷ []) (sym first.1)

-- no version has no step
pub steps_none : (place_at : ℕ → Option Place) (v : ℕ) → steps_from place_at v 0 ≡ []
unfolding steps_from
steps_none place_at v = refl
