-- On a lawful log the steps of a version whose commits are all there are read as the history's commits, where each of their objects is within the limit.
use Rattle.std.proofs.Common.{◌≡◌, ℕ, ℤ, zero, suc, ◌+◌, ◌<◌, ◌≤◌, Bool, true, false, List, [], ◌∷◌, ◌++◌, length, get_or, take, Option, Some, None, refl, sym, ap, subst, ◌∙◌, arith, inl, inr}
use Rattle.std.specs.Prelude.{Result, Ok, Err, IfSome, is_some, nat_lt, if◌then◌else◌}
use Rattle.std.proofs.lemmas.Bool.{ltb-true, ltb-false}
use Rattle.std.proofs.lemmas.Option.{slice_get-get_or}
use Rattle.std.proofs.Math.Seq.{take-suc}
use Rattle.dk_model.specs.declared.action.Action.{Action}
use Rattle.dk_store.specs.Told.{Told}
use Rattle.dk_store.specs.Objects.{content}
use Rattle.dk_store.specs.Standings.{standing}
use Rattle.dk_paths.specs.Places.{Place, place_path}
use Rattle.dk_lawful.specs.declared.segment.Step.{Step}
use Rattle.dk_lawful.specs.declared.segment.Step.TheVariants.{Commit}
use Rattle.dk_lawful.specs.History.{history, next_version, commits_of}
use Rattle.dk_lawful.specs.Lawful.{Lawful}
use Rattle.dk_lawful.specs.Segments.{commit_place, steps_from}
use Rattle.dk_lawful.proofs.CommitPlaces.{history_small, placed_commit_means}
use Rattle.dk_lawful.proofs.SegmentSteps.{some_of, steps_none, steps_last}
use Rattle.dk_lawful.proofs.Sound.{length_commits}
use Rattle.dk_engine.specs.declared.limits.Which.TheVariants.{Object}
use Rattle.dk_engine.specs.declared.refusal.Refusal.{Refusal}
use Rattle.dk_engine.specs.declared.refusal.Refusal.TheVariants.{Limit}
use Rattle.dk_listing.specs.OfEvents.{stands_at}
use Rattle.dk_listing.specs.Sizes.{stored_size}
use Rattle.dk_snapshot.specs.LawfulOpens.{AreWithinLimit, IsNewestOver}
use Rattle.dk_snapshot.specs.Log.{commit_of_object, newest_behind}
use Rattle.dk_snapshot.specs.Steps as reading
use Rattle.dk_snapshot.specs.Steps.{commit_at_path, fits, if_fits, step_path}
use Rattle.dk_snapshot.proofs.History.{commit_of_object-is}
use Rattle.dk_snapshot.proofs.LastVersion.{content_there}
use Rattle.dk_snapshot.proofs.StepReads.{commits_last}

-- ---- what is read

module _ (events : List Told) (limit : ℕ) where
  -- these commits are read of the steps, or an object is over the limit
  abbrev pub ReadsTo : List Step → List (List Action) → Result (List (List Action)) Refusal → Type 0
  ReadsTo steps found (Ok read) = (read ≡ found) × AreWithinLimit events limit steps
  ReadsTo steps found (Err (Limit Object size)) = IsNewestOver events limit steps size
  ReadsTo steps found (Err _) = ⊥

  within_last : (steps : List Step) (step : Step) → AreWithinLimit events limit steps → IfSome (stored_size events (step_path step)) (λ size. size ≤ limit) → AreWithinLimit events limit (steps ++ step ∷ [])
  within_last [] step all here = (here, tt)
  within_last (first ∷ steps) step all here = (all.0, within_last steps step all.1 here)

  over_before : (steps : List Step) (step : Step) (size : ℕ) → IsNewestOver events limit steps size → IfSome (stored_size events (step_path step)) (λ size. size ≤ limit) → IsNewestOver events limit (steps ++ step ∷ []) size
  over_before [] step size over here = absurd over
  over_before (first ∷ steps) step size (inl newer) here = inl (over_before steps step size newer here)
  over_before (first ∷ steps) step size (inr (all, is, more)) here = inr (within_last steps step all here, is, more)

  over_last : (steps : List Step) (step : Step) (size : ℕ) → stored_size events (step_path step) ≡ Some size → limit < size → IsNewestOver events limit (steps ++ step ∷ []) size
  over_last [] step size is more = inr (tt, is, more)
  over_last (first ∷ steps) step size is more = inl (over_last steps step size is more)

  joined : (steps : List Step) (step : Step) (found : List (List Action)) (commit : List Action) (older : Result (List (List Action)) Refusal) → IfSome (stored_size events (step_path step)) (λ size. size ≤ limit)
      → ReadsTo steps found older → ReadsTo (steps ++ step ∷ []) (found ++ commit ∷ []) (newest_behind (Ok commit) older)
  joined steps step found commit (Ok read) here so_far = (ap (λ (commits : List (List Action)). commits ++ commit ∷ []) so_far.0, within_last steps step so_far.1 here)
  joined steps step found commit (Err (Limit Object size)) here so_far = over_before steps step size so_far here
  joined steps step found commit (Err _) here so_far = absurd so_far

  -- one more step, whose object means this commit
  one_more : (steps : List Step) (step : Step) (found : List (List Action)) (commit : List Action) (older : Result (List (List Action)) Refusal)
      → commit_of_object (step_path step) (content events (step_path step)) ≡ Ok commit → ReadsTo steps found older
      → ReadsTo (steps ++ step ∷ []) (found ++ commit ∷ []) (newest_behind (commit_at_path events limit (step_path step)) older)
  one_more steps step found commit older means so_far = by (stored_size events (step_path step)) refl
    where
      fine : IfSome (stored_size events (step_path step)) (λ size. size ≤ limit) → ReadsTo (steps ++ step ∷ []) (found ++ commit ∷ []) (newest_behind (commit_of_object (step_path step) (content events (step_path step))) older)
      fine here = subst (λ (meant : Result (List Action) Refusal). ReadsTo (steps ++ step ∷ []) (found ++ commit ∷ []) (newest_behind meant older)) (sym means) (joined steps step found commit older here so_far)

      by_test : (size : ℕ) (over : Bool) → stored_size events (step_path step) ≡ Some size → nat_lt limit size ≡ over
          → ReadsTo (steps ++ step ∷ []) (found ++ commit ∷ []) (newest_behind (if_fits (if over then Err (Limit Object size) else Ok tt) (commit_of_object (step_path step) (content events (step_path step)))) older)
      by_test size true is test = over_last steps step size is (ltb-true limit size test)
      by_test size false is test = fine (subst (λ (s : Option ℕ). IfSome s (λ size. size ≤ limit)) (sym is) (ltb-false limit size test))

      by : (size : Option ℕ) → stored_size events (step_path step) ≡ size
          → ReadsTo (steps ++ step ∷ []) (found ++ commit ∷ []) (newest_behind (if_fits (fits limit size) (commit_of_object (step_path step) (content events (step_path step)))) older)
      by None is = fine (subst (λ (s : Option ℕ). IfSome s (λ size. size ≤ limit)) (sym is) tt)
      by (Some size) is = by_test size (nat_lt limit size) is refl

module _ (events : List Told) (horizon : ℤ) (lawful : Lawful events horizon) (staged_first : Bool) where
  abbrev place_at : ℕ → Option Place
  place_at = commit_place (stands_at events) (standing events) staged_first

  abbrev commits : List (List Action)
  commits = commits_of (history events)

  -- the object at the place of a version of the history means the history's commit
  pub commit_there : (version : ℕ) (place : Place) → version < next_version events → place_at version ≡ Some place
      → commit_of_object (place_path place) (content events (place_path place)) ≡ Ok (get_or commits version [])
  commit_there version place below is =
      let long = length_commits (history events) in
      let inside : version < length commits = omega arith in
      commit_of_object-is (place_path place) (content events (place_path place)) (get_or commits version [])
      (placed_commit_means events horizon lawful (stands_at events) (λ p there. content_there events (place_path p) there) staged_first version place (history_small events horizon lawful version below) is
      ∙ slice_get-get_or commits version [] inside)

  pub reads : (limit count : ℕ) → count ≤ next_version events → ((w : ℕ) → w < count → is_some (place_at w) ≡ true)
      → ReadsTo events limit (steps_from place_at 0 count) (take count commits) (reading.commits_of_steps events limit (steps_from place_at 0 count))
  reads limit zero most all = subst (λ (steps : List Step). ReadsTo events limit steps (take 0 commits) (reading.commits_of_steps events limit steps)) (sym (steps_none place_at 0)) (refl, tt)
  reads limit (suc k) most all =
      let here = some_of (place_at k) (all k (omega arith)) in
      let front : List Step = steps_from place_at 0 k in
      let step : Step = Commit (0 + k) (place_path here.0) in
      let same : 0 + k ≡ k = omega arith in
      let whole : steps_from place_at 0 (suc k) ≡ front ++ step ∷ [] = steps_last place_at here.0 0 k (λ w least less. all w (omega arith)) (ap place_at same ∙ here.1) in
      let long = length_commits (history events) in
      let inside : k < length commits = omega arith in
      let meant = commit_there k here.0 (omega arith) here.1 in
      let read : ReadsTo events limit (front ++ step ∷ []) (take k commits ++ get_or commits k [] ∷ []) (newest_behind (commit_at_path events limit (step_path step)) (reading.commits_of_steps events limit front)) =
      one_more events limit front step (take k commits) (get_or commits k []) (reading.commits_of_steps events limit front) meant (reads limit k (omega arith) (λ w less. all w (omega arith))) in
      subst (λ (steps : List Step). ReadsTo events limit steps (take (suc k) commits) (reading.commits_of_steps events limit steps)) (sym whole)
      (subst (λ (r : Result (List (List Action)) Refusal). ReadsTo events limit (front ++ step ∷ []) (take (suc k) commits) r) (sym (commits_last events limit front step))
      (subst (λ (found : List (List Action)). ReadsTo events limit (front ++ step ∷ []) found (newest_behind (commit_at_path events limit (step_path step)) (reading.commits_of_steps events limit front)))
      (sym (take-suc commits k [] inside)) read))
