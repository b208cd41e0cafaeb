-- The next version of a log with ratifications is one above the greatest that was ever ratified.
use Rattle.std.proofs.Common.{◌≡◌, ℕ, ℤ, ◌+◌, true, false, inl, inr, length, max, List, [], ◌∷◌, Option, Some, None, refl, sym, ap, subst, ◌∙◌, arith, length-append, true≢false}
use Rattle.dk_store.specs.Told.{Told, Made, Over, Deleted, Ratified, Forgotten}
use Rattle.dk_store.specs.Standings.{above, next_ratified}
use Rattle.dk_store.specs.Writing.{MayRatify}
use Rattle.dk_paths.specs.Places.{Place, Commit_at, Classic, Part, V2, Compacted, Hint, Sidecar, Staged, Other, place_of}
use Rattle.dk_lawful.specs.Managed.{is_managed}
use Rattle.dk_lawful.specs.Timestamps.{last_timestamp}
use Rattle.dk_lawful.specs.History.{RatifiedCommit, by_catalogue, after_made, history, commits_of, state_of, table}
use Rattle.dk_lawful.specs.Permits.{MayMake, RatifiesCommit}
use Rattle.dk_lawful.specs.Lawful.{Lawful}
use Rattle.dk_lawful.specs.Laws.{NextIsRatifiedNext}
use Rattle.dk_lawful.proofs.Heads.{state_after}
use Rattle.dk_lawful.proofs.Management.{management_stays}
use Rattle.dk_lawful.proofs.Sound.{Sound}
use Rattle.dk_lawful.proofs.SoundMade.{backfill_adds}
use Rattle.dk_lawful.proofs.SoundOthers.{ratifies_itself, lawful_is_sound}

-- where some version was ratified, the table is managed, and the one above the greatest is the next one
abbrev pub GoesOnFrom : List RatifiedCommit → Option ℕ → Type 0
GoesOnFrom h None = Unit {0}
GoesOnFrom h (Some next) = (length h ≡ next) × (is_managed (state_of h) ≡ true)

-- a commit by file comes to a table without ratifications alone
unmanaged_none : (h longer : List RatifiedCommit) (next : Option ℕ) → is_managed (state_of h) ≡ false → GoesOnFrom h next → GoesOnFrom longer next
unmanaged_none h longer None unmanaged goes = tt
unmanaged_none h longer (Some next) unmanaged goes = absurd (true≢false (sym goes.1 ∙ unmanaged))

made_goes : (events : List Told) (path bytes : List ℕ) (stamp horizon : ℤ) (place : Place) → place_of path ≡ place → Sound events horizon → MayMake events place bytes horizon
    → GoesOnFrom (history events) (next_ratified events) → GoesOnFrom (history (Made path bytes stamp ∷ events)) (next_ratified events)
made_goes events path bytes stamp horizon (Commit_at version) is sound (inl may) goes =
    unmanaged_none (history events) (history (Made path bytes stamp ∷ events)) (next_ratified events) may.2.by_file goes
made_goes events path bytes stamp horizon (Commit_at version) is sound (inr may) goes =
    subst (λ h. GoesOnFrom h (next_ratified events)) (sym (backfill_adds events path bytes stamp horizon version is may sound)) goes
made_goes events path bytes stamp horizon (Staged version id) is sound may goes =
    subst (λ (place : Place). GoesOnFrom (after_made (history events) place bytes) (next_ratified events)) (sym is) goes
made_goes events path bytes stamp horizon (Classic version) is sound may goes =
    subst (λ (place : Place). GoesOnFrom (after_made (history events) place bytes) (next_ratified events)) (sym is) goes
made_goes events path bytes stamp horizon (Part version part parts) is sound may goes =
    subst (λ (place : Place). GoesOnFrom (after_made (history events) place bytes) (next_ratified events)) (sym is) goes
made_goes events path bytes stamp horizon (V2 version id json) is sound may goes =
    subst (λ (place : Place). GoesOnFrom (after_made (history events) place bytes) (next_ratified events)) (sym is) goes
made_goes events path bytes stamp horizon (Compacted first last) is sound may goes =
    subst (λ (place : Place). GoesOnFrom (after_made (history events) place bytes) (next_ratified events)) (sym is) goes
made_goes events path bytes stamp horizon (Sidecar name) is sound may goes =
    subst (λ (place : Place). GoesOnFrom (after_made (history events) place bytes) (next_ratified events)) (sym is) goes
made_goes events path bytes stamp horizon Hint is sound may goes =
    subst (λ (place : Place). GoesOnFrom (after_made (history events) place bytes) (next_ratified events)) (sym is) goes
made_goes events path bytes stamp horizon (Other other) is sound may goes =
    subst (λ (place : Place). GoesOnFrom (after_made (history events) place bytes) (next_ratified events)) (sym is) goes

above_next : (h : List RatifiedCommit) (version : ℕ) (next : Option ℕ) → version ≡ length h → GoesOnFrom h next → above version next ≡ version + 1
above_next h version None is goes = refl
above_next h version (Some next) is goes =
    let at : next ≡ version = sym goes.0 ∙ sym is in
    ap (max (version + 1)) at ∙ max_next version
  where
    max_next : (v : ℕ) → max (v + 1) v ≡ v + 1
    max_next v = omega arith

ratified_goes : (events : List Told) (version : ℕ) (name : List ℕ) → RatifiesCommit events version name → GoesOnFrom (history events) (next_ratified events)
    → GoesOnFrom (history (Ratified version name ∷ events)) (Some (above version (next_ratified events)))
ratified_goes events version name may goes =
    let now = ratifies_itself events version name may in
    let long : length (history (Ratified version name ∷ events)) ≡ length (history events) + 1 = ap length now ∙ length-append (history events) (by_catalogue may.actions ∷ []) in (
      long ∙ ap (λ n. n + 1) (sym may.next) ∙ sym (above_next (history events) version (next_ratified events) may.next goes),
      ap is_managed (ap state_of now ∙ state_after (history events) (by_catalogue may.actions)) ∙ management_stays (table events) (last_timestamp (commits_of (history events))) (length (commits_of (history events))) may.actions may.valid may.by_catalogue,
    )

goes_on_from : (events : List Told) (horizon : ℤ) → Lawful events horizon → GoesOnFrom (history events) (next_ratified events)
goes_on_from [] horizon lawful = tt
goes_on_from (Made path bytes stamp ∷ events) horizon lawful =
    made_goes events path bytes stamp horizon (place_of path) refl (lawful_is_sound events horizon lawful.1) lawful.0.1 (goes_on_from events horizon lawful.1)
goes_on_from (Over path bytes stamp ∷ events) horizon lawful = goes_on_from events horizon lawful.1
goes_on_from (Deleted path ∷ events) horizon lawful = goes_on_from events horizon lawful.1
goes_on_from (Ratified version name ∷ events) horizon lawful = ratified_goes events version name lawful.0 (goes_on_from events horizon lawful.1)
goes_on_from (Forgotten upto ∷ events) horizon lawful = goes_on_from events horizon lawful.1

may_ratify : (h : List RatifiedCommit) (next : Option ℕ) → GoesOnFrom h next → MayRatify (length h) next
may_ratify h None goes = tt
may_ratify h (Some next) goes = goes.0

pub next_is_ratified_next : NextIsRatifiedNext
next_is_ratified_next events horizon lawful = may_ratify (history events) (next_ratified events) (goes_on_from events horizon lawful)
