-- What a version opens as is one value: so far that of its commits alone.
use Rattle.std.proofs.Common.{◌≡◌, ℕ, ℤ, List, [], Option, Some, None, refl, sym, ap, subst, ◌∙◌}
use Rattle.std.specs.Prelude.{Result, Ok, Err, IfSome}
use Rattle.dk_model.specs.declared.action.Action.{Action}
use Rattle.dk_store.specs.Told.{Told}
use Rattle.dk_store.specs.Standings.{standing}
use Rattle.dk_lawful.specs.declared.segment.Choice.{Choice}
use Rattle.dk_lawful.specs.declared.segment.Segment.{Segment}
use Rattle.dk_lawful.specs.declared.segment.Step.{Step}
use Rattle.dk_lawful.specs.Segments.{commit_segment, commit_gap}
use Rattle.dk_engine.specs.declared.limits.Limits.{Limits}
use Rattle.dk_engine.specs.declared.refusal.Refusal.{Refusal}
use Rattle.dk_engine.specs.declared.refusal.Refusal.TheVariants as refusals
use Rattle.dk_engine.specs.Answers.{AnswersMeant, AnswersBy}
use Rattle.dk_engine.proofs.Refused.{gives_by}
use Rattle.dk_listing.specs.declared.catalogued.Catalogued.{Catalogued}
use Rattle.dk_listing.specs.OfEvents.{IsListingOf, stands_at, latest}
use Rattle.dk_segment.specs.Chosen.{unless_gap}
use Rattle.dk_snapshot.specs.declared.table.Snapshot.{Snapshot}
use Rattle.dk_snapshot.specs.Asked.{version_asked}
use Rattle.dk_snapshot.specs.Opening.{state_of_commits, snapshot_with, opened_segment, opened_chosen, opened_asked, opened}
use Rattle.dk_snapshot.specs.Opens.{state_behind, opened_over, OpensFrom, OpensChosen, OpensAsked, Opens, OpensAsSome, OpensAsOne}
use Rattle.dk_snapshot.specs.Steps.{commits_of_steps, oldest_path}

-- without a base the commits make up the state
same_state : (oldest : List ℕ) (now : ℤ) (commits : Result (List (List Action)) Refusal) → state_behind oldest now (Ok []) commits ≡ state_of_commits oldest now commits
same_state oldest now (Ok commits) = refl
same_state oldest now (Err refusal) = refl

module _ (events : List Told) (limits : Limits) (now : ℤ) (version : ℕ) (steps : List Step) where
  abbrev walked : Segment
  walked = record { base = None; steps = steps }

  opened_alone : opened_over events limits now version walked (Ok []) ≡ opened_segment events limits now version walked
  opened_alone = ap (snapshot_with version walked) (same_state (oldest_path walked) now (commits_of_steps events limits.object steps))

  from_opens : OpensFrom events limits now version walked (opened_segment events limits now version walked)
  from_opens = (Ok [], refl, sym opened_alone)

  from_is : (result : Result Snapshot Refusal) → OpensFrom events limits now version walked result → opened_segment events limits now version walked ≡ result
  from_is result (base, none, is) = sym (is ∙ ap (opened_over events limits now version walked) none ∙ opened_alone)

module _ (events : List Told) (limits : Limits) (choice : Choice) (now : ℤ) where
  asked_opens : (asked : Result ℕ Refusal) → OpensAsked events limits choice now asked (opened_asked events limits choice now asked)
  asked_opens (Err refusal) = refl
  asked_opens (Ok version) = by (commit_gap (stands_at events) (standing events) version choice)
    where
      segment : Segment
      segment = commit_segment (stands_at events) (standing events) version choice

      by : (gap : Option (List ℕ)) → OpensChosen events limits now version (unless_gap segment gap) (opened_chosen events limits now version (unless_gap segment gap))
      by None = from_opens events limits now version segment.steps
      by (Some path) = refl

  asked_is : (asked : Result ℕ Refusal) (result : Result Snapshot Refusal) → OpensAsked events limits choice now asked result → opened_asked events limits choice now asked ≡ result
  asked_is (Err refusal) result opens = sym opens
  asked_is (Ok version) result opens = by (commit_gap (stands_at events) (standing events) version choice) opens
    where
      segment : Segment
      segment = commit_segment (stands_at events) (standing events) version choice

      by : (gap : Option (List ℕ)) → OpensChosen events limits now version (unless_gap segment gap) result → opened_chosen events limits now version (unless_gap segment gap) ≡ result
      by None from = from_is events limits now version segment.steps result from
      by (Some path) from = sym from

-- a version opens as the value of its commits, and as nothing else
pub opened_opens : (events : List Told) (limits : Limits) (at : Option ℕ) (choice : Choice) (now : ℤ) → Opens events limits at choice now (opened events limits at choice now)
opened_opens events limits at choice now = asked_opens events limits choice now (version_asked at (latest events))

pub opens_is : (events : List Told) (limits : Limits) (at : Option ℕ) (choice : Choice) (now : ℤ) (result : Result Snapshot Refusal) → Opens events limits at choice now result → opened events limits at choice now ≡ result
opens_is events limits at choice now result opens = asked_is events limits choice now (version_asked at (latest events)) result opens

pub opens_as_some : OpensAsSome
opens_as_some events limits at choice now = (opened events limits at choice now, opened_opens events limits at choice now)

pub opens_as_one : OpensAsOne
opens_as_one events limits at choice now one other opens also = sym (opens_is events limits at choice now one opens) ∙ opens_is events limits at choice now other also

-- ---- what a call answers

module _ (limits : Limits) (at : Option ℕ) (choice : Choice) (now : ℤ) where
  abbrev GivesValue : Result Snapshot Refusal → List Told → Type 0
  GivesValue result events = AnswersMeant {X = Snapshot} (λ snapshot. snapshot) result (opened events limits at choice now)

  abbrev GivesOpening : Result Snapshot Refusal → List Told → Type 0
  GivesOpening result events = AnswersBy {X = Snapshot} (λ snapshot. snapshot) result (Opens events limits at choice now)

  -- what gives the value of the commits gives what the version may open as, and back
  gives_opening : (result : Result Snapshot Refusal) (events : List Told) → GivesValue result events → GivesOpening result events
  gives_opening result events gives =
      gives_by (λ (snapshot : Snapshot). snapshot) result (opened events limits at choice now) (Opens events limits at choice now) gives
      (λ answer is. subst (Opens events limits at choice now) is (opened_opens events limits at choice now))

  pub gives_opened : (result : Result Snapshot Refusal) (events : List Told) → GivesOpening result events → GivesValue result events
  gives_opened (Ok snapshot) events opens = opens_is events limits at choice now (Ok snapshot) opens
  gives_opened (Err refusals.Store) events opens = tt
  gives_opened (Err refusals.OutOfMemory) events opens = tt
  gives_opened (Err (refusals.Taken path)) events opens = absurd opens
  gives_opened (Err refusal) events opens = opens_is events limits at choice now (Err refusal) opens

  -- where the store tells its events
  pub opens_told : (told : Option (List Told)) (result : Result Snapshot Refusal) → IfSome told (GivesValue result) → IfSome told (GivesOpening result)
  opens_told None result gives = tt
  opens_told (Some events) result gives = gives_opening result events gives

  pub opened_told : (told : Option (List Told)) (result : Result Snapshot Refusal) → IfSome told (GivesOpening result) → IfSome told (GivesValue result)
  opened_told None result opens = tt
  opened_told (Some events) result opens = gives_opened result events opens

  -- and the listing is one of them
  pub opens_listed : (told : Option (List Told)) (listing : Catalogued) (result : Result Snapshot Refusal) → IfSome told (λ events. IsListingOf events listing → GivesValue result events)
      → IfSome told (λ events. IsListingOf events listing → GivesOpening result events)
  opens_listed None listing result gives = tt
  opens_listed (Some events) listing result gives = λ is. gives_opening result events (gives is)

  pub opened_listed : (told : Option (List Told)) (listing : Catalogued) (result : Result Snapshot Refusal) → IfSome told (λ events. IsListingOf events listing → GivesOpening result events)
      → IfSome told (λ events. IsListingOf events listing → GivesValue result events)
  opened_listed None listing result opens = tt
  opened_listed (Some events) listing result opens = λ is. gives_opened result events (opens is)
