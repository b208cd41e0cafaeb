-- What is opened by a listing of events is opened by the events.
use Rattle.std.proofs.Common.{◌≡◌, ℕ, ℤ, suc, zero, ◌+◌, List, [], ◌∷◌, reverse, arith, refl, ap, ap₂, sym, subst, ◌∙◌, Bool, true, false, inl, inr}
use Rattle.std.specs.Prelude.{All, map, Option, Some, None, Result, Ok, Err, IfSome, IfOk, option_and_then, if◌then◌else◌}
use Rattle.std.specs.Option.{option_or}
use Rattle.std.specs.List.{AllByRecursion}
use Rattle.std.proofs.lemmas.List.Elements.{All-from_recursion}
use Rattle.std.proofs.lemmas.Bool.Decides.{eqb_tells}
use Rattle.dk_store.specs.Told.{Told}
use Rattle.dk_paths.specs.Places.{Place, Commit_at, Staged, place_path}
use Rattle.dk_paths.specs.Staged.{IsStaged, IsStagedNameOf, staged_of}
use Rattle.dk_paths.proofs.StagedNames.{IsStagedNameOf-staged_of}
use Rattle.dk_model.specs.declared.action.Action.{Action}
use Rattle.dk_model.specs.declared.state.TableState.{TableState}
use Rattle.dk_model.specs.State.{empty_state, steps}
use Rattle.dk_lawful.specs.declared.segment.Choice.{Choice}
use Rattle.dk_lawful.specs.declared.segment.Segment.{Segment}
use Rattle.dk_lawful.specs.declared.segment.Step.{Step}
use Rattle.dk_lawful.specs.Segments.{if_present, id_of, id_named, published_at, staged_at, preferred, commit_place, before_later, steps_from, gap_from, commit_segment, commit_gap}
use Rattle.dk_engine.specs.declared.limits.Limits.{Limits}
use Rattle.dk_engine.specs.declared.refusal.Refusal.{Refusal}
use Rattle.dk_engine.specs.declared.refusal.Refusal.TheVariants as refusals
use Rattle.dk_engine.specs.Answers.{Refuses, AnswersMeant}
use Rattle.dk_engine.proofs.Refused.{refused_by_part, gives_same}
use Rattle.dk_listing.specs.declared.catalogued.Catalogued.{Catalogued}
use Rattle.dk_listing.specs.OfEvents.{IsListingOf}
use Rattle.dk_listing.specs.Sizes.{listed_size, stored_size}
use Rattle.dk_listing.proofs.Sized.{commit_size, staged_size}
use Rattle.dk_segment.specs.Chosen.{chosen, unless_gap}
use Rattle.dk_segment.specs.Walked.{walked, unless_absent}
use Rattle.dk_snapshot.specs.declared.table.Snapshot.{Snapshot}
use Rattle.dk_snapshot.specs.Surveyed.{Surveys}
use Rattle.dk_snapshot.specs.Effects.{changes_read}
use Rattle.dk_snapshot.specs.Opening.{state_read, state_of_commits, read_of, snapshot_with, opened_segment, opened}
use Rattle.dk_snapshot.specs.declared.sized_segment.SizedSegment.{SizedSegment}
use Rattle.dk_snapshot.specs.SizedSegment.{IsSizedSegmentAt}
use Rattle.dk_snapshot.specs.Steps.{AreSized, commits_of_steps, oldest_path, step_path}
use Rattle.dk_snapshot.proofs.Effects.{fold_changes}

-- ---- what holds of the commits' places holds of the steps

module _ (P : List ℕ → Type 0) where
  abbrev Holds : Option Place → Type 0
  Holds place = IfSome place (λ p. P (place_path p))

  present_holds : (there : Bool) (place : Place) → P (place_path place) → Holds (if there then Some place else None)
  present_holds true place holds = holds
  present_holds false place holds = tt

  staged_holds : (present : Place → Bool) (version : ℕ) → ((id : ℕ) → IsStaged version id → P (place_path (Staged version id))) → (name : List ℕ) (found : Option (ℕ × ℕ)) → IsStagedNameOf name found
      → Holds (option_and_then (λ id. if_present present (Staged version id)) (option_and_then (id_of version) found))
  staged_holds present version holds name None names = tt
  staged_holds present version holds name (Some staged) names = elim (eqb_tells staged.0 version) [
    | inl t ↦
        let allowed : IsStaged version staged.1 = subst (λ (v : ℕ). IsStaged v staged.1) t.1 names.0 in
        rw t.0 (present_holds (present (Staged version staged.1)) (Staged version staged.1) (holds staged.1 allowed))
    | inr f ↦ rw f.0 tt
  ]

  named_holds : (present : Place → Bool) (version : ℕ) → ((id : ℕ) → IsStaged version id → P (place_path (Staged version id))) → (name : Option (List ℕ))
      → Holds (option_and_then (λ id. if_present present (Staged version id)) (option_and_then (id_named version) name))
  named_holds present version holds None = tt
  named_holds present version holds (Some name) = staged_holds present version holds name (staged_of name) (IsStagedNameOf-staged_of name)

  either_holds : (one other : Option Place) → Holds one → Holds other → Holds (option_or one other)
  either_holds None other first second = second
  either_holds (Some place) other first second = first

  preferred_holds : (staged_first : Bool) (staged published : Option Place) → Holds staged → Holds published → Holds (preferred staged_first staged published)
  preferred_holds true staged published first second = either_holds staged published first second
  preferred_holds false staged published first second = either_holds published staged second first

  steps_hold : (place_at : ℕ → Option Place) → ((version : ℕ) → Holds (place_at version)) → (version count : ℕ) → AllByRecursion (λ (step : Step). P (step_path step)) (steps_from place_at version count)
  unfolding steps_from
  steps_hold place_at holds version zero = tt
  steps_hold place_at holds version (suc count) = by (place_at version) (holds version) (steps_hold place_at holds (suc version) count)
    where
      by : (place : Option Place) → Holds place → AllByRecursion (λ (step : Step). P (step_path step)) (steps_from place_at (suc version) count)
          → AllByRecursion (λ (step : Step). P (step_path step)) (before_later version place (steps_from place_at (suc version) count))
      by None here later = tt
      by (Some place) here later = (here, later)

  -- of each version that is walked, the place at which it is read
  pub walked_hold : (present : Place → Bool) (ratified : ℕ → Option (List ℕ)) (staged_first : Bool) (first count : ℕ)
      → ((v : ℕ) → P (place_path (Commit_at v))) → ((v id : ℕ) → IsStaged v id → P (place_path (Staged v id)))
      → All (λ (step : Step). P (step_path step)) (steps_from (commit_place present ratified staged_first) first count)
  walked_hold present ratified staged_first first count published staged =
      let place_at : ℕ → Option Place = commit_place present ratified staged_first in
      let each : (v : ℕ) → Holds (place_at v) = λ v.
      preferred_holds staged_first (staged_at present ratified v) (published_at present v) (named_holds present v (staged v) (ratified v)) (present_holds (present (Commit_at v)) (Commit_at v) (published v)) in
      All-from_recursion (λ (step : Step). P (step_path step)) (steps_from place_at first count) (steps_hold place_at each first count)

  chosen_hold : (present : Place → Bool) (ratified : ℕ → Option (List ℕ)) (version : ℕ) (choice : Choice)
      → ((v : ℕ) → P (place_path (Commit_at v))) → ((v id : ℕ) → IsStaged v id → P (place_path (Staged v id)))
      → All (λ (step : Step). P (step_path step)) (commit_segment present ratified version choice).steps
  chosen_hold present ratified version choice published staged = walked_hold present ratified choice.staged_first 0 (version + 1) published staged

is_segment : (whole segment : Segment) (gap : Option (List ℕ)) → unless_gap whole gap ≡ Ok segment → whole ≡ segment
is_segment whole segment None is = cc
is_segment whole segment (Some path) is = cc

map_same : {X Y : Type 0} (f g : X → Y) (xs : List X) → All (λ (x : X). f x ≡ g x) xs → map f xs ≡ map g xs
map_same f g [] each = refl
map_same f g (x ∷ xs) each = ap₂ (λ (y : _) (ys : List _). y ∷ ys) (each 0 x (omega arith)) (map_same f g xs (λ k d less. each (suc k) d (omega arith)))

-- the listed sizes of a segment's steps are those of what stands
pub segment_sized : (events : List Told) (listing : Catalogued) → IsListingOf events listing → (present : Place → Bool) (ratified : ℕ → Option (List ℕ)) (version : ℕ) (choice : Choice) (segment : Segment)
    → chosen present ratified version choice ≡ Ok segment → AreSized events segment.steps (map (λ (step : Step). listed_size listing (step_path step)) segment.steps)
segment_sized events listing is present ratified version choice segment chooses =
    let same : commit_segment present ratified version choice ≡ segment = is_segment (commit_segment present ratified version choice) segment (commit_gap present ratified version choice) chooses in
    let size : Step → Option ℕ = λ step. listed_size listing (step_path step) in
    let stands : Step → Option ℕ = λ step. stored_size events (step_path step) in
    subst (λ (s : Segment). map size s.steps ≡ map stands s.steps) same
    (map_same size stands (commit_segment present ratified version choice).steps
    (chosen_hold (λ path. listed_size listing path ≡ stored_size events path) present ratified version choice (commit_size events listing is) (staged_size events listing is)))

is_walked : (whole steps : List Step) (gap : Option ℕ) → unless_absent whole gap ≡ Ok steps → whole ≡ steps
is_walked whole steps None is = cc
is_walked whole steps (Some version) is = cc

-- and so are those of steps that were walked
pub walked_sized : (events : List Told) (listing : Catalogued) → IsListingOf events listing → (present : Place → Bool) (ratified : ℕ → Option (List ℕ)) (staged_first : Bool) (first count : ℕ) (steps : List Step)
    → walked (commit_place present ratified staged_first) first count ≡ Ok steps → AreSized events steps (map (λ (step : Step). listed_size listing (step_path step)) steps)
walked_sized events listing is present ratified staged_first first count steps walks =
    let place_at : ℕ → Option Place = commit_place present ratified staged_first in
    let same : steps_from place_at first count ≡ steps = is_walked (steps_from place_at first count) steps (gap_from place_at first count) walks in
    let size : Step → Option ℕ = λ step. listed_size listing (step_path step) in
    let stands : Step → Option ℕ = λ step. stored_size events (step_path step) in
    subst (λ (s : List Step). map size s ≡ map stands s) same
    (map_same size stands (steps_from place_at first count)
    (walked_hold (λ path. listed_size listing path ≡ stored_size events path) present ratified staged_first first count (commit_size events listing is) (staged_size events listing is)))

-- ---- the steps to a version, over what a store may tell

-- what is read, by its changes
abbrev by_changes : List ℕ → ℤ → Result (List Action) Refusal → Result (TableState × ℤ) Refusal
by_changes oldest now (Ok changes) = state_read oldest now (steps empty_state changes)
by_changes oldest now (Err refusal) = Err refusal

state_by_changes : (oldest : List ℕ) (now : ℤ) (read : Result (List (List Action)) Refusal) → by_changes oldest now (changes_read read) ≡ state_of_commits oldest now read
state_by_changes oldest now (Ok commits) = ap (λ (s : TableState). state_read oldest now s) (fold_changes empty_state commits)
state_by_changes oldest now (Err refusal) = refl

pub segment_read : {X : Type 0} (view : X → TableState × ℤ) (told : Option (List Told)) (limits : Limits) (now passed : ℤ) (oldest : List ℕ) (walked : List Step) (segment : Segment) (sizes : List (Option ℕ)) (found : List Action) (result : Result X Refusal)
    → passed ≡ now → walked ≡ segment.steps → oldest ≡ oldest_path segment
    → IfSome told (λ events. AreSized events walked sizes → changes_read (commits_of_steps events limits.object walked) ≡ Ok (reverse found))
    → AnswersMeant view result (state_read oldest passed (steps empty_state (reverse found)))
    → IfSome told (λ events. AreSized events segment.steps sizes → AnswersMeant view result (read_of events limits now segment))
segment_read view None limits now passed oldest walked segment sizes found result same walk path reads means = tt
segment_read view (Some events) limits now passed oldest walked segment sizes found result same walk path reads means = λ sized.
    let here : AreSized events walked sizes = subst (λ (s : List Step). AreSized events s sizes) (sym walk) sized in
    gives_same view result (state_read oldest passed (steps empty_state (reverse found))) (read_of events limits now segment)
    (ap (by_changes oldest passed) (sym (reads here)) ∙ state_by_changes oldest passed (commits_of_steps events limits.object walked) ∙ ap₂ (λ (o : List ℕ) (n : ℤ). state_of_commits o n (commits_of_steps events limits.object walked)) path same
    ∙ ap (λ (s : List Step). state_of_commits (oldest_path segment) now (commits_of_steps events limits.object s)) walk) means

pub segment_refused : (told : Option (List Told)) (limits : Limits) (now : ℤ) (walked : List Step) (segment : Segment) (sizes : List (Option ℕ)) (refusal : Refusal) → walked ≡ segment.steps
    → IfSome told (λ events. AreSized events walked sizes → Refuses refusal (changes_read (commits_of_steps events limits.object walked)))
    → IfSome told (λ events. AreSized events segment.steps sizes → Refuses refusal (read_of events limits now segment))
segment_refused None limits now walked segment sizes refusal walk refused = tt
segment_refused (Some events) limits now walked segment sizes refusal walk refused = λ sized.
    let here : AreSized events walked sizes = subst (λ (s : List Step). AreSized events s sizes) (sym walk) sized in
    subst (λ (s : List Step). Refuses refusal (state_of_commits (oldest_path segment) now (commits_of_steps events limits.object s))) walk
    (subst (λ (read : Result (TableState × ℤ) Refusal). Refuses refusal read) (state_by_changes (oldest_path segment) now (commits_of_steps events limits.object walked))
    (refused_by_part (by_changes (oldest_path segment) now) (λ r. refl) refusal (changes_read (commits_of_steps events limits.object walked)) (refused here)))

-- a snapshot of what was read is that of what is meant
snapshot_given : (version : ℕ) (segment : Segment) (read meant : Result (TableState × ℤ) Refusal) → AnswersMeant (λ (r : TableState × ℤ). r) read meant
    → AnswersMeant (λ (s : Snapshot). s) (snapshot_with version segment read) (snapshot_with version segment meant)
snapshot_given version segment (Ok read) meant gives = ap (snapshot_with version segment) gives
snapshot_given version segment (Err refusal) meant gives = refused_by_part (snapshot_with version segment) (λ r. refl) refusal meant gives

-- what is read from a sized segment is its version
pub sized_read : (told : Option (List Told)) (limits : Limits) (now passed : ℤ) (version : ℕ) (segment : Segment) (sizes lent : List (Option ℕ)) (read : Result (TableState × ℤ) Refusal) (result : Result Snapshot Refusal)
    → passed ≡ now → lent ≡ sizes
    → IfSome told (λ events. AreSized events segment.steps lent → AnswersMeant (λ (r : TableState × ℤ). r) read (read_of events limits passed segment))
    → result ≡ snapshot_with version segment read
    → IfSome told (λ events. AreSized events segment.steps sizes → AnswersMeant (λ (s : Snapshot). s) result (opened_segment events limits now version segment))
sized_read None limits now passed version segment sizes lent read result same lends means is_with = tt
sized_read (Some events) limits now passed version segment sizes lent read result same lends means is_with = λ sized.
    gives_same (λ (s : Snapshot). s) result (opened_segment events limits passed version segment) (opened_segment events limits now version segment)
    (ap (λ (n : ℤ). opened_segment events limits n version segment) same)
    (subst (λ (r : Result Snapshot Refusal). AnswersMeant (λ (s : Snapshot). s) r (opened_segment events limits passed version segment)) (sym is_with)
    (snapshot_given version segment read (read_of events limits passed segment) (means (lends ∙ sized))))

pub read_version : (version : ℕ) (segment : Segment) (read : Result (TableState × ℤ) Refusal) (result : Result Snapshot Refusal) → result ≡ snapshot_with version segment read → IfOk result (λ (s : Snapshot). s.version ≡ version)
read_version version segment (Ok read) result is_with = subst (λ (r : Result Snapshot Refusal). IfOk r (λ (s : Snapshot). s.version ≡ version)) (sym is_with) refl
read_version version segment (Err other) result is_with = subst (λ (r : Result Snapshot Refusal). IfOk r (λ (s : Snapshot). s.version ≡ version)) (sym is_with) tt

-- a sized segment by a listing of the events gives the asked version
pub listed_opened : {X : Type 0} (view : X → Snapshot) (told : Option (List Told)) (listing : Catalogued) (limits : Limits) (at : Option ℕ) (choice : Choice) (now passed : ℤ) (sized_segment : SizedSegment) (result : Result X Refusal) → passed ≡ now
    → ((events : List Told) → IsListingOf events listing → IsSizedSegmentAt events at choice (Ok sized_segment))
    → IfSome told (λ events. AreSized events sized_segment.segment.steps sized_segment.sizes.items → AnswersMeant view result (opened_segment events limits passed sized_segment.version sized_segment.segment))
    → IfSome told (λ events. IsListingOf events listing → AnswersMeant view result (opened events limits at choice now))
listed_opened view None listing limits at choice now passed sized_segment result moment found means = tt
listed_opened view (Some events) listing limits at choice now passed sized_segment result moment found means = λ is.
    let are : IsSizedSegmentAt events at choice (Ok sized_segment) = found events is in
    gives_same view result (opened_segment events limits passed sized_segment.version sized_segment.segment) (opened events limits at choice now)
    (sym (are.0 limits passed) ∙ ap (λ (n : ℤ). opened events limits at choice n) moment) (means are.1)

pub listed_refused : (told : Option (List Told)) (listing : Catalogued) (limits : Limits) (at : Option ℕ) (choice : Choice) (now : ℤ) (refusal : Refusal)
    → ((events : List Told) → IsListingOf events listing → IsSizedSegmentAt events at choice (Err refusal))
    → IfSome told (λ events. IsListingOf events listing → Refuses refusal (opened events limits at choice now))
listed_refused None listing limits at choice now refusal found = tt
listed_refused (Some events) listing limits at choice now refusal found = λ is. found events is limits now

-- a survey is refused by the store or by want of memory alone
refused_survey : (events : List Told) (limits : Limits) (at : Option ℕ) (choice : Choice) (now : ℤ) (refusal : Refusal) → Surveys events (Err refusal) → Refuses refusal (opened events limits at choice now)
refused_survey events limits at choice now refusals.Store found = tt
refused_survey events limits at choice now refusals.OutOfMemory found = tt
refused_survey events limits at choice now refusal found = absurd found

pub survey_refused : (told : Option (List Told)) (limits : Limits) (at : Option ℕ) (choice : Choice) (now : ℤ) (refusal : Refusal) → IfSome told (λ events. Surveys events (Err refusal))
    → IfSome told (λ events. AnswersMeant (λ (snapshot : Snapshot). snapshot) (Err refusal) (opened events limits at choice now))
survey_refused None limits at choice now refusal found = tt
survey_refused (Some events) limits at choice now refusal found = refused_survey events limits at choice now refusal found

-- what is opened by the listing that a survey found is the asked version
pub survey_opened : {X : Type 0} (view : X → Snapshot) (told mid : Option (List Told)) (listing : Catalogued) (limits : Limits) (at : Option ℕ) (choice : Choice) (now passed : ℤ) (result : Result X Refusal) → passed ≡ now → mid ≡ told
    → IfSome told (λ events. IsListingOf events listing)
    → IfSome mid (λ events. IsListingOf events listing → AnswersMeant view result (opened events limits at choice passed))
    → IfSome told (λ events. AnswersMeant view result (opened events limits at choice now))
survey_opened view None mid listing limits at choice now passed result moment still found opens = tt
survey_opened view (Some events) mid listing limits at choice now passed result moment still found opens =
    let here : IsListingOf events listing → AnswersMeant view result (opened events limits at choice passed) = rw still at opens in
    gives_same view result (opened events limits at choice passed) (opened events limits at choice now) (ap (λ (n : ℤ). opened events limits at choice n) moment) (here found)
