-- What a commit comes after, by what the survey found, over a store that may tell its events.
use Rattle.std.proofs.Common.{◌≡◌, ℕ, ℤ, ◌+◌, Bool, true, false, List, refl, ap, ap₂, sym, subst, ◌∙◌, true≢false}
use Rattle.std.specs.Prelude.{Option, Some, None, Result, Ok, Err, IfSome, ◌==◌, if◌then◌else◌}
use Rattle.dk_store.specs.Told.{Told}
use Rattle.dk_model.specs.declared.state.TableState.{TableState}
use Rattle.dk_model.specs.State.{empty_state}
use Rattle.dk_engine.specs.declared.limits.Limits.{Limits}
use Rattle.dk_engine.specs.declared.limits.Which.TheVariants as which
use Rattle.dk_engine.specs.declared.refusal.Refusal.{Refusal}
use Rattle.dk_engine.specs.declared.refusal.Refusal.TheVariants as refusals
use Rattle.dk_engine.specs.Answers.{Refuses, AnswersMeant}
use Rattle.dk_engine.proofs.Refused.{refused_by_part, gives_same}
use Rattle.dk_listing.specs.declared.catalogued.Catalogued.{Catalogued}
use Rattle.dk_listing.specs.Latest.{latest_of}
use Rattle.dk_listing.specs.OfEvents.{IsListingOf}
use Rattle.dk_listing.proofs.LatestOf.{latest_standing}
use Rattle.dk_lawful.specs.declared.segment.Choice.{Choice}
use Rattle.dk_snapshot.specs.declared.table.Snapshot.{Snapshot}
use Rattle.dk_snapshot.specs.Surveyed.{Surveys}
use Rattle.dk_snapshot.specs.Opening.{opened, usual_choice}
use Rattle.dk_txn.specs.declared.start.Start.{Start}
use Rattle.dk_txn.specs.Attempt.{last_version, after_snapshot, start_after, start}

abbrev from_parts : ℕ → TableState → Result Start Refusal
from_parts version before = Ok (record { version = version; before = before })

pub chosen : {X : Type 0} (test : Bool) (one other : X) → test ≡ true → (if test then one else other) ≡ one
chosen true one other is = refl
chosen false one other is = absurd (true≢false (sym is))

pub not_chosen : {X : Type 0} (test : Bool) (one other : X) → test ≡ false → (if test then one else other) ≡ other
not_chosen true one other is = absurd (true≢false is)
not_chosen false one other is = refl

-- what the latest version of a listing is to a start
module _ (limits : Limits) (now : ℤ) (listing : Catalogued) (last : Option ℕ) (is : last ≡ latest_of listing) where
  starts_as : (events : List Told) → IsListingOf events listing → start events limits now ≡ start_after events limits now last
  starts_as events lists = ap (start_after events limits now) (sym (latest_standing events listing lists) ∙ sym is)

  pub start_none : (told : Option (List Told)) (before : TableState) → last ≡ None → before ≡ empty_state
      → IfSome told (λ events. IsListingOf events listing → start events limits now ≡ Ok (record { version = 0; before = before }))
  start_none None before none empty = tt
  start_none (Some events) before none empty = λ lists. starts_as events lists ∙ ap (start_after events limits now) none ∙ ap (from_parts 0) (sym empty)

  pub start_last : (told : Option (List Told)) (version : ℕ) → last ≡ Some version → (version == last_version) ≡ true
      → IfSome told (λ events. IsListingOf events listing → start events limits now ≡ Err (refusals.Limit which.Version last_version))
  start_last None version some full = tt
  start_last (Some events) version some full = λ lists.
      starts_as events lists ∙ ap (start_after events limits now) some
      ∙ chosen (version == last_version) (Err (refusals.Limit which.Version last_version)) (after_snapshot (opened events limits None usual_choice now)) full

  goes_on : (events : List Told) (version : ℕ) → IsListingOf events listing → last ≡ Some version → (version == last_version) ≡ false
      → start events limits now ≡ after_snapshot (opened events limits None usual_choice now)
  goes_on events version lists some more =
      starts_as events lists ∙ ap (start_after events limits now) some
      ∙ not_chosen (version == last_version) (Err (refusals.Limit which.Version last_version)) (after_snapshot (opened events limits None usual_choice now)) more

  abbrev opened_by : Choice → ℤ → List Told → Result Snapshot Refusal
  opened_by choice moment events = opened events limits None choice moment

  pub start_refused : (told : Option (List Told)) (choice : Choice) (passed : ℤ) (version : ℕ) (refusal : Refusal) → choice ≡ usual_choice → passed ≡ now → last ≡ Some version → (version == last_version) ≡ false
      → IfSome told (λ events. IsListingOf events listing → Refuses refusal (opened events limits None choice passed))
      → IfSome told (λ events. IsListingOf events listing → Refuses refusal (start events limits now))
  start_refused None choice passed version refusal usual moment some more means = tt
  start_refused (Some events) choice passed version refusal usual moment some more means = λ lists.
      subst (λ (meant : Result Start Refusal). Refuses refusal meant) (sym (goes_on events version lists some more))
      (refused_by_part after_snapshot (λ r. refl) refusal (opened events limits None usual_choice now)
      (subst (λ (meant : Result Snapshot Refusal). Refuses refusal meant) (ap₂ (λ (c : Choice) (n : ℤ). opened_by c n events) usual moment) (means lists)))

  pub start_opened : (told : Option (List Told)) (choice : Choice) (passed : ℤ) (version : ℕ) (snapshot : Snapshot) (from : Start) → choice ≡ usual_choice → passed ≡ now → last ≡ Some version → (version == last_version) ≡ false
      → from.version ≡ snapshot.version + 1 → from.before ≡ snapshot.state
      → IfSome told (λ events. IsListingOf events listing → opened events limits None choice passed ≡ Ok snapshot)
      → IfSome told (λ events. IsListingOf events listing → start events limits now ≡ Ok from)
  start_opened None choice passed version snapshot from usual moment some more next before opens = tt
  start_opened (Some events) choice passed version snapshot from usual moment some more next before opens = λ lists.
      goes_on events version lists some more ∙ ap after_snapshot (sym (ap₂ (λ (c : Choice) (n : ℤ). opened_by c n events) usual moment) ∙ opens lists)
      ∙ ap₂ from_parts (sym next) (sym before)

-- a survey is refused by the store or by want of memory alone
refused_survey : (events : List Told) (limits : Limits) (now : ℤ) (refusal : Refusal) → Surveys events (Err refusal) → Refuses refusal (start events limits now)
refused_survey events limits now refusals.Store found = tt
refused_survey events limits now refusals.OutOfMemory found = tt
refused_survey events limits now refusal found = absurd found

pub survey_refused : (told : Option (List Told)) (limits : Limits) (now : ℤ) (refusal : Refusal) → IfSome told (λ events. Surveys events (Err refusal))
    → IfSome told (λ events. AnswersMeant (λ (from : Start). from) (Err refusal) (start events limits now))
survey_refused None limits now refusal found = tt
survey_refused (Some events) limits now refusal found = refused_survey events limits now refusal found

-- what is begun from the listing that a survey found is what a commit comes after
pub survey_started : {X : Type 0} (view : X → Start) (told mid : Option (List Told)) (limits : Limits) (now passed : ℤ) (listing : Catalogued) (result : Result X Refusal) → passed ≡ now → mid ≡ told
    → IfSome told (λ events. IsListingOf events listing)
    → IfSome mid (λ events. IsListingOf events listing → AnswersMeant view result (start events limits passed))
    → IfSome told (λ events. AnswersMeant view result (start events limits now))
survey_started view None mid limits now passed listing result moment still found starts = tt
survey_started view (Some events) mid limits now passed listing result moment still found starts =
    let here : IsListingOf events listing → AnswersMeant view result (start events limits passed) = rw still at starts in
    gives_same view result (start events limits passed) (start events limits now) (ap (start events limits) moment) (here found)
