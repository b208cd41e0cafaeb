-- What a commit comes after is what it may come after, and that is one value.
use Rattle.std.proofs.Common.{◌≡◌, ℕ, ℤ, Bool, true, false, List, refl, ap, sym, subst, ◌∙◌, if◌then◌else◌}
use Rattle.std.specs.Prelude.{Option, Some, None, Result, Ok, Err, IfSome, ◌==◌}
use Rattle.dk_store.specs.Told.{Told}
use Rattle.dk_engine.specs.declared.limits.Limits.{Limits}
use Rattle.dk_engine.specs.declared.limits.Which.TheVariants as which
use Rattle.dk_engine.specs.declared.refusal.Refusal.{Refusal}
use Rattle.dk_engine.specs.declared.refusal.Refusal.TheVariants as refusals
use Rattle.dk_engine.specs.Answers.{AnswersMeant, AnswersBy}
use Rattle.dk_engine.proofs.Refused.{gives_by}
use Rattle.dk_listing.specs.OfEvents.{latest}
use Rattle.dk_snapshot.specs.declared.table.Snapshot.{Snapshot}
use Rattle.dk_snapshot.specs.Opening.{opened, usual_choice}
use Rattle.dk_snapshot.proofs.Opens.{opened_opens, opens_as_one}
use Rattle.dk_txn.specs.declared.start.Start.{Start}
use Rattle.dk_txn.specs.Attempt.{last_version, after_snapshot, start_of, start_after, start}
use Rattle.dk_txn.specs.Starts.{StartsOpened, StartsAfter, StartsAs, StartsAsSome, StartsAsOne}

module _ (events : List Told) (limits : Limits) (now : ℤ) where
  opened_starts : (full : Bool) → StartsOpened events limits now full (if full then Err (refusals.Limit which.Version last_version) else after_snapshot (opened events limits None usual_choice now))
  opened_starts true = refl
  opened_starts false = (opened events limits None usual_choice now, opened_opens events limits None usual_choice now, refl)

  after_starts : (last : Option ℕ) → StartsAfter events limits now last (start_after events limits now last)
  after_starts None = refl
  after_starts (Some last) = opened_starts (last == last_version)

  pub start_starts : StartsAs events limits now (start events limits now)
  start_starts = after_starts (latest events)

  opened_one : (full : Bool) (one other : Result Start Refusal) → StartsOpened events limits now full one → StartsOpened events limits now full other → one ≡ other
  opened_one true one other is also = is ∙ sym also
  opened_one false one other (snapshot, opens, is) (second, opens_too, also) = is ∙ ap after_snapshot (opens_as_one events limits None usual_choice now snapshot second opens opens_too) ∙ sym also

  after_one : (last : Option ℕ) (one other : Result Start Refusal) → StartsAfter events limits now last one → StartsAfter events limits now last other → one ≡ other
  after_one None one other is also = is ∙ sym also
  after_one (Some last) one other is also = opened_one (last == last_version) one other is also

pub starts_as_some : StartsAsSome
starts_as_some events limits now = (start events limits now, start_starts events limits now)

pub starts_as_one : StartsAsOne
starts_as_one events limits now one other is also = after_one events limits now (latest events) one other is also

-- what gives the value gives what it may be
pub starts_told : {X : Type 0} (view : X → Start) (told : Option (List Told)) (limits : Limits) (now passed : ℤ) (result : Result X Refusal) → passed ≡ now
    → IfSome told (λ events. AnswersMeant view result (start events limits passed)) → IfSome told (λ events. AnswersBy view result (StartsAs events limits now))
starts_told view None limits now passed result moment gives = tt
starts_told view (Some events) limits now passed result moment gives =
    gives_by view result (start events limits passed) (StartsAs events limits now) gives
    (λ answer is. subst (StartsAs events limits now) (ap (start events limits) (sym moment) ∙ is) (start_starts events limits now))

pub begun_told : (told : Option (List Told)) (limits : Limits) (now passed : ℤ) (snapshot : Option Snapshot) (from : Start) → passed ≡ now → from ≡ start_of snapshot
    → IfSome told (λ events. start events limits passed ≡ Ok (start_of snapshot)) → IfSome told (λ events. StartsAs events limits now (Ok from))
begun_told None limits now passed snapshot from moment same starts = tt
begun_told (Some events) limits now passed snapshot from moment same starts =
    subst (StartsAs events limits now) (ap (start events limits) (sym moment) ∙ starts ∙ ap (λ (f : Start). Ok f) (sym same)) (start_starts events limits now)
