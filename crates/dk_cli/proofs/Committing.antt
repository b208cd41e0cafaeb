-- What the command `commit` owes where its commit was refused, and by the moment that it is handed.
use Rattle.std.proofs.Common.{◌≡◌, ℕ, ℤ, List, ap, sym, subst, inl, inr}
use Rattle.std.specs.Prelude.{Option, Some, None, Result, Err, IfSome}
use Rattle.dk_store.specs.Told.{Told}
use Rattle.dk_store.specs.Seen.{Seen}
use Rattle.dk_model.specs.declared.action.Action.{Action}
use Rattle.dk_engine.specs.declared.limits.Limits.{Limits}
use Rattle.dk_engine.specs.Effects.{MayPut}
use Rattle.dk_engine.specs.declared.refusal.Refusal.{Refusal}
use Rattle.dk_engine.specs.declared.refusal.Refusal.TheVariants as refusals
use Rattle.dk_paths.specs.Numbers.{id_text}
use Rattle.dk_lawful.specs.History.{commits_of, history}
use Rattle.dk_lawful.specs.Kept.{IfBoth}
use Rattle.dk_lawful.specs.Transacted.{transacted}
use Rattle.dk_txn.specs.Attempt.{Writing, attempt}
use Rattle.dk_txn.specs.declared.commit.Committed.{Committed}
use Rattle.dk_txn.specs.Commits.{Commits, CommitRefuses, HistoryAfterRefusal, SaysTransacted, TakenClashes, WritesMeant}
use Rattle.dk_txn.proofs.Clashes.{taken_twice}
use Rattle.dk_cli.specs.declared.status.Status.{Status}
use Rattle.dk_cli.specs.declared.status.Status.TheVariants as statuses
use Rattle.dk_cli.specs.Actions.{actions_of}
use Rattle.dk_cli.specs.Effects.{PutsInStore}
use Rattle.dk_cli.specs.Commit.{EndsRefused, CommitEnds, CommitAnswers, EndsHistory, GivesLine, InputSays, SaysCommitted}

ends_refused : (refusal : Refusal) (meant : Result Writing Refusal) (events : List Told) (later : Option (List Told)) → CommitRefuses refusal meant events later → EndsRefused refusal meant events later
ends_refused refusals.OutOfMemory meant events later did = inl did
ends_refused refusal meant events later did = did

ends_with : (told : Option (List Told)) (meant : List Told → Result Writing Refusal) (old new : Option (List ℕ)) (refusal : Refusal) (later : Option (List Told)) → new ≡ old
    → IfSome told (λ events. Commits (meant events) events (Err refusal) later) → IfSome told (λ events. CommitEnds (meant events) events old (statuses.Refused refusal) new later)
ends_with None meant old new refusal later same did = tt
ends_with (Some events) meant old new refusal later same did = (ends_refused refusal (meant events) events later did, same)

pub refused_ends : (told : Option (List Told)) (limits : Limits) (own : List Action) (now : ℤ) (base : ℕ) (old new : Option (List ℕ)) (refusal : Refusal) (later : Option (List Told)) → new ≡ old
    → IfSome told (λ events. Commits (attempt events limits own now base) events (Err refusal) later)
    → IfSome told (λ events. CommitEnds (attempt events limits own now base) events old (statuses.Refused refusal) new later)
refused_ends told limits own now base old new refusal later same did = ends_with told (λ events. attempt events limits own now base) old new refusal later same did

-- what was refused, or committed, is said of the store and of the sink
same_refusal : (one other : Refusal) → ◌≡◌ {A = Status} (statuses.Refused one) (statuses.Refused other) → one ≡ other
same_refusal one other is = cc

pub refused_puts : (old new : Seen) (refusal : Refusal) → MayPut {T = Committed} old new (Err refusal) → TakenClashes None old.clashes new.clashes refusal → PutsInStore old new (statuses.Refused refusal)
refused_puts old new refusal puts taken = record {
  grows = puts.grows;
  clashes_later = puts.clashes_later;
  later = puts.later;
  store = λ is. puts.store (ap (λ (r : Refusal). Err r) (same_refusal refusal refusals.Store is));
  taken = λ path is. taken_twice (Err refusal) old.clashes new.clashes taken path (ap (λ (r : Refusal). Err r) (same_refusal refusal (refusals.Taken path) is));
}

pub committed_ends : (told : Option (List Told)) (meant : List Told → Result Writing Refusal) (version : ℕ) (old new : Option (List ℕ)) (status : Status) (later : Option (List Told)) → GivesLine version old status new
    → IfSome told (λ events. WritesMeant (meant events) events version later) → IfSome told (λ events. CommitEnds (meant events) events old status new later)
committed_ends None meant version old new status later gives did = tt
committed_ends (Some events) meant version old new statuses.Done later gives did = (version, did, gives)
committed_ends (Some events) meant version old new statuses.SinkFault later gives did = (version, gives.0, did, gives.1)
committed_ends (Some events) meant version old new (statuses.Refused refusal) later gives did =
    (subst (λ (r : Refusal). EndsRefused r (meant events) events later) (sym gives.0) (inr (version, did)), gives.1)
committed_ends (Some events) meant version old new statuses.SourceFault later gives did = absurd gives
committed_ends (Some events) meant version old new statuses.Usage later gives did = absurd gives

refused_history : (refusal : Refusal) (commit : List Action) (events later : List Told) (old new : Option (List ℕ)) → HistoryAfterRefusal refusal commit events later
    → EndsHistory commit (statuses.Refused refusal) events later old new
refused_history refusals.Store commit events later old new after = after
refused_history refusals.OutOfMemory commit events later old new after = inl after
refused_history refusal commit events later old new after = after

pub refused_says : (told later : Option (List Told)) (now : ℤ) (base : ℕ) (actions : List Action) (old new : Option (List ℕ)) (refusal : Refusal)
    → IfBoth told later (SaysTransacted now base actions (Err refusal)) → IfBoth told later (SaysCommitted now base actions (statuses.Refused refusal) old new)
refused_says None None now base actions old new refusal says = tt
refused_says None (Some later) now base actions old new refusal says = says
refused_says (Some events) None now base actions old new refusal says = says
refused_says (Some events) (Some later) now base actions old new refusal says =
    λ horizon lawful. refused_history refusal (transacted (commits_of (history events)) now (id_text base) actions) events later old new (says horizon lawful)

-- the moment that is handed on is that of the call
pub answers_at : (told : Option (List Told)) (left : Option (List ℕ)) (limits : Limits) (now passed : ℤ) (base : ℕ) (old : Option (List ℕ)) (status : Status) (new : Option (List ℕ)) (later : Option (List Told)) → passed ≡ now
    → IfSome told (λ events. IfSome left (λ bytes. CommitAnswers (actions_of limits bytes) (λ actions. attempt events limits actions passed base) events old status new later))
    → IfSome told (λ events. IfSome left (λ bytes. CommitAnswers (actions_of limits bytes) (λ actions. attempt events limits actions now base) events old status new later))
answers_at told left limits now passed base old status new later moment answers =
    subst (λ (n : ℤ). IfSome told (λ events. IfSome left (λ bytes. CommitAnswers (actions_of limits bytes) (λ actions. attempt events limits actions n base) events old status new later))) moment answers

pub says_at : (told later : Option (List Told)) (left : Option (List ℕ)) (limits : Limits) (now passed : ℤ) (base : ℕ) (status : Status) (old new : Option (List ℕ)) → passed ≡ now
    → IfSome left (λ bytes. IfBoth told later (InputSays (actions_of limits bytes) passed base status old new))
    → IfSome left (λ bytes. IfBoth told later (InputSays (actions_of limits bytes) now base status old new))
says_at told later left limits now passed base status old new moment says =
    subst (λ (n : ℤ). IfSome left (λ bytes. IfBoth told later (InputSays (actions_of limits bytes) n base status old new))) moment says
