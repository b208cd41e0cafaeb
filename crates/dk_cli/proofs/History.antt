-- Over a whole log, what `show` gives is the text of the fold.
use Rattle.std.proofs.Common.{◌≡◌, ℕ, ℤ, ◌+◌, false, List, length, take, ap, sym, subst, ◌∙◌}
use Rattle.std.specs.Prelude.{Option, Some, None, Result, Ok, Err, IfSome}
use Rattle.dk_store.specs.Told.{Told}
use Rattle.dk_model.specs.declared.action.Action.{Action}
use Rattle.dk_model.specs.State.{fold}
use Rattle.dk_engine.specs.declared.refusal.Refusal.{Refusal}
use Rattle.dk_engine.specs.declared.refusal.Refusal.TheVariants as refusals
use Rattle.dk_lawful.specs.declared.segment.Choice.{Choice}
use Rattle.dk_engine.specs.declared.limits.Limits.{Limits}
use Rattle.dk_snapshot.specs.History.{IsLog, EndsWith, AreCommitsWithin, AsksFor}
use Rattle.dk_snapshot.specs.Support.{IsRead, cut_before}
use Rattle.dk_snapshot.specs.Opening.{snapshot_with, with_cut, opened}
use Rattle.dk_snapshot.specs.Steps.{oldest_path}
use Rattle.dk_snapshot.proofs.History.{cut_is}
use Rattle.dk_snapshot.proofs.PlainLog.{segment_at, opened_is}
use Rattle.dk_cli.specs.declared.status.Status.{Status}
use Rattle.dk_cli.specs.declared.status.Status.TheVariants as statuses
use Rattle.dk_cli.specs.Show.{ShowsAs, text_of_opened}
use Rattle.dk_cli.specs.Shown.{shown}
use Rattle.dk_cli.specs.Run.{AnswersText}
use Rattle.dk_cli.specs.History.{ShowsText, ShowsLog}
use Rattle.dk_cli.specs.declared.words.Command.{Command}
use Rattle.dk_cli.specs.declared.words.Command.TheVariants as commands
use Rattle.dk_cli.proofs.Shown.{shows_is}

-- where one text alone is meant
module _ (Means : Result (List ℕ) Refusal → Type 0) (text : List ℕ) (one : (meant : Result (List ℕ) Refusal) → Means meant → meant ≡ Ok text) (old new : Option (List ℕ)) where
  its_text : (t : List ℕ) → Means (Ok t) → t ≡ text
  its_text t means = let same : ◌≡◌ {A = Result (List ℕ) Refusal} (Ok t) (Ok text) = one (Ok t) means in cc

  no_refusal : (refusal : Refusal) → Means (Err refusal) → ⊥
  no_refusal refusal means = let same : ◌≡◌ {A = Result (List ℕ) Refusal} (Err refusal) (Ok text) = one (Err refusal) means in cc

  answers_shows : (status : Status) → AnswersText Means old status new → ShowsText text old status new
  answers_shows statuses.Done (t, means, took) = let same : t ≡ text = its_text t means in rw (← same) took
  answers_shows statuses.SinkFault (t, count, means, took) = let same : t ≡ text = its_text t means in (count, rw (← same) took)
  answers_shows (statuses.Refused refusals.Store) answers = answers.1
  answers_shows (statuses.Refused refusals.OutOfMemory) answers = answers.1
  answers_shows (statuses.Refused (refusals.Taken path)) answers = absurd answers.0
  answers_shows (statuses.Refused refusal) answers = absurd (no_refusal refusal answers.0)
  answers_shows statuses.Usage answers = answers
  answers_shows statuses.SourceFault answers = answers

-- the text of a version of a log, where it is one that is read
log_text : (events : List Told) (limits : Limits) (at : Option ℕ) (choice : Choice) (now : ℤ) (log : List (List Action)) (version : ℕ) (kept : ℤ) → choice.staged_first ≡ false → IsLog events log → EndsWith events (length log)
    → AreCommitsWithin limits.object events → AsksFor at log version → IsRead (fold (take (version + 1) log)) kept
    → text_of_opened (opened events limits at choice now) ≡ Ok (shown version (fold (take (version + 1) log)) (cut_before now kept))
log_text events limits at choice now log version kept published is ends within asks read =
    ap text_of_opened (opened_is events log limits at choice version now published is ends within asks)
    ∙ ap (λ cut. text_of_opened (snapshot_with version (segment_at events version choice) (with_cut (fold (take (version + 1) log)) cut)))
    (cut_is (oldest_path (segment_at events version choice)) (fold (take (version + 1) log)) kept now read)

-- what was asked for is what the words ask for, at the moment of the call
pub as_asked : (told : Option (List Told)) (limits : Limits) (asked : Option Command) (given at : Option ℕ) (chosen choice : Choice) (now passed : ℤ) (old new : Option (List ℕ)) (status : Status)
    → asked ≡ Some (commands.Show given chosen) → asked ≡ Some (commands.Show at choice) → passed ≡ now
    → IfSome told (λ events. AnswersText (ShowsAs events limits given chosen passed) old status new) → IfSome told (λ events. AnswersText (ShowsAs events limits at choice now) old status new)
as_asked told limits asked given at chosen choice now passed old new status one other same answers =
    let alike : ◌≡◌ {A = Option Command} (Some (commands.Show given chosen)) (Some (commands.Show at choice)) = sym one ∙ other in
    let version : given ≡ at = cc in
    let choices : chosen ≡ choice = cc in
    subst (λ (n : ℤ). IfSome told (λ events. AnswersText (ShowsAs events limits at choice n) old status new)) same
    (subst (λ (c : Choice). IfSome told (λ events. AnswersText (ShowsAs events limits at c passed) old status new)) choices
    (subst (λ (a : Option ℕ). IfSome told (λ events. AnswersText (ShowsAs events limits a chosen passed) old status new)) version answers))

-- the program's answer over a store that tells a whole log
pub whole_log : (told : Option (List Told)) (limits : Limits) (at : Option ℕ) (choice : Choice) (now : ℤ) (old new : Option (List ℕ)) (status : Status)
    → IfSome told (λ events. AnswersText (ShowsAs events limits at choice now) old status new) → IfSome told (λ events. ShowsLog events limits at choice now old status new)
whole_log None limits at choice now old new status answers = tt
whole_log (Some events) limits at choice now old new status answers = λ log version kept is ends by_commits within asks read.
    answers_shows (ShowsAs events limits at choice now) (shown version (fold (take (version + 1) log)) (cut_before now kept))
    (λ meant means. shows_is limits at choice now events meant means ∙ log_text events limits at choice now log version kept by_commits.published is ends within asks read) old new status answers
