-- What may open of a log, by the value that its commits alone have.
use Rattle.std.proofs.Common.{Some, sym, subst, ◌∙◌}
use Rattle.std.specs.Prelude.{Result, Ok}
use Rattle.dk_lawful.specs.History.{table_at}
use Rattle.dk_engine.specs.declared.refusal.Refusal.{Refusal}
use Rattle.dk_snapshot.specs.declared.table.Snapshot.{Snapshot}
use Rattle.dk_snapshot.specs.KeptVersions.{OpenedIsKept, NotKeptIsMissing}
use Rattle.dk_snapshot.specs.LawfulOpens.{segment_by, OpenedIsAsked, OpenedAgrees, OpenedIsTable, OpenedHasCut, AnswersVersion, KeptIsAnswered, GapIsMissing, AboveIsNoVersion, EmptyIsMissing, AnswersHistory, EachAnswer}
use Rattle.dk_snapshot.proofs.EachAnswer as answers
use Rattle.dk_snapshot.proofs.KeptVersions as kept
use Rattle.dk_snapshot.proofs.LawfulOpens as lawful_values
use Rattle.dk_snapshot.proofs.Opens.{opens_is}

pub opened_is_kept : OpenedIsKept
opened_is_kept events limits at choice now snapshot opens = kept.opened_is_kept events limits at choice now snapshot (opens_is events limits at choice now (Ok snapshot) opens)

pub not_kept_is_missing : NotKeptIsMissing
not_kept_is_missing events limits version last choice now path result newest most gap opens =
    sym (opens_is events limits (Some version) choice now result opens) ∙ kept.not_kept_is_missing events limits version last choice now path newest most gap

pub opened_is_asked : OpenedIsAsked
opened_is_asked events horizon limits at choice now snapshot lawful opens =
    lawful_values.opened_is_asked events horizon limits at choice now snapshot lawful (opens_is events limits at choice now (Ok snapshot) opens)

pub opened_is_table : OpenedIsTable
opened_is_table events horizon limits at choice now snapshot lawful opens =
    lawful_values.opened_is_table events horizon limits at choice now snapshot lawful (opens_is events limits at choice now (Ok snapshot) opens)

pub opened_agrees : OpenedAgrees
opened_agrees events horizon limits at choice now snapshot lawful opens =
    lawful_values.agrees_itself snapshot.state (table_at events snapshot.version) horizon (opened_is_table events horizon limits at choice now snapshot lawful opens)

pub opened_has_cut : OpenedHasCut
opened_has_cut events horizon limits at choice now snapshot lawful opens =
    lawful_values.opened_has_cut events horizon limits at choice now snapshot lawful (opens_is events limits at choice now (Ok snapshot) opens)

pub kept_is_answered : KeptIsAnswered
kept_is_answered events horizon limits at choice now version result lawful asks keeps opens =
    subst (λ (answer : Result Snapshot Refusal). AnswersVersion events horizon limits now version (segment_by events version choice) answer) (opens_is events limits at choice now result opens)
    (lawful_values.kept_is_answered events horizon limits at choice now version lawful asks keeps)

pub gap_is_missing : GapIsMissing
gap_is_missing events horizon limits at choice now version path result lawful asks gap opens =
    sym (opens_is events limits at choice now result opens) ∙ lawful_values.gap_is_missing events horizon limits at choice now version path lawful asks gap

pub above_is_no_version : AboveIsNoVersion
above_is_no_version events horizon limits choice now last version result lawful next more opens =
    sym (opens_is events limits (Some version) choice now result opens) ∙ lawful_values.above_is_no_version events horizon limits choice now last version lawful next more

pub empty_is_missing : EmptyIsMissing
empty_is_missing events horizon limits at choice now result lawful none opens =
    sym (opens_is events limits at choice now result opens) ∙ lawful_values.empty_is_missing events horizon limits at choice now lawful none

pub each_answer : EachAnswer
each_answer events horizon limits at choice now result lawful opens =
    subst (λ (answer : Result Snapshot Refusal). AnswersHistory events limits at choice now answer) (opens_is events limits at choice now result opens) (answers.each_answer events horizon limits at choice now lawful)
