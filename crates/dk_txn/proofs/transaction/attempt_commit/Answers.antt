use Rattle.std.proofs.Common.{refl}
use Rattle.dk_txn.specs.declared.prepared.Prepared.{Prepared}
use Rattle.dk_txn.proofs.Refusals.{check_commits}
use Rattle.dk_txn.proofs.Clashes.{never_clashed, counted_from}
use Rattle.dk_txn.specs.declared.commit.Committed.{Committed}
use Rattle.dk_txn.proofs.Effects.{refused_puts, answered_puts, puts_after_reads}
use Rattle.dk_txn.proofs.Concluding.{once_refused, once_prepared}
use Rattle.dk_txn.proofs.Lawfully.{refused_says, already_says, written_lawful, written_says}
use Rattle.dk_txn.proofs.transaction.attempt_commit.Goals as goal

pub returns-in-Err-clause-commits : goal.returns-in-Err-clause-commits
returns-in-Err-clause-commits g c =
    once_refused _ _ c.args.options.limits c.args.transaction.now c.args.options.now _ c.in-Err.refusal refl c.in-Err.ensures.effects.reads.same c.in-Err.ensures.means

pub returns-in-Ok-Writing-clause-commits : goal.returns-in-Ok-Writing-clause-commits
returns-in-Ok-Writing-clause-commits g c =
    once_prepared _ _ _ c.args.options.limits c.args.transaction.now c.args.options.now _ c.in-Ok-Writing.field-0 c.in-Ok-Writing.writing c.write.result refl c.in-Ok-Writing.ensures.effects.reads.same
    c.in-Ok-Writing.field-0-is c.in-Ok-Writing.ensures.small c.in-Ok-Writing.ensures.means c.write.ensures.commits

pub returns-in-Err-clause-history : goal.returns-in-Err-clause-history
returns-in-Err-clause-history g c = λ comes. refused_says _ _ c.args.options.limits c.args.transaction.now _ c.in-Err.refusal _ c.in-Err.ensures.effects.reads.same

pub returns-in-Ok-AlreadyCommitted-clause-history : goal.returns-in-Ok-AlreadyCommitted-clause-history
returns-in-Ok-AlreadyCommitted-clause-history g c = λ comes.
    already_says _ _ c.args.options.limits c.args.transaction.now c.args.options.now _ c.in-Ok-AlreadyCommitted.field-0 c.in-Ok-AlreadyCommitted.version _ _ refl c.in-Ok-AlreadyCommitted.ensures.effects.reads.same c.in-Ok-AlreadyCommitted.field-0-is c.in-Ok-AlreadyCommitted.ensures.means

pub returns-in-Ok-Writing-clause-lawful : goal.returns-in-Ok-Writing-clause-lawful
returns-in-Ok-Writing-clause-lawful g c =
    written_lawful c.args.options.limits c.args.transaction.now c.args.options.now _ c.in-Ok-Writing.field-0 c.in-Ok-Writing.writing refl c.in-Ok-Writing.field-0-is _ _ _
    c.in-Ok-Writing.ensures.effects.reads.same c.in-Ok-Writing.ensures.means c.in-Ok-Writing.ensures.reads_back c.write.ensures.lawful

pub returns-in-Ok-Writing-clause-history : goal.returns-in-Ok-Writing-clause-history
returns-in-Ok-Writing-clause-history g c =
    written_says c.args.options.limits c.args.transaction.now c.args.options.now _ c.in-Ok-Writing.field-0 c.in-Ok-Writing.writing refl c.in-Ok-Writing.field-0-is _ _ _ c.write.result
    c.in-Ok-Writing.ensures.effects.reads.same c.in-Ok-Writing.ensures.means c.in-Ok-Writing.ensures.reads_back c.write.ensures.history

pub returns-in-Err-clause-clash : goal.returns-in-Err-clause-clash
returns-in-Err-clause-clash g c = never_clashed {X = Prepared} c.in-Err.refusal _ _ c.in-Err.ensures.effects.reads.taken c.in-Err.ensures.effects.reads.clashes_same

pub returns-in-Ok-Writing-clause-clash : goal.returns-in-Ok-Writing-clause-clash
returns-in-Ok-Writing-clause-clash g c = counted_from c.write.result _ _ _ c.in-Ok-Writing.ensures.effects.reads.clashes_same c.write.ensures.clash

pub returns-in-Err-clause-refusals : goal.returns-in-Err-clause-refusals
returns-in-Err-clause-refusals g c = check_commits c.in-Err.refusal c.in-Err.ensures.effects.refusals

pub returns-in-Err-clause-puts : goal.returns-in-Err-clause-puts
returns-in-Err-clause-puts g c = refused_puts {X = Prepared} {Y = Committed} _ _ c.in-Err.refusal c.in-Err.ensures.effects.reads

pub returns-in-Ok-AlreadyCommitted-clause-puts : goal.returns-in-Ok-AlreadyCommitted-clause-puts
returns-in-Ok-AlreadyCommitted-clause-puts g c = answered_puts {X = Prepared} {Y = Committed} _ _ _ _ c.in-Ok-AlreadyCommitted.ensures.effects.reads

pub returns-in-Ok-Writing-clause-puts : goal.returns-in-Ok-Writing-clause-puts
returns-in-Ok-Writing-clause-puts g c = puts_after_reads {X = Prepared} {Y = Committed} _ _ _ _ c.write.result c.in-Ok-Writing.ensures.effects.reads c.write.ensures.puts
