use Rattle.std.proofs.Common.{rules}
use Rattle.dk_txn.specs.declared.commit.Committed.{Committed}
use Rattle.dk_txn.proofs.Effects.{made_counts, failed_counts, exists_counts, put_answered, put_refused}
use Rattle.dk_txn.proofs.Clashes.{own_taken}
use Rattle.dk_txn.proofs.Written.{exists_never, made_commits, failed_commits, put_lawful, made_history, failed_history}
use Rattle.dk_txn.proofs.commit.write.Goals as goal

pub returns-in-Ok-Made-clause-lawful : goal.returns-in-Ok-Made-clause-lawful
returns-in-Ok-Made-clause-lawful g c = λ commit. put_lawful c.args.writing.now.version c.as_str.result.now c.deref.result.now c.args.writing.now.text.items commit _ _ c.put_if_absent.result (search rules) c.requires (search rules) c.put_if_absent.ensures.events

pub returns-in-Ok-Made-clause-history : goal.returns-in-Ok-Made-clause-history
returns-in-Ok-Made-clause-history g c = λ commit. made_history c.args.writing.now.version c.as_str.result.now c.deref.result.now c.args.writing.now.text.items commit _ _ c.in-Ok-Made.field-0 (search rules) c.requires (search rules) c.in-Ok-Made.field-0-is c.in-Ok-Made.ensures.events

pub returns-in-Err-Failed-clause-lawful : goal.returns-in-Err-Failed-clause-lawful
returns-in-Err-Failed-clause-lawful g c = λ commit. put_lawful c.args.writing.now.version c.as_str.result.now c.deref.result.now c.args.writing.now.text.items commit _ _ c.put_if_absent.result (search rules) c.requires (search rules) c.put_if_absent.ensures.events

pub returns-in-Err-Failed-clause-history : goal.returns-in-Err-Failed-clause-history
returns-in-Err-Failed-clause-history g c = λ commit. failed_history c.args.writing.now.version c.as_str.result.now c.deref.result.now c.args.writing.now.text.items commit _ _ c.in-Err-Failed.field-0 (search rules) c.requires (search rules) c.in-Err-Failed.field-0-is c.in-Err-Failed.ensures.events

pub returns-in-Ok-Exists-clause-commits : goal.returns-in-Ok-Exists-clause-commits
returns-in-Ok-Exists-clause-commits g c = exists_never _ _ _ c.as_str.result.now c.deref.result.now c.args.writing.now.version c.in-Ok-Exists.field-0 (search rules) c.in-Ok-Exists.field-0-is c.in-Ok-Exists.ensures.events

pub returns-in-Ok-Made-clause-puts : goal.returns-in-Ok-Made-clause-puts
returns-in-Ok-Made-clause-puts g c = put_answered {Y = Committed} _ _ _ _ c.put_if_absent.result c.put_if_absent.ensures.events c.put_if_absent.ensures.writes _

pub returns-in-Ok-Exists-clause-puts : goal.returns-in-Ok-Exists-clause-puts
returns-in-Ok-Exists-clause-puts g c = put_refused {Y = Committed} _ _ _ _ c.put_if_absent.result c.put_if_absent.ensures.events c.put_if_absent.ensures.writes _ (λ is. cc)
    (λ taken is. exists_counts c.in-Ok-Exists.field-0 _ _ c.in-Ok-Exists.field-0-is c.in-Ok-Exists.ensures.writes.clashes)

pub returns-in-Err-Failed-clause-puts : goal.returns-in-Err-Failed-clause-puts
returns-in-Err-Failed-clause-puts g c = put_refused {Y = Committed} _ _ _ _ c.put_if_absent.result c.put_if_absent.ensures.events c.put_if_absent.ensures.writes _ (λ is. search rules) (λ taken is. cc)

pub returns-in-Ok-Made-clause-clash : goal.returns-in-Ok-Made-clause-clash
returns-in-Ok-Made-clause-clash g c = made_counts c.in-Ok-Made.field-0 _ _ c.in-Ok-Made.field-0-is c.in-Ok-Made.ensures.writes.clashes

pub returns-in-Ok-Exists-clause-clash : goal.returns-in-Ok-Exists-clause-clash
returns-in-Ok-Exists-clause-clash g c =
    own_taken _ c.args.writing.now.version _ _ (search rules) c.requires (exists_counts c.in-Ok-Exists.field-0 _ _ c.in-Ok-Exists.field-0-is c.in-Ok-Exists.ensures.writes.clashes)

pub returns-in-Err-Failed-clause-clash : goal.returns-in-Err-Failed-clause-clash
returns-in-Err-Failed-clause-clash g c = failed_counts c.in-Err-Failed.field-0 _ _ c.in-Err-Failed.ensures.writes.clashes

pub returns-in-Ok-Made-clause-commits : goal.returns-in-Ok-Made-clause-commits
returns-in-Ok-Made-clause-commits g c =
    made_commits c.as_str.result.now c.deref.result.now c.args.writing.now (search rules) (search rules) _ _ c.in-Ok-Made.field-0 c.in-Ok-Made.field-0-is c.in-Ok-Made.ensures.events

pub returns-in-Err-Failed-clause-commits : goal.returns-in-Err-Failed-clause-commits
returns-in-Err-Failed-clause-commits g c =
    failed_commits c.as_str.result.now c.deref.result.now c.args.writing.now (search rules) (search rules) _ _ c.in-Err-Failed.field-0 c.in-Err-Failed.field-0-is c.in-Err-Failed.ensures.events
