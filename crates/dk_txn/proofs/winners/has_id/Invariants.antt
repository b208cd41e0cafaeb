use Rattle.std.proofs.Common.{◌≡◌, drop}
use Rattle.std.specs.List.{list_any}
use Rattle.dk_lawful.specs.Ids.{says}
use Rattle.dk_txn.proofs.winners.has_id.Given as goal

abbrev pub invariant-actions : goal.invariant-actions
invariant-actions l = list_any (says l.id) (drop l.action-index l.commit) ≡ list_any (says l.id) l.commit
