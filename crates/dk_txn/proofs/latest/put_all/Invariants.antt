use Rattle.std.proofs.Common.{◌≡◌, ◌++◌}
use Rattle.std.specs.Vec.Iter.{into_iter_items}
use Rattle.dk_txn.proofs.latest.put_all.Given as goal

abbrev pub invariant-loop-action : goal.invariant-loop-action
invariant-loop-action l =
    (l.transaction.actions.items ++ into_iter_items l.action-iterator ≡ l.fn.transaction.actions.items ++ l.fn.actions.items)
    × (l.transaction ≡ record l.fn.transaction { actions = l.transaction.actions; staged = l.transaction.staged })
