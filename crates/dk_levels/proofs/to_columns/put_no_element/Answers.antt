use Rattle.dk_levels.proofs.Pending.{nothing_entry}
use Rattle.dk_levels.proofs.to_columns.put_no_element.Goals as goal

pub returns-in_ok-next-in-Entries-clause-added : goal.returns-in_ok-next-in-Entries-clause-added
returns-in_ok-next-in-Entries-clause-added c =
    rw c.in-Entries.is (nothing_entry c.args.node.now c.args.columns.now c.push.new.columns _ c.args.leaf c.in_ok-value-in-Entries.value _ _
    c.in_ok-value-in-Entries.ensures.added c.in_ok-value-in-Entries.ensures.next c.in_ok-next-in-Entries.ensures.added)
