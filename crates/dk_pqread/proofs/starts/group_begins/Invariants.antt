use Rattle.dk_pqread.proofs.starts.group_begins.Given as goal

abbrev pub invariant-loop-column : goal.invariant-loop-column
invariant-loop-column l = Unit {0}
