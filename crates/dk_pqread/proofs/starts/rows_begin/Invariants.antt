use Rattle.dk_pqread.proofs.starts.rows_begin.Given as goal

abbrev pub invariant-loop-group : goal.invariant-loop-group
invariant-loop-group l = Unit {0}
