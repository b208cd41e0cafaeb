use Rattle.std.proofs.Common.{◌≡◌, ◌++◌, reverse, vec_len}
use Rattle.std.specs.List.{filter}
use Rattle.dk_snapshot.specs.Effects.{changes_state}
use Rattle.dk_snapshot.proofs.folding.gather.Given as goal

-- what is left of the commit, then what is gathered, is the whole
abbrev pub invariant-loop-action : goal.invariant-loop-action
invariant-loop-action l = filter changes_state l.actions.items ++ reverse l.newest_first.items ≡ filter changes_state l.fn.commit ++ reverse l.initial.newest_first.items

abbrev pub decreases-loop-action : goal.decreases-loop-action
decreases-loop-action l = vec_len l.actions
