use Rattle.std.proofs.Common.{◌≡◌, drop}
use Rattle.dk_compact.specs.Taken.{taken_all}
use Rattle.dk_compact.proofs.newest.Newest.take_all.Given as goal

-- what the actions left make of what is kept is what all make of the first
abbrev pub invariant-actions : goal.invariant-actions
invariant-actions l = taken_all l.self (drop l.action-index l.actions) ≡ taken_all l.fn.self l.fn.actions
