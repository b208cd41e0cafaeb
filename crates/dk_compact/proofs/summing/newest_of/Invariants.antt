use Rattle.std.proofs.Common.{◌≡◌, drop}
use Rattle.dk_compact.specs.Taken.{taken_each, taken_commits}
use Rattle.dk_compact.proofs.summing.newest_of.Given as goal

-- what the commits left make of what is kept is what all make of nothing
abbrev pub invariant-commits : goal.invariant-commits
invariant-commits l = taken_each l.newest (drop l.commit-index l.commits) ≡ taken_commits l.fn.commits
