use Rattle.std.proofs.Common.{◌≡◌, ◌++◌, map}
use Rattle.dk_compact.specs.Keyed.{actions_in, lent}
use Rattle.dk_compact.specs.Settled.{settled}
use Rattle.dk_compact.proofs.latest.Latest.append_to.Given as goal

-- what is added, and then the entries that are left, is the whole
abbrev pub invariant-entries : goal.invariant-entries
invariant-entries l = l.list.items ++ map settled (actions_in (lent l._key-iterator)) ≡ l.fn.list.items ++ map settled (actions_in l.fn.self)
