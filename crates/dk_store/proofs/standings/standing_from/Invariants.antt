use Rattle.std.proofs.Common.{◌≡◌, ◌++◌, map, filter, nat_le}
use Rattle.dk_store.specs.Views.{ratification}
use Rattle.dk_store.specs.Settled.{named}
use Rattle.dk_store.proofs.standings.standing_from.Given as goal

abbrev pub invariant-loop-version : goal.invariant-loop-version
invariant-loop-version l = map ratification l.found.items ++ filter (λ e. nat_le l.from e.0) (map named l.version-iterator) ≡ filter (λ e. nat_le l.from e.0) (map named l.standing.entries)
