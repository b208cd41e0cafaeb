use Rattle.std.proofs.Common.{◌≡◌, ◌≤◌, ◌^◌, take}
use Rattle.std.specs.Prelude.{IfSome}
use Rattle.dk_store.specs.Standings.{next_ratified}
use Rattle.dk_store.specs.Views.{newest_first}
use Rattle.dk_store.proofs.standings.next_version.Given as goal

-- the next version by the events so far
abbrev pub invariant-loop-event : goal.invariant-loop-event
invariant-loop-event l = (l.next ≡ next_ratified (newest_first (take l.event-index l.events))) × IfSome l.next (λ n. n ≤ 2 ^ 63)
