use Rattle.std.proofs.Common.{◌≡◌, take}
use Rattle.dk_store.specs.Standings.{standings}
use Rattle.dk_store.specs.Settled.{named_map}
use Rattle.dk_store.specs.Views.{newest_first}
use Rattle.dk_store.proofs.standings.standing.Given as goal

-- the ratifications so far are those that the events so far leave
abbrev pub invariant-loop-event : goal.invariant-loop-event
invariant-loop-event l = named_map l.standing.entries ≡ standings (newest_first (take l.event-index l.events))
