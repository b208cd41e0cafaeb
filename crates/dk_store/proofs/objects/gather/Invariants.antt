use Rattle.std.proofs.Common.{◌≡◌, take}
use Rattle.dk_store.specs.Objects.{objects}
use Rattle.dk_store.specs.Views.{newest_first}
use Rattle.dk_store.specs.Memory.{placed_map}
use Rattle.dk_store.proofs.objects.gather.Given as goal

-- the objects so far are those that the events so far leave
abbrev pub invariant-loop-event : goal.invariant-loop-event
invariant-loop-event l = placed_map l.objects.entries ≡ objects (newest_first (take l.event-index l.events))
