use Rattle.std.proofs.Common.{◌≡◌, [], drop}
use Rattle.std.specs.FinMap.{entries}
use Rattle.json.specs.Value.{members_view}
use Rattle.dk_actjson.specs.Slots.{slots_after}
use Rattle.dk_actjson.proofs.borrowed.slots_of.Given as goal

-- what the members left make of the slots is what all make of none
abbrev pub invariant-members : goal.invariant-members
invariant-members l = slots_after (members_view (drop l.member-index l.member-items)) (entries l.slots) ≡ slots_after (members_view l.members.items) []
