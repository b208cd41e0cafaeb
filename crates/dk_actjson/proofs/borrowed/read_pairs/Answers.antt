use Rattle.std.proofs.Common.{sym, subst, ap, ◌∙◌}
use Rattle.json.specs.Value.{members_view}
use Rattle.dk_actjson.specs.Faults.{Gives}
use Rattle.dk_actjson.specs.Slots.{all_slots}
use Rattle.dk_actjson.proofs.Slots.{pairs_from_slots}
use Rattle.dk_actjson.proofs.borrowed.read_pairs.Goals as goal

pub returns : goal.returns
returns c = subst (Gives c.pairs_of_slots.result) (ap all_slots c.in_ok-slots.ensures ∙ sym (pairs_from_slots (members_view c.args.members.now.items))) c.pairs_of_slots.ensures
