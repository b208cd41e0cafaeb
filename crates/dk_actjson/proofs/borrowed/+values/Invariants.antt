use Rattle.std.proofs.Common.{◌≡◌, drop}
use Rattle.json.specs.Value.{items_view, members_view}
use Rattle.dk_actjson.specs.Seen.{items_have_values, members_have_values}
use Rattle.dk_actjson.proofs.borrowed.+values.Given as goal

-- what is left has values exactly where all have
abbrev pub invariant-items_have_values-items : goal.invariant-items_have_values-items
invariant-items_have_values-items l = items_have_values (items_view (drop l.item-index l.item-items)) ≡ items_have_values (items_view l.fn.items.items)

abbrev pub invariant-members_have_values-members : goal.invariant-members_have_values-members
invariant-members_have_values-members l = members_have_values (members_view (drop l.member-index l.member-items)) ≡ members_have_values (members_view l.fn.members.items)
