use Rattle.std.proofs.Common.{◌≡◌, ◌++◌, drop}
use Rattle.serde_json.specs.View.{items_view, members_view}
use Rattle.dk_hint.proofs.Adding.{AddsItems}
use Rattle.dk_hint.specs.Canonical.{pairs_under}
use Rattle.dk_hint.proofs.pairs.+pairs.Given as goal

-- what is added, and then those of the items that are left, is the whole
abbrev pub invariant-add_items-items : goal.invariant-add_items-items
invariant-add_items-items l = AddsItems l.path l.place l.item-index l.list.items (items_view (drop l.item-index l.item-items)) l.fn.list.items (items_view l.fn.items.items)

abbrev pub invariant-add_members-members : goal.invariant-add_members-members
invariant-add_members-members l = l.list.items ++ pairs_under l.path (members_view l.key-iterator) ≡ l.fn.list.items ++ pairs_under l.path (members_view l.fn.members.entries)
