use Rattle.std.proofs.Common.{◌≡◌, drop}
use Rattle.serde_json.specs.View.{items_view, members_view}
use Rattle.dk_hint.specs.Spelled.{are_whole, members_are_whole}
use Rattle.dk_hint.proofs.checksum.+whole.Given as goal

-- what is left is whole exactly where all is
abbrev pub invariant-are_whole-items : goal.invariant-are_whole-items
invariant-are_whole-items l = are_whole (items_view (drop l.item-index l.item-items)) ≡ are_whole (items_view l.fn.items.items)

abbrev pub invariant-members_are_whole-members : goal.invariant-members_are_whole-members
invariant-members_are_whole-members l = members_are_whole (members_view l._key-iterator) ≡ members_are_whole (members_view l.fn.members.entries)
