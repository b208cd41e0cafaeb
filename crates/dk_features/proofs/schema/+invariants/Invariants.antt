use Rattle.std.proofs.Common.{◌≡◌, drop}
use Rattle.serde_json.specs.View.{items_view, members_view}
use Rattle.dk_features.specs.Invariants.{items_have_invariants, members_have_invariants}
use Rattle.dk_features.proofs.schema.+invariants.Given as goal

-- what is left has invariants exactly where all have
abbrev pub invariant-items_have_invariants-items : goal.invariant-items_have_invariants-items
invariant-items_have_invariants-items l = items_have_invariants (items_view (drop l.item-index l.item-items)) ≡ items_have_invariants (items_view l.fn.items.items)

abbrev pub invariant-members_have_invariants-members : goal.invariant-members_have_invariants-members
invariant-members_have_invariants-members l = members_have_invariants (members_view l.key-iterator) ≡ members_have_invariants (members_view l.fn.members.entries)
