use Rattle.std.proofs.Common.{◌≡◌, ◌++◌}
use Rattle.serde_json.specs.View.{members_view}
use Rattle.dk_hint.specs.Canonical.{top_pairs}
use Rattle.dk_hint.proofs.checksum.add_top_pairs.Given as goal

-- what is added, and then those of the members that are left, is the whole
abbrev pub invariant-members : goal.invariant-members
invariant-members l = l.list.items ++ top_pairs (members_view l.key-iterator) ≡ l.fn.list.items ++ top_pairs (members_view l.fn.members.entries)
