use Rattle.std.proofs.Common.{◌≡◌, ◌+◌, ◌≤◌, drop, length}
use Rattle.std.specs.List.{filter_map}
use Rattle.dk_model.specs.Changes.{protocol_in}
use Rattle.dk_rules.proofs.rules.count_protocols.Given as goal

abbrev pub invariant-loop-action : goal.invariant-loop-action
invariant-loop-action l = (l.count + length (filter_map protocol_in (drop l.action-index l.actions)) ≡ length (filter_map protocol_in l.actions)) × (l.count ≤ l.action-index)
