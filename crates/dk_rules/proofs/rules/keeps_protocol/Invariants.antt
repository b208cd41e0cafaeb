use Rattle.std.proofs.Common.{◌≡◌, drop}
use Rattle.std.specs.List.{filter_map, list_all}
use Rattle.dk_lawful.specs.Rules.{is_protocol_kept}
use Rattle.dk_model.specs.Changes.{protocol_in}
use Rattle.dk_rules.proofs.rules.keeps_protocol.Given as goal

abbrev pub invariant-loop-action : goal.invariant-loop-action
invariant-loop-action l = list_all (is_protocol_kept l.before.protocol) (filter_map protocol_in (drop l.action-index l.actions)) ≡ list_all (is_protocol_kept l.before.protocol) (filter_map protocol_in l.actions)
