use Rattle.std.proofs.Common.{◌≡◌, drop}
use Rattle.std.specs.List.{list_any}
use Rattle.dk_ckread.specs.Reading.{is_sidecar}
use Rattle.dk_ckread.proofs.read.has_sidecar.Given as goal

abbrev pub invariant-loop-action : goal.invariant-loop-action
invariant-loop-action l = list_any is_sidecar (drop l.action-index l.actions) ≡ list_any is_sidecar l.actions
