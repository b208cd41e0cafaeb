use Rattle.std.proofs.Common.{sym, ap}
use Rattle.std.specs.Prelude.{is_none}
use Rattle.dk_features.specs.declared.fault.FeatureFault.{FeatureFault}
use Rattle.dk_features.specs.Support.{unwritten}
use Rattle.dk_features.proofs.Unused.{told_fault}
use Rattle.dk_lawful.specs.SoFar.{is_written_so_far}
use Rattle.dk_rules.proofs.rules.is_written.Goals as goal

pub returns-in-Ok : goal.returns-in-Ok
unfolding is_written_so_far
returns-in-Ok c = sym (ap (is_none {T = FeatureFault}) c.in-Ok.ensures)

pub returns-in_ok-pass_unsupported-in-Err : goal.returns-in_ok-pass_unsupported-in-Err
unfolding is_written_so_far
returns-in_ok-pass_unsupported-in-Err c =
    sym (ap (is_none {T = FeatureFault}) (told_fault (unwritten c.args.protocol.now c.args.metadata.now) c.in-Err.fault c.in_ok-pass_unsupported-in-Err.ensures c.in-Err.ensures))
