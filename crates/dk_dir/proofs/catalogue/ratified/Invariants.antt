use Rattle.std.proofs.Common.{◌<◌, ◌^◌}
use Rattle.std.specs.Prelude.{All}
use Rattle.dk_dir.proofs.catalogue.ratified.Given as goal

abbrev pub invariant-loop-version : goal.invariant-loop-version
invariant-loop-version g l = All (λ r. r.version < 2 ^ 63) l.found.items
