use Rattle.std.proofs.Common.{◌≡◌}
use Rattle.dk_lawful.specs.Segments.{part_paths}
use Rattle.dk_segment.proofs.base.part_paths.Given as goal

abbrev pub invariant-loop-before : goal.invariant-loop-before
invariant-loop-before l = l.paths.items ≡ part_paths l.version l.parts l.before
