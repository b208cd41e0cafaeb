use Rattle.std.proofs.Common.{take}
use Rattle.dk_segment.specs.CommitIndex.{HasRatifiedNames}
use Rattle.dk_segment.proofs.commit_index.ratified_names.Given as goal

abbrev pub invariant-loop-ratification : goal.invariant-loop-ratification
invariant-loop-ratification l = HasRatifiedNames l.names (take l.ratification-index l.ratified)
