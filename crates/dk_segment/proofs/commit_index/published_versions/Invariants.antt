use Rattle.std.proofs.Common.{take}
use Rattle.dk_segment.specs.CommitIndex.{HasCommits}
use Rattle.dk_segment.proofs.commit_index.published_versions.Given as goal

abbrev pub invariant-loop-named : goal.invariant-loop-named
invariant-loop-named l = HasCommits l.set (take l.named-index l.log)
