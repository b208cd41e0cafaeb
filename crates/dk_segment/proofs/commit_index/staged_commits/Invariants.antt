use Rattle.std.proofs.Common.{take}
use Rattle.dk_segment.specs.CommitIndex.{HasStagedCommits}
use Rattle.dk_segment.proofs.commit_index.staged_commits.Given as goal

abbrev pub invariant-loop-commit : goal.invariant-loop-commit
invariant-loop-commit l = HasStagedCommits l.set (take l.commit-index l.staged)
