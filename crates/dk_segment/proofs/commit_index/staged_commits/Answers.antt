use Rattle.dk_segment.proofs.Sets.{staged_more}
use Rattle.dk_segment.proofs.commit_index.staged_commits.Goals as goal

pub loop-commit-preserved : goal.loop-commit-preserved
loop-commit-preserved c =
    staged_more c.loop-commit.set c.insert.new.self c.args.staged.now c.loop-commit.commit-index c.commit-item.result c.loop-commit-test.true c.commit-item.is c.loop-commit.invariant c.in_ok-insert.ensures.updates
