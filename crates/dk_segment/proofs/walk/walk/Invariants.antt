use Rattle.dk_segment.specs.CommitIndex.{name_ratified_for, has_place}
use Rattle.dk_segment.proofs.Walks.{IsOnTheWay}
use Rattle.dk_lawful.specs.Segments.{commit_place}
use Rattle.dk_segment.proofs.walk.walk.Given as goal

abbrev pub invariant-loop-version : goal.invariant-loop-version
invariant-loop-version l = IsOnTheWay (commit_place (has_place l.commits) (name_ratified_for l.commits) l.staged_first) l.found.items l.first l.version l.count
