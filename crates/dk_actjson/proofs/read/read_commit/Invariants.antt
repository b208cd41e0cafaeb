use Rattle.std.proofs.Common.{◌≡◌, ◌+◌, ◌≤◌, length, option_map}
use Rattle.dk_model.specs.CommitText.{reading, reading_of, with_front}
use Rattle.dk_actjson.specs.Cut.{lines_after}
use Rattle.dk_actjson.proofs.LineTurns.{left}
use Rattle.dk_actjson.proofs.read.read_commit.Given as goal

-- the actions so far and those of what is left are those of all
abbrev pub invariant-lines : goal.invariant-lines
invariant-lines l = record {
  meant : with_front l.actions.items (reading (l.number + 1) (lines_after (option_map (λ r. r.now) l.rest))) ≡ reading_of l.fn.bytes;
  few : l.number + left (option_map (λ r. r.now) l.rest) ≤ length l.fn.bytes + 1;
}

abbrev pub decreases-lines : goal.decreases-lines
decreases-lines l = left (option_map (λ r. r.now) l.rest)
