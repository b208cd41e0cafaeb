use Rattle.std.proofs.Common.{◌≤◌, length}
use Rattle.dk_store.specs.Seen.{Stays}
use Rattle.dk_txn.proofs.ReadWinners.{LeftToRead}
use Rattle.dk_txn.proofs.winners.read_winners.Given as goal

-- the winners that are left, behind what was found so far
abbrev pub invariant-loop-place : goal.invariant-loop-place
invariant-loop-place g l =
    let now = goal.Store-dyn g l.store.now in
    let before = goal.Store-dyn g l.initial.store.now in
    Stays (before.seen l.initial.store.now.1) (now.seen l.store.now.1)
    × (l.place ≤ length l.winners.steps.items)
    × LeftToRead (before.seen l.initial.store.now.1).told l.limit l.own.id.now l.own.claims l.winners.first l.winners.steps.items l.winners.sizes.items l.initial.state l.place l.state l.conflict
