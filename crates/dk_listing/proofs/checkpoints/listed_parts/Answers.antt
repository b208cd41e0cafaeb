use Rattle.std.proofs.Common.{sym, subst, ◌+◌, take}
use Rattle.std.specs.Prelude.{ℕ}
use Rattle.std.specs.BTreeSet.{BTreeSet}
use Rattle.dk_listing.specs.Parts.{HasParts}
use Rattle.dk_listing.proofs.PartSets.{parts_more, parts_same}
use Rattle.dk_listing.proofs.checkpoints.listed_parts.Goals as goal
use Rattle.dk_listing.proofs.checkpoints.listed_parts.Goals.{in-Part+in_ok-insert, in_default}

pub loop-named-preserved : goal.loop-named-preserved
loop-named-preserved c = elim c.match-named.branch [
  | in-Part+in_ok-insert w ↦
      subst (λ (set : BTreeSet (ℕ × ℕ × ℕ)). HasParts set (take (c.loop-named.named-index + 1) c.args.log.now)) (sym w.set-is)
      (parts_more c.loop-named.set w.insert.new.self c.args.log.now c.loop-named.named-index c.named-item.result w.in-Part.version w.in-Part.part w.in-Part.parts c.loop-named-test.true c.named-item.is w.in-Part.is
      c.loop-named.invariant w.in_ok-insert.ensures.updates)
  | in_default w ↦
      subst (λ (set : BTreeSet (ℕ × ℕ × ℕ)). HasParts set (take (c.loop-named.named-index + 1) c.args.log.now)) (sym w.set-is)
      (parts_same c.loop-named.set c.args.log.now c.loop-named.named-index c.named-item.result c.loop-named-test.true c.named-item.is w.in_default.not-Part c.loop-named.invariant)
]
