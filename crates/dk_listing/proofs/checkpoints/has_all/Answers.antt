use Rattle.std.proofs.Common.{rules, arith, ◌≡◌, ◌+◌, true, false, sym, ◌∙◌}
use Rattle.dk_listing.specs.Parts.{has_part}
use Rattle.dk_listing.proofs.PartSets.{all_none, all_more, all_fails}
use Rattle.dk_listing.proofs.checkpoints.has_all.Goals as goal

pub loop-before-init : goal.loop-before-init
loop-before-init c = all_none (has_part c.args.set.now c.args.version c.args.parts)

pub returns-then-not-contains : goal.returns-then-not-contains
returns-then-not-contains c =
    let gone : has_part c.args.set.now c.args.version c.args.parts (c.loop-before.before + 1) ≡ false = sym c.contains.ensures ∙ search rules in
    sym (all_fails (has_part c.args.set.now c.args.version c.args.parts) c.loop-before.before c.args.parts (omega arith) gone)

pub loop-before-preserved : goal.loop-before-preserved
loop-before-preserved c =
    let here : has_part c.args.set.now c.args.version c.args.parts (c.loop-before.before + 1) ≡ true = sym c.contains.ensures ∙ search rules in
    all_more (has_part c.args.set.now c.args.version c.args.parts) c.loop-before.before here c.loop-before.invariant
