use Rattle.std.proofs.Common.{arith, ◌≡◌, take, ap, ◌∙◌}
use Rattle.std.proofs.lemmas.List.{take_all}
use Rattle.std.specs.Prelude.{List}
use Rattle.dk_listing.specs.declared.named.Named.{Named}
use Rattle.dk_listing.specs.Newest.{complete_names}
use Rattle.dk_listing.specs.Parts.{has_part}
use Rattle.dk_listing.proofs.PartSets.{complete_same}
use Rattle.dk_listing.proofs.checkpoints.complete_checkpoints.Goals as goal

pub returns : goal.returns
returns c =
    let all : take c.loop-named.named-index c.args.log.now ≡ c.args.log.now = take_all c.loop-named.named-index c.args.log.now (omega arith) in
    c.loop-named.invariant
    ∙ ap (λ (log : List Named). complete_names (has_part c.in_ok-set.set) log) all
    ∙ complete_same c.in_ok-set.set c.args.log.now c.in_ok-set.ensures
