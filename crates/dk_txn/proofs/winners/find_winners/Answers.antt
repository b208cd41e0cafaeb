use Rattle.std.proofs.Common.{◌-◌, ◌≤◌, length, false, ap, ◌∙◌, map, arith}
use Rattle.dk_lawful.specs.declared.segment.Step.{Step}
use Rattle.dk_lawful.specs.Segments.{commit_place}
use Rattle.dk_listing.specs.Presence.{lists, ratified_name}
use Rattle.dk_listing.specs.Sizes.{listed_size}
use Rattle.dk_snapshot.specs.Steps.{step_path}
use Rattle.dk_txn.proofs.ReadWinners.{sources_found, sources_refused, walked_most}
use Rattle.dk_txn.proofs.winners.find_winners.Goals as goal

pub returns-in-Err-clause-found : goal.returns-in-Err-clause-found
returns-in-Err-clause-found c = sources_refused c.args.listing.now c.args.first (c.args.next - c.args.first) c.in-Err.refusal (omega (arith, c.requires.above, c.requires.small)) c.in-Err.ensures.means

pub returns-in_ok-sizes-in-Ok-clause-found : goal.returns-in_ok-sizes-in-Ok-clause-found
returns-in_ok-sizes-in-Ok-clause-found c =
    sources_found c.args.listing.now c.args.first (c.args.next - c.args.first) c.in-Ok.steps.items c.in_ok-sizes-in-Ok.sizes.items (omega (arith, c.requires.above, c.requires.small)) c.in-Ok.ensures.means
    (c.in_ok-sizes-in-Ok.ensures ∙ ap (map (λ (step : Step). listed_size c.args.listing.now (step_path step))) c.deref.ensures.value)

pub returns-in_ok-sizes-in-Ok-clause-many : goal.returns-in_ok-sizes-in-Ok-clause-many
returns-in_ok-sizes-in-Ok-clause-many c =
    let most : length c.in-Ok.steps.items ≤ c.args.next - c.args.first =
    walked_most (commit_place (lists c.args.listing.now) (ratified_name c.args.listing.now) false) c.args.first (c.args.next - c.args.first) c.in-Ok.steps.items c.in-Ok.ensures.means in
    omega (arith, most, c.requires.above)
