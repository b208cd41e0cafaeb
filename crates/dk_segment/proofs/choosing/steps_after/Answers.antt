use Rattle.std.proofs.Common.{ℕ, List, ap, subst, ◌∙◌}
use Rattle.dk_lawful.specs.Segments.{steps_of}
use Rattle.dk_engine.proofs.Refused.{gives_same}
use Rattle.dk_listing.specs.Presence.{listed_places, ratified_name}
use Rattle.dk_listing.specs.declared.named.Named.{Named}
use Rattle.dk_segment.specs.Places.{HasAllowed}
use Rattle.dk_segment.specs.Walked.{stepped}
use Rattle.dk_segment.proofs.Choices.{steps_are}
use Rattle.dk_segment.proofs.choosing.steps_after.Goals as goal

pub returns-clause-means : goal.returns-clause-means
returns-clause-means c =
    let listing = c.args.listing.now in
    let choice = c.args.choice.now in
    gives_same (λ steps. steps.items) c.walk_to.result _ _
    (steps_are c.in_ok-commits.commits c.in_ok-reaches.reaches listing choice c.args.version c.begins_at-first.result c.in_ok-commits.ensures (subst (λ (log : List Named). HasAllowed c.in_ok-reaches.reaches log choice.compacted c.args.version) c.deref.ensures.value c.in_ok-reaches.ensures.has)
    ∙ ap (λ (first : ℕ). stepped (steps_of (listed_places listing) (ratified_name listing) choice c.args.version) c.args.version first) c.begins_at-first.ensures)
    c.walk_to.ensures.means
