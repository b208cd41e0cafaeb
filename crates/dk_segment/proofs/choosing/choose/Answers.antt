use Rattle.std.proofs.Common.{◌≡◌, ℕ, List, sym, subst, refl, ap, ap₂, ◌∙◌}
use Rattle.std.specs.Prelude.{Option, Result, Ok, option_map}
use Rattle.dk_lawful.specs.declared.segment.CheckpointRef.{CheckpointRef}
use Rattle.dk_lawful.specs.declared.segment.Choice.{Choice}
use Rattle.dk_lawful.specs.declared.segment.Segment.{Segment}
use Rattle.dk_lawful.specs.declared.segment.Step.{Step}
use Rattle.dk_lawful.specs.Segments.{begins_at, steps_of}
use Rattle.dk_engine.specs.declared.refusal.Refusal.{Refusal}
use Rattle.dk_engine.specs.Answers.{Refuses}
use Rattle.dk_engine.proofs.Refused.{refused_by_part}
use Rattle.dk_listing.specs.declared.catalogued.Catalogued.{Catalogued}
use Rattle.dk_listing.specs.Presence.{listed_places, ratified_name}
use Rattle.dk_segment.specs.Chosen.{chosen_segment}
use Rattle.dk_segment.specs.Places.{base_listed}
use Rattle.dk_segment.specs.Walked.{stepped}
use Rattle.dk_segment.proofs.Choices.{segment_behind, chosen_behind}
use Rattle.dk_segment.proofs.ListedPlaces.{base_is}
use Rattle.dk_segment.specs.Places.{reference}
use Rattle.dk_segment.proofs.choosing.choose.Goals as goal

behind : (listing : Catalogued) (version : ℕ) (choice : Choice) (base : Option CheckpointRef) → base ≡ base_listed listing choice.checkpoints version
    → segment_behind base (stepped (steps_of (listed_places listing) (ratified_name listing) choice version) version (begins_at base)) ≡ chosen_segment (listed_places listing) (ratified_name listing) version choice
behind listing version choice base is =
    ap (λ (b : Option CheckpointRef). segment_behind b (stepped (steps_of (listed_places listing) (ratified_name listing) choice version) version (begins_at b))) (is ∙ base_is listing choice.checkpoints version)
    ∙ chosen_behind (listed_places listing) (ratified_name listing) version choice

pub returns-in-Err-clause-means : goal.returns-in-Err-clause-means
returns-in-Err-clause-means c =
    let base : Option CheckpointRef = option_map reference c.find_base-base.result in
    subst (λ (meant : Result Segment Refusal). Refuses c.in-Err.refusal meant) (behind c.args.listing.now c.args.version c.args.choice.now base c.find_base-base.ensures.value)
    (refused_by_part (segment_behind base) (λ r. refl) c.in-Err.refusal _ c.in-Err.ensures.means)

pub returns-in_ok-refer_base-in-Ok-clause-means : goal.returns-in_ok-refer_base-in-Ok-clause-means
returns-in_ok-refer_base-in-Ok-clause-means c =
    let base : Option CheckpointRef = option_map reference c.find_base-base.result in
    sym (behind c.args.listing.now c.args.version c.args.choice.now base c.find_base-base.ensures.value)
    ∙ ap (segment_behind base) c.in-Ok.ensures.means
    ∙ ap₂ (λ (b : Option CheckpointRef) (steps : List Step). Ok (record { base = b; steps = steps })) (sym c.in_ok-refer_base-in-Ok.ensures) (sym {A = List Step} c.new.ensures)
