-- What is walked behind a base is what is chosen, and what is chosen by commits alone.
use Rattle.std.proofs.Common.{◌≡◌, ℕ, suc, Bool, List, refl, sym, ap, ap₂, ◌∙◌, false}
use Rattle.std.specs.Prelude.{Option, Some, None, Result, Ok, Err, option_map}
use Rattle.std.specs.BTreeMap.{BTreeMap}
use Rattle.dk_paths.specs.Names.{commit_path}
use Rattle.dk_paths.specs.Places.{Place}
use Rattle.dk_lawful.specs.declared.segment.CheckpointRef.{CheckpointRef}
use Rattle.dk_lawful.specs.declared.segment.Checkpoints.TheVariants.{No}
use Rattle.dk_lawful.specs.declared.segment.Choice.{Choice}
use Rattle.dk_lawful.specs.declared.segment.Segment.{Segment}
use Rattle.dk_lawful.specs.declared.segment.Step.{Step}
use Rattle.dk_lawful.specs.Segments.{base_of, begins_at, commit_place, steps_of, step_at, gap_to, walked_to}
use Rattle.dk_lawful.proofs.Openable.{plain_is_by_commits}
use Rattle.dk_engine.specs.declared.refusal.Refusal.{Refusal}
use Rattle.dk_listing.specs.declared.catalogued.Catalogued.{Catalogued}
use Rattle.dk_listing.specs.Presence.{lists, listed_places, ratified_name}
use Rattle.dk_segment.specs.declared.commit_index.CommitIndex.{CommitIndex}
use Rattle.dk_segment.specs.Chosen.{chosen, chosen_segment, unless_gap}
use Rattle.dk_segment.specs.CommitIndex.{IsIndexOf}
use Rattle.dk_segment.specs.Places.{HasAllowed}
use Rattle.dk_segment.specs.Walked.{steps_known, stepped, unless_absent}
use Rattle.dk_segment.proofs.Agree.{indexed_place}
use Rattle.dk_segment.proofs.ListedPlaces.{among_is, furthest_is}

-- ---- the steps

steps_at : (commits : CommitIndex) (reaches : BTreeMap ℕ ℕ) (listing : Catalogued) (choice : Choice) (asked : ℕ) → IsIndexOf commits listing → HasAllowed reaches listing.log.items choice.compacted asked
    → (version : ℕ) → steps_known commits reaches choice.staged_first version ≡ steps_of (listed_places listing) (ratified_name listing) choice asked version
steps_at commits reaches listing choice asked indexed has version =
    ap₂ (λ (last : Option ℕ) (place : Option Place). step_at (λ v. last) (λ v. place) version)
    (has version ∙ furthest_is listing choice.compacted asked version)
    (indexed_place commits listing indexed choice.staged_first version
    ∙ ap (λ (present : Place → Bool). commit_place present (ratified_name listing) choice.staged_first version) (sym (among_is listing)))

pub steps_are : (commits : CommitIndex) (reaches : BTreeMap ℕ ℕ) (listing : Catalogued) (choice : Choice) (asked first : ℕ) → IsIndexOf commits listing → HasAllowed reaches listing.log.items choice.compacted asked
    → stepped (steps_known commits reaches choice.staged_first) asked first ≡ stepped (steps_of (listed_places listing) (ratified_name listing) choice asked) asked first
steps_are commits reaches listing choice asked first indexed has =
    let same : steps_known commits reaches choice.staged_first ≡ steps_of (listed_places listing) (ratified_name listing) choice asked = λ i version. steps_at commits reaches listing choice asked indexed has version i in
    ap (λ (at : ℕ → Option Step). stepped at asked first) same

-- ---- the segment

abbrev pub segment_behind : Option CheckpointRef → Result (List Step) Refusal → Result Segment Refusal
segment_behind base (Ok steps) = Ok (record { base = base; steps = steps })
segment_behind base (Err refusal) = Err refusal

pub chosen_behind : (places : List Place) (ratified : ℕ → Option (List ℕ)) (asked : ℕ) (choice : Choice)
    → segment_behind (base_of places choice.checkpoints asked) (stepped (steps_of places ratified choice asked) asked (begins_at (base_of places choice.checkpoints asked))) ≡ chosen_segment places ratified asked choice
chosen_behind places ratified asked choice = by (gap_to (steps_of places ratified choice asked) asked (begins_at (base_of places choice.checkpoints asked)) (suc asked))
  where
    base : Option CheckpointRef
    base = base_of places choice.checkpoints asked

    steps : List Step
    steps = walked_to (steps_of places ratified choice asked) asked (begins_at (base_of places choice.checkpoints asked)) (suc asked)

    by : (gap : Option ℕ) → segment_behind (base_of places choice.checkpoints asked) (unless_absent steps gap) ≡ unless_gap (record { base = base_of places choice.checkpoints asked; steps = steps }) (option_map commit_path gap)
    by None = refl
    by (Some v) = refl

-- ---- by commits alone

pub chosen_plainly : (listing : Catalogued) (version : ℕ) (choice : Choice) → choice.checkpoints ≡ No → choice.compacted ≡ false
    → chosen_segment (listed_places listing) (ratified_name listing) version choice ≡ chosen (lists listing) (ratified_name listing) version choice
chosen_plainly listing version choice no_checkpoints no_compacted =
    let plain = plain_is_by_commits (listed_places listing) (ratified_name listing) version choice no_checkpoints no_compacted in
    ap₂ unless_gap plain.0 plain.1 ∙ ap (λ (present : Place → Bool). chosen present (ratified_name listing) version choice) (among_is listing)
