-- Two tests of places, and two maps of standing names, that agree where a version needs them give it one segment.
use Rattle.std.proofs.Common.{◌≡◌, ℕ, suc, zero, ◌+◌, ◌<◌, ◌≤◌, ◌^◌, Bool, List, [], refl, ap, ap₂, subst, ◌∙◌, arith, if◌then◌else◌, inl, inr}
use Rattle.std.specs.Prelude.{Option, Some, None, option_map, option_and_then, is_some, Result, Ok, Err}
use Rattle.std.proofs.lemmas.Bool.Decides.{eqb_tells}
use Rattle.dk_store.specs.Told.{Told}
use Rattle.dk_store.specs.Standings.{standing}
use Rattle.dk_paths.specs.Names.{commit_path}
use Rattle.dk_paths.specs.Places.{Place, Commit_at, Staged}
use Rattle.dk_paths.specs.Staged.{IsStaged, IsStagedNameOf, staged_of}
use Rattle.dk_paths.proofs.StagedNames.{IsStagedNameOf-staged_of}
use Rattle.dk_lawful.specs.declared.segment.Choice.{Choice}
use Rattle.dk_lawful.specs.declared.segment.Segment.{Segment}
use Rattle.dk_lawful.specs.declared.segment.Step.{Step}
use Rattle.dk_lawful.specs.Segments.{commit_place, preferred, published_at, staged_at, if_present, id_of, id_named, before_later, steps_from, gap_from}
use Rattle.dk_engine.specs.declared.refusal.Refusal.{Refusal}
use Rattle.dk_listing.specs.declared.catalogued.Catalogued.{Catalogued}
use Rattle.dk_listing.specs.OfEvents.{IsListingOf, stands_at}
use Rattle.dk_listing.specs.Presence.{lists, ratified_name}
use Rattle.dk_listing.proofs.Standing.{lists_commit, lists_staged_commit, names_standing}
use Rattle.dk_segment.specs.declared.commit_index.CommitIndex.{CommitIndex}
use Rattle.dk_segment.specs.Chosen.{chosen, unless_gap}
use Rattle.dk_segment.specs.CommitIndex.{IsIndexOf, has_place, name_ratified_for}
use Rattle.dk_segment.specs.Walked.{walked, unless_absent}

-- ---- the segment of what was walked

abbrev pub segment_with : Result (List Step) Refusal → Result Segment Refusal
segment_with (Ok steps) = Ok (record { base = None; steps = steps })
segment_with (Err refusal) = Err refusal

pub chosen_walked : (present : Place → Bool) (ratified : ℕ → Option (List ℕ)) (version : ℕ) (choice : Choice)
    → segment_with (walked (commit_place present ratified choice.staged_first) 0 (version + 1)) ≡ chosen present ratified version choice
chosen_walked present ratified version choice = by (gap_from (commit_place present ratified choice.staged_first) 0 (version + 1))
  where
    steps : List Step
    steps = steps_from (commit_place present ratified choice.staged_first) 0 (version + 1)

    by : (gap : Option ℕ) → segment_with (unless_absent steps gap) ≡ unless_gap (record { base = None; steps = steps }) (option_map commit_path gap)
    by None = refl
    by (Some v) = refl

-- ---- what is known of a listing

pub indexed_place : (commits : CommitIndex) (listing : Catalogued) → IsIndexOf commits listing → (staged_first : Bool) (version : ℕ)
    → commit_place (has_place commits) (name_ratified_for commits) staged_first version ≡ commit_place (lists listing) (ratified_name listing) staged_first version
indexed_place commits listing indexed staged_first version = ap₂ (preferred staged_first) staged published
  where
    published : published_at (has_place commits) version ≡ published_at (lists listing) version
    published = ap (λ (there : Bool). if there then Some (Commit_at version) else None) (indexed.published version)

    staged : staged_at (has_place commits) (name_ratified_for commits) version ≡ staged_at (lists listing) (ratified_name listing) version
    staged =
        let same : (λ (id : ℕ). has_place commits (Staged version id)) ≡ (λ (id : ℕ). lists listing (Staged version id)) = λ i id. indexed.staged version id i in
        ap₂ (λ (there : ℕ → Bool) (name : Option (List ℕ)). option_and_then (λ id. if there id then Some (Staged version id) else None) (option_and_then (id_named version) name)) same (indexed.ratified version)

-- what is walked by what is known of a listing is walked by the listing
pub indexed_walk : (commits : CommitIndex) (listing : Catalogued) → IsIndexOf commits listing → (staged_first : Bool) (first count : ℕ)
    → walked (commit_place (has_place commits) (name_ratified_for commits) staged_first) first count ≡ walked (commit_place (lists listing) (ratified_name listing) staged_first) first count
indexed_walk commits listing indexed staged_first first count =
    let same : commit_place (has_place commits) (name_ratified_for commits) staged_first ≡ commit_place (lists listing) (ratified_name listing) staged_first = λ i version. indexed_place commits listing indexed staged_first version i in
    ap (λ (place_at : ℕ → Option Place). walked place_at first count) same

-- ---- two views of one log

staged_alike : (present other : Place → Bool) (version : ℕ) → ((id : ℕ) → IsStaged version id → present (Staged version id) ≡ other (Staged version id)) → (name : List ℕ) (found : Option (ℕ × ℕ)) → IsStagedNameOf name found
    → option_and_then (λ id. if_present present (Staged version id)) (option_and_then (id_of version) found) ≡ option_and_then (λ id. if_present other (Staged version id)) (option_and_then (id_of version) found)
staged_alike present other version same name None names = refl
staged_alike present other version same name (Some staged) names = elim (eqb_tells staged.0 version) [
  | inl t ↦
      let allowed : IsStaged version staged.1 = subst (λ (v : ℕ). IsStaged v staged.1) t.1 names.0 in
      rw t.0 (ap (λ (there : Bool). if there then Some (Staged version staged.1) else None) (same staged.1 allowed))
  | inr f ↦ rw f.0 refl
]

named_alike : (present other : Place → Bool) (version : ℕ) → ((id : ℕ) → IsStaged version id → present (Staged version id) ≡ other (Staged version id)) → (name : Option (List ℕ))
    → option_and_then (λ id. if_present present (Staged version id)) (option_and_then (id_named version) name) ≡ option_and_then (λ id. if_present other (Staged version id)) (option_and_then (id_named version) name)
named_alike present other version same None = refl
named_alike present other version same (Some name) = staged_alike present other version same name (staged_of name) (IsStagedNameOf-staged_of name)

-- two tests, and two maps of standing names, that agree on a version
pub record AgreeOn (present other : Place → Bool) (ratified other_ratified : ℕ → Option (List ℕ)) (version : ℕ) : Type 0 where
  pub commit : present (Commit_at version) ≡ other (Commit_at version)
  pub staged : (id : ℕ) → IsStaged version id → present (Staged version id) ≡ other (Staged version id)
  pub name : ratified version ≡ other_ratified version

pub place_alike : (present other : Place → Bool) (ratified other_ratified : ℕ → Option (List ℕ)) (staged_first : Bool) (version : ℕ) → AgreeOn present other ratified other_ratified version
    → commit_place present ratified staged_first version ≡ commit_place other other_ratified staged_first version
place_alike present other ratified other_ratified staged_first version agree =
    ap₂ (preferred staged_first)
    (ap (λ (name : Option (List ℕ)). option_and_then (λ id. if_present present (Staged version id)) (option_and_then (id_named version) name)) agree.name
    ∙ named_alike present other version agree.staged (other_ratified version))
    (ap (λ (there : Bool). if there then Some (Commit_at version) else None) agree.commit)

pub steps_alike : (place_at other : ℕ → Option Place) (v count : ℕ) → ((w : ℕ) → w < v + count → place_at w ≡ other w) → steps_from place_at v count ≡ steps_from other v count
unfolding steps_from
steps_alike place_at other v zero same = refl
steps_alike place_at other v (suc count) same = ap₂ (before_later v) (same v (omega arith)) (steps_alike place_at other (suc v) count (λ w lt. same w (omega arith)))

pub gap_alike : (place_at other : ℕ → Option Place) (v count : ℕ) → ((w : ℕ) → w < v + count → place_at w ≡ other w) → gap_from place_at v count ≡ gap_from other v count
unfolding gap_from
gap_alike place_at other v zero same = refl
gap_alike place_at other v (suc count) same =
    ap₂ (λ (there : Bool) (later : Option ℕ). if there then later else Some v) (ap (λ (place : Option Place). is_some place) (same v (omega arith))) (gap_alike place_at other (suc v) count (λ w lt. same w (omega arith)))

-- they give one segment, or one gap
pub chosen_alike : (present other : Place → Bool) (ratified other_ratified : ℕ → Option (List ℕ)) (version : ℕ) (choice : Choice) → ((v : ℕ) → v ≤ version → AgreeOn present other ratified other_ratified v)
    → chosen present ratified version choice ≡ chosen other other_ratified version choice
chosen_alike present other ratified other_ratified version choice agree =
    let one : ℕ → Option Place = commit_place present ratified choice.staged_first in
    let two : ℕ → Option Place = commit_place other other_ratified choice.staged_first in
    let same : (w : ℕ) → w < 0 + (version + 1) → one w ≡ two w = λ w lt. place_alike present other ratified other_ratified choice.staged_first w (agree w (omega arith)) in
    ap₂ (λ (steps : List Step) (gap : Option ℕ). unless_gap (record { base = None; steps = steps }) (option_map commit_path gap)) (steps_alike one two 0 (version + 1) same) (gap_alike one two 0 (version + 1) same)

-- what is chosen of a listing of events is chosen of what stands
pub chosen_standing : (events : List Told) (listing : Catalogued) → IsListingOf events listing → (version : ℕ) → version < 2 ^ 63 → (choice : Choice)
    → chosen (lists listing) (ratified_name listing) version choice ≡ chosen (stands_at events) (standing events) version choice
chosen_standing events listing is version small choice =
    chosen_alike (lists listing) (stands_at events) (ratified_name listing) (standing events) version choice (λ v most. record {
      commit = lists_commit events listing is v (omega arith);
      staged = λ id allowed. lists_staged_commit events listing is v id allowed;
      name = names_standing events listing is v;
    })

-- what is walked by a listing of events is walked by what stands
pub walked_standing : (events : List Told) (listing : Catalogued) → IsListingOf events listing → (staged_first : Bool) (first count : ℕ) → first + count ≤ 2 ^ 63
    → walked (commit_place (lists listing) (ratified_name listing) staged_first) first count ≡ walked (commit_place (stands_at events) (standing events) staged_first) first count
walked_standing events listing is staged_first first count small =
    let one : ℕ → Option Place = commit_place (lists listing) (ratified_name listing) staged_first in
    let two : ℕ → Option Place = commit_place (stands_at events) (standing events) staged_first in
    let same : (w : ℕ) → w < first + count → one w ≡ two w = λ w lt. place_alike (lists listing) (stands_at events) (ratified_name listing) (standing events) staged_first w (record {
      commit = lists_commit events listing is w (omega arith);
      staged = λ id allowed. lists_staged_commit events listing is w id allowed;
      name = names_standing events listing is w;
    }) in
    ap₂ unless_absent (steps_alike one two first count same) (gap_alike one two first count same)

-- of no versions nothing is missing
pub walked_none : (place_at : ℕ → Option Place) (first : ℕ) → walked place_at first 0 ≡ Ok []
unfolding steps_from gap_from
walked_none place_at first = refl
