-- The sized segment of a version, by a listing and by the events of the store.
use Rattle.std.proofs.Common.{◌≡◌, ℕ, ◌<◌, ◌^◌, List, [], ◌∷◌, refl, ap, ap₂, sym, subst, ◌∙◌}
use Rattle.std.specs.Prelude.{Option, Result, Ok, Err, Vec, IfOk, map}
use Rattle.std.specs.Global.{Global}
use Rattle.std.specs.declared.alloc.AllocError.{AllocError}
use Rattle.dk_store.specs.Told.{Told}
use Rattle.dk_store.specs.Standings.{standing}
use Rattle.dk_lawful.specs.declared.segment.Choice.{Choice}
use Rattle.dk_lawful.specs.declared.segment.Segment.{Segment}
use Rattle.dk_lawful.specs.declared.segment.Step.{Step}
use Rattle.dk_engine.specs.declared.refusal.Refusal.{Refusal}
use Rattle.dk_engine.specs.Answers.{Refuses}
use Rattle.dk_engine.proofs.Refused.{refused_by_part}
use Rattle.dk_listing.specs.declared.catalogued.Catalogued.{Catalogued}
use Rattle.dk_listing.specs.Latest.{latest_of}
use Rattle.dk_listing.specs.OfEvents.{IsListingOf, stands_at, latest}
use Rattle.dk_listing.specs.Presence.{lists, ratified_name}
use Rattle.dk_listing.specs.Sizes.{listed_size}
use Rattle.dk_listing.proofs.LatestOf.{latest_standing}
use Rattle.dk_segment.specs.Chosen.{chosen}
use Rattle.dk_segment.proofs.Agree.{chosen_standing}
use Rattle.dk_snapshot.specs.declared.sized_segment.SizedSegment.{SizedSegment}
use Rattle.dk_snapshot.specs.Asked.{version_asked}
use Rattle.dk_snapshot.specs.Opening.{opened_chosen, opened_asked, opened_segment}
use Rattle.dk_snapshot.specs.SizedSegment.{IsSizedSegmentAt, IsSizedSegmentOf, sized_with}
use Rattle.dk_snapshot.specs.Steps.{step_path}
use Rattle.dk_snapshot.proofs.Segments.{segment_sized}

-- ---- of a version

-- the choice by the listing refuses as the choice by the events does
pub not_chosen : (listing : Catalogued) (version : ℕ) (choice : Choice) (refusal : Refusal) → version < 2 ^ 63
    → Refuses refusal (chosen (lists listing) (ratified_name listing) version choice)
    → (events : List Told) → IsListingOf events listing → Refuses refusal (chosen (stands_at events) (standing events) version choice)
not_chosen listing version choice refusal small means events is = subst (λ (meant : Result Segment Refusal). Refuses refusal meant) (chosen_standing events listing is version small choice) means

pub sized_is : (listing : Catalogued) (version : ℕ) (choice : Choice) (segment : Segment) (walked : List Step) (sizes : Result (Vec (Option ℕ) Global) AllocError) (result : Result SizedSegment Refusal) → version < 2 ^ 63
    → chosen (lists listing) (ratified_name listing) version choice ≡ Ok segment
    → walked ≡ segment.steps
    → IfOk sizes (λ (found : Vec (Option ℕ) Global). found.items ≡ map (λ (step : Step). listed_size listing (step_path step)) walked)
    → result ≡ sized_with version segment sizes
    → (events : List Told) → IsListingOf events listing → IsSizedSegmentOf events choice version result
sized_is listing version choice segment walked (Ok sizes) result small chooses walk sized with_them events is =
    let stands : chosen (stands_at events) (standing events) version choice ≡ Ok segment = sym (chosen_standing events listing is version small choice) ∙ chooses in
    subst (λ (r : Result SizedSegment Refusal). IsSizedSegmentOf events choice version r) (sym with_them) (refl, stands, sized ∙ ap (map (λ (step : Step). listed_size listing (step_path step))) walk ∙ segment_sized events listing is (stands_at events) (standing events) version choice segment stands)
sized_is listing version choice segment walked (Err e) result small chooses walk sized with_them events is =
    subst (λ (r : Result SizedSegment Refusal). IsSizedSegmentOf events choice version r) (sym with_them) tt

pub sized_version : (version : ℕ) (segment : Segment) (sizes : Result (Vec (Option ℕ) Global) AllocError) (result : Result SizedSegment Refusal) → result ≡ sized_with version segment sizes
    → IfOk result (λ (sized_segment : SizedSegment). sized_segment.version ≡ version)
sized_version version segment (Ok sizes) result with_them = subst (λ (r : Result SizedSegment Refusal). IfOk r (λ (sized_segment : SizedSegment). sized_segment.version ≡ version)) (sym with_them) refl
sized_version version segment (Err e) result with_them = subst (λ (r : Result SizedSegment Refusal). IfOk r (λ (sized_segment : SizedSegment). sized_segment.version ≡ version)) (sym with_them) tt

-- ---- of the asked version

pub not_asked : (listing : Catalogued) (at latest_listed : Option ℕ) (choice : Choice) (refusal : Refusal) → latest_listed ≡ latest_of listing
    → Refuses refusal (version_asked at latest_listed)
    → (events : List Told) → IsListingOf events listing → IsSizedSegmentAt events at choice (Err refusal)
not_asked listing at latest_listed choice refusal same means events is limits now =
    refused_by_part (opened_asked events limits choice now) (λ r. refl) refusal (version_asked at (latest events))
    (subst (λ (l : Option ℕ). Refuses refusal (version_asked at l)) (same ∙ latest_standing events listing is) means)

pub asked_segment : (listing : Catalogued) (at latest_listed : Option ℕ) (choice : Choice) (version : ℕ) (result : Result SizedSegment Refusal) → latest_listed ≡ latest_of listing
    → version_asked at latest_listed ≡ Ok version
    → ((events : List Told) → IsListingOf events listing → IsSizedSegmentOf events choice version result)
    → (events : List Told) → IsListingOf events listing → IsSizedSegmentAt events at choice result
asked_segment listing at latest_listed choice version (Ok sized_segment) same asks are events is =
    let of_it : IsSizedSegmentOf events choice version (Ok sized_segment) = are events is in
    let asked : version_asked at (latest events) ≡ Ok version = sym (ap (version_asked at) (same ∙ latest_standing events listing is)) ∙ asks in
    (λ limits now. ap (opened_asked events limits choice now) asked ∙ ap (opened_chosen events limits now version) of_it.1 ∙ ap (λ (v : ℕ). opened_segment events limits now v sized_segment.segment) (sym of_it.0), of_it.2)
asked_segment listing at latest_listed choice version (Err refusal) same asks are events is = λ limits now.
    let asked : version_asked at (latest events) ≡ Ok version = sym (ap (version_asked at) (same ∙ latest_standing events listing is)) ∙ asks in
    subst (λ (meant : Result ℕ Refusal). Refuses refusal (opened_asked events limits choice now meant)) (sym asked)
    (refused_by_part (opened_chosen events limits now version) (λ r. refl) refusal (chosen (stands_at events) (standing events) version choice) (are events is))

-- sizes that are known are those that are listed
pub known_listed : (known listed : List ℕ → Option ℕ) (steps : List Step) (found : Result (Vec (Option ℕ) Global) AllocError) → ((path : List ℕ) → known path ≡ listed path)
    → IfOk found (λ (sizes : Vec (Option ℕ) Global). sizes.items ≡ map (λ (step : Step). known (step_path step)) steps)
    → IfOk found (λ (sizes : Vec (Option ℕ) Global). sizes.items ≡ map (λ (step : Step). listed (step_path step)) steps)
known_listed known listed steps (Ok sizes) same are = are ∙ alike steps
  where
    alike : (xs : List Step) → map (λ (step : Step). known (step_path step)) xs ≡ map (λ (step : Step). listed (step_path step)) xs
    alike [] = refl
    alike (x ∷ xs) = ap₂ (λ (y : Option ℕ) (ys : List (Option ℕ)). y ∷ ys) (same (step_path x)) (alike xs)
known_listed known listed steps (Err e) same are = tt
