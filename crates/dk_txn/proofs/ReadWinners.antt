-- Reading the winners from the oldest on, over a store that may tell its events.
use Rattle.std.proofs.Common.{◌≡◌, ℕ, zero, suc, ◌+◌, ◌<◌, ◌≤◌, ◌^◌, Bool, true, false, true≢false, List, [], ◌∷◌, length, drop, get_or, map, refl, ap, ap₂, sym, subst, ◌∙◌, arith, add-one, if◌then◌else◌}
use Rattle.std.proofs.Math.Seq.{drop-cons, drop-length}
use Rattle.std.specs.Prelude.{Option, Some, None, Result, Ok, Err, IfSome, option_and_then, slice_get}
use Rattle.std.specs.List.{list_any}
use Rattle.std.specs.Option.{option_or}
use Rattle.dk_store.specs.Told.{Told}
use Rattle.dk_model.specs.declared.action.Action.{Action}
use Rattle.dk_model.specs.declared.kind.Kind.{Kind}
use Rattle.dk_model.specs.declared.state.TableState.{TableState}
use Rattle.dk_model.specs.State.{steps, steps_of_all}
use Rattle.dk_conflicts.specs.declared.reads.Reads.{Reads}
use Rattle.dk_conflicts.specs.declared.claims.Claims.{Claims}
use Rattle.dk_conflicts.specs.Claims.{AreClaims}
use Rattle.dk_conflicts.specs.Conflicts.{first_in_the_way, kind_of}
use Rattle.dk_engine.specs.declared.refusal.Refusal.{Refusal}
use Rattle.dk_engine.specs.declared.refusal.Refusal.TheVariants as refusals
use Rattle.dk_engine.specs.Answers.{Refuses}
use Rattle.dk_engine.proofs.Refused.{refused_by_part}
use Rattle.dk_lawful.specs.declared.segment.Step.{Step}
use Rattle.dk_lawful.specs.Ids.{says}
use Rattle.dk_lawful.specs.Segments.{before_later as before_next, commit_place, steps_from, gap_from}
use Rattle.dk_paths.specs.Names.{commit_path}
use Rattle.dk_paths.specs.Places.{Place}
use Rattle.dk_listing.specs.declared.catalogued.Catalogued.{Catalogued}
use Rattle.dk_listing.specs.OfEvents.{IsListingOf}
use Rattle.dk_listing.specs.Presence.{lists, ratified_name}
use Rattle.dk_listing.specs.Sizes.{listed_size, stored_size}
use Rattle.dk_segment.specs.Walked.{walked, unless_absent}
use Rattle.dk_segment.proofs.Agree.{walked_standing}
use Rattle.dk_snapshot.specs.Steps.{AreSized, commit_at_path, step_path}
use Rattle.dk_snapshot.proofs.Segments.{walked_sized}
use Rattle.dk_snapshot.proofs.StepReads.{size_of_step}
use Rattle.dk_txn.specs.Winners.{Since, Own, Others, before_later_commits, winner, since_steps, sources, conflict_after}
use Rattle.dk_txn.specs.Transactions.{At_own, After, Reached, come_to}

-- ---- from where they are read

pub sources_found : (listing : Catalogued) (first count : ℕ) (found : List Step) (sizes : List (Option ℕ)) → first + count ≤ 2 ^ 63
    → walked (commit_place (lists listing) (ratified_name listing) false) first count ≡ Ok found → sizes ≡ map (λ (step : Step). listed_size listing (step_path step)) found
    → (events : List Told) → IsListingOf events listing → (sources events first count ≡ Ok found) × AreSized events found sizes
sources_found listing first count found sizes small walks sized events is =
    (sym (walked_standing events listing is false first count small) ∙ walks, sized ∙ walked_sized events listing is (lists listing) (ratified_name listing) false first count found walks)

pub sources_refused : (listing : Catalogued) (first count : ℕ) (refusal : Refusal) → first + count ≤ 2 ^ 63
    → Refuses refusal (walked (commit_place (lists listing) (ratified_name listing) false) first count)
    → (events : List Told) → IsListingOf events listing → Refuses refusal (sources events first count)
sources_refused listing first count refusal small refuses events is =
    subst (λ (meant : Result (List Step) Refusal). Refuses refusal meant) (walked_standing events listing is false first count small) refuses

steps_most : (place_at : ℕ → Option Place) (version count : ℕ) → length (steps_from place_at version count) ≤ count
unfolding steps_from
steps_most place_at version zero = omega arith
steps_most place_at version (suc count) = by (place_at version) (steps_most place_at (suc version) count)
  where
    by : (place : Option Place) → length (steps_from place_at (suc version) count) ≤ count → length (before_next version place (steps_from place_at (suc version) count)) ≤ suc count
    by None most = omega arith
    by (Some place) most = omega (arith, most)

-- there are at most as many as versions
pub walked_most : (place_at : ℕ → Option Place) (first count : ℕ) (found : List Step) → walked place_at first count ≡ Ok found → length found ≤ count
walked_most place_at first count found walks = by (gap_from place_at first count) walks
  where
    by : (gap : Option ℕ) → unless_absent (steps_from place_at first count) gap ≡ Ok found → length found ≤ count
    by None is =
        let same : steps_from place_at first count ≡ found = cc in
        subst (λ (s : List Step). length s ≤ count) same (steps_most place_at first count)
    by (Some version) is = absurd (let no : ◌≡◌ {A = Result (List Step) Refusal} (Err (refusals.Missing (commit_path version))) (Ok found) = is in cc)

-- ---- one winner

first_joined : (first : Option (ℕ × Kind)) (version : ℕ) (kind : Option Kind) (later : Option (ℕ × Kind))
    → option_or first (first_in_the_way version kind later) ≡ option_or (option_or first (first_in_the_way version kind None)) later
first_joined (Some conflict) version kind later = refl
first_joined None version (Some k) later = refl
first_joined None version None later = refl

module _ (reads : Reads) (own : List Action) where
  others_come : (version : ℕ) (state : TableState) (first : Option (ℕ × Kind)) (commit : List Action) (later : Result Since Refusal)
      → come_to reads own version state first (before_later_commits commit later)
      ≡ come_to reads own (version + 1) (steps state commit) (option_or first (first_in_the_way version (kind_of reads own commit) None)) later
  others_come version state first commit (Err refusal) = refl
  others_come version state first commit (Ok (Own at)) = refl
  others_come version state first commit (Ok (Others winners)) =
      ap (λ (c : Option (ℕ × Kind)). Ok (After (steps_of_all (steps state commit) winners) c)) (first_joined first version (kind_of reads own commit) (conflict_after reads own (steps state commit) (version + 1) winners))

  -- a commit of another, and what comes later
  other_comes : (id : List ℕ) (version : ℕ) (state : TableState) (first : Option (ℕ × Kind)) (commit : List Action) (later : Result Since Refusal) → list_any (says id) commit ≡ false
      → come_to reads own version state first (winner id version (Ok commit) later)
      ≡ come_to reads own (version + 1) (steps state commit) (option_or first (first_in_the_way version (kind_of reads own commit) None)) later
  other_comes id version state first commit later is = by (list_any (says id) commit) is
    where
      by : (same : Bool) → same ≡ false → come_to reads own version state first (if same then Ok (Own version) else before_later_commits commit later)
          ≡ come_to reads own (version + 1) (steps state commit) (option_or first (first_in_the_way version (kind_of reads own commit) None)) later
      by true said = absurd (true≢false said)
      by false said = others_come version state first commit later

  -- the own commit ends the reading
  own_comes : (id : List ℕ) (version : ℕ) (state : TableState) (first : Option (ℕ × Kind)) (commit : List Action) (later : Result Since Refusal) → list_any (says id) commit ≡ true
      → come_to reads own version state first (winner id version (Ok commit) later) ≡ Ok (At_own version)
  own_comes id version state first commit later is = by (list_any (says id) commit) is
    where
      by : (same : Bool) → same ≡ true → come_to reads own version state first (if same then Ok (Own version) else before_later_commits commit later) ≡ Ok (At_own version)
      by true said = refl
      by false said = absurd (true≢false (sym said))

-- ---- what is left to read

-- what was read comes, with what is left, to what the whole comes to
abbrev pub IsLeft : List Told → ℕ → List ℕ → Reads → List Action → ℕ → List Step → TableState → ℕ → TableState → Option (ℕ × Kind) → Type 0
IsLeft events limit id reads own first found start place state conflict =
    come_to reads own first start None (since_steps events limit id first found) ≡ come_to reads own (first + place) state conflict (since_steps events limit id (first + place) (drop place found))

abbrev pub LeftToRead : Option (List Told) → ℕ → List ℕ → Claims → ℕ → List Step → List (Option ℕ) → TableState → ℕ → TableState → Option (ℕ × Kind) → Type 0
LeftToRead told limit id claims first found sizes start place state conflict =
    (reads : Reads) (own : List Action) → AreClaims claims reads own → IfSome told (λ events. AreSized events found sizes → IsLeft events limit id reads own first found start place state conflict)

pub read_none : (told : Option (List Told)) (limit : ℕ) (id : List ℕ) (claims : Claims) (first : ℕ) (found : List Step) (sizes : List (Option ℕ)) (start : TableState) → LeftToRead told limit id claims first found sizes start 0 start None
read_none None limit id claims first found sizes start = λ reads own are. tt
read_none (Some events) limit id claims first found sizes start = λ reads own are sized.
    let same : first ≡ first + 0 = omega arith in
    ap (λ (v : ℕ). come_to reads own v start None (since_steps events limit id v found)) same

-- the step at a place is the first that is left
next_left : (events : List Told) (limit : ℕ) (id : List ℕ) (version : ℕ) (found : List Step) (place : ℕ) (step : Step) → place < length found → step ≡ get_or found place step
    → since_steps events limit id version (drop place found) ≡ winner id version (commit_at_path events limit (step_path step)) (since_steps events limit id (version + 1) (drop (place + 1) found))
next_left events limit id version found place step less is =
    let ahead : drop place found ≡ step ∷ drop (place + 1) found = drop-cons found place step less ∙ ap₂ (λ (s : Step) (n : ℕ). s ∷ drop n found) (sym is) (sym (add-one place)) in
    ap (since_steps events limit id version) ahead

module _ (limit : ℕ) (id : List ℕ) (claims : Claims) (first : ℕ) (found : List Step) (sizes : List (Option ℕ)) (start : TableState) (place : ℕ) (step : Step) (size : Option ℕ) (state : TableState) (conflict : Option (ℕ × Kind))
    (less : place < length found) (is : step ≡ get_or found place step) (known : size ≡ option_and_then (λ (s : Option ℕ). s) (slice_get sizes place)) where
  abbrev Left : Option (List Told) → Type 0
  Left told = LeftToRead told limit id claims first found sizes start place state conflict

  abbrev Reads_as : List Told → List Action → Type 0
  Reads_as events commit = size ≡ stored_size events (step_path step) → commit_at_path events limit (step_path step) ≡ Ok commit

  -- what is left, by the meaning of its first commit
  left_with : (events : List Told) (reads : Reads) (own : List Action) (meant : Result (List Action) Refusal) → commit_at_path events limit (step_path step) ≡ meant
      → IsLeft events limit id reads own first found start place state conflict
      → come_to reads own first start None (since_steps events limit id first found)
      ≡ come_to reads own (first + place) state conflict (winner id (first + place) meant (since_steps events limit id (first + place + 1) (drop (place + 1) found)))
  left_with events reads own meant means left =
      left ∙ ap (come_to reads own (first + place) state conflict)
      (next_left events limit id (first + place) found place step less is
      ∙ ap (λ (m : Result (List Action) Refusal). winner id (first + place) m (since_steps events limit id (first + place + 1) (drop (place + 1) found))) means)

  pub read_more : (told mid : Option (List Told)) (commit : List Action) (newer : TableState) (newer_conflict : Option (ℕ × Kind)) → mid ≡ told → list_any (says id) commit ≡ false → newer ≡ steps state commit
      → ((reads : Reads) (own : List Action) → AreClaims claims reads own → newer_conflict ≡ option_or conflict (first_in_the_way (first + place) (kind_of reads own commit) None))
      → Left told → IfSome mid (λ events. Reads_as events commit) → LeftToRead told limit id claims first found sizes start (place + 1) newer newer_conflict
  read_more None mid commit newer newer_conflict same others state_is conflict_is left here = λ reads own are. tt
  read_more (Some events) mid commit newer newer_conflict same others state_is conflict_is left here = λ reads own are sized.
      let read : Reads_as events commit = rw same at here in
      let means : commit_at_path events limit (step_path step) ≡ Ok commit = read (known ∙ size_of_step events found sizes place step less is sized) in
      let ahead : first + place + 1 ≡ first + (place + 1) = omega arith in
      let later : Result Since Refusal = since_steps events limit id (first + place + 1) (drop (place + 1) found) in
      left_with events reads own (Ok commit) means (left reads own are sized)
      ∙ other_comes reads own id (first + place) state conflict commit later others
      ∙ ap₂ (λ (s : TableState) (c : Option (ℕ × Kind)). come_to reads own (first + place + 1) s c later) (sym state_is) (sym (conflict_is reads own are))
      ∙ ap (λ (v : ℕ). come_to reads own v newer newer_conflict (since_steps events limit id v (drop (place + 1) found))) ahead

  pub read_own : (told mid : Option (List Told)) (commit : List Action) → mid ≡ told → list_any (says id) commit ≡ true → Left told → IfSome mid (λ events. Reads_as events commit)
      → (reads : Reads) (own : List Action) → AreClaims claims reads own
      → IfSome told (λ events. AreSized events found sizes → come_to reads own first start None (since_steps events limit id first found) ≡ Ok (At_own (first + place)))
  read_own None mid commit same said left here = λ reads own are. tt
  read_own (Some events) mid commit same said left here = λ reads own are sized.
      let read : Reads_as events commit = rw same at here in
      let means : commit_at_path events limit (step_path step) ≡ Ok commit = read (known ∙ size_of_step events found sizes place step less is sized) in
      left_with events reads own (Ok commit) means (left reads own are sized)
      ∙ own_comes reads own id (first + place) state conflict commit (since_steps events limit id (first + place + 1) (drop (place + 1) found)) said

  pub read_stop : (told mid : Option (List Told)) (refusal : Refusal) → mid ≡ told → Left told
      → IfSome mid (λ events. size ≡ stored_size events (step_path step) → Refuses refusal (commit_at_path events limit (step_path step)))
      → (reads : Reads) (own : List Action) → AreClaims claims reads own
      → IfSome told (λ events. AreSized events found sizes → Refuses refusal (come_to reads own first start None (since_steps events limit id first found)))
  read_stop None mid refusal same left here = λ reads own are. tt
  read_stop (Some events) mid refusal same left here = λ reads own are sized.
      let refused : size ≡ stored_size events (step_path step) → Refuses refusal (commit_at_path events limit (step_path step)) = rw same at here in
      let later : Result Since Refusal = since_steps events limit id (first + place + 1) (drop (place + 1) found) in
      subst (λ (meant : Result Reached Refusal). Refuses refusal meant)
      (sym (left_with events reads own (commit_at_path events limit (step_path step)) refl (left reads own are sized)))
      (refused_by_part (λ (meant : Result (List Action) Refusal). come_to reads own (first + place) state conflict (winner id (first + place) meant later)) (λ r. refl) refusal (commit_at_path events limit (step_path step))
      (refused (known ∙ size_of_step events found sizes place step less is sized)))

or_none : (conflict : Option (ℕ × Kind)) → option_or conflict None ≡ conflict
or_none None = refl
or_none (Some c) = refl

-- all are read
pub read_all : (told : Option (List Told)) (limit : ℕ) (id : List ℕ) (claims : Claims) (first : ℕ) (found : List Step) (sizes : List (Option ℕ)) (start : TableState) (place : ℕ) (state : TableState) (conflict : Option (ℕ × Kind)) → place ≡ length found
    → LeftToRead told limit id claims first found sizes start place state conflict
    → (reads : Reads) (own : List Action) → AreClaims claims reads own
    → IfSome told (λ events. AreSized events found sizes → come_to reads own first start None (since_steps events limit id first found) ≡ Ok (After state conflict))
read_all None limit id claims first found sizes start place state conflict all left = λ reads own are. tt
read_all (Some events) limit id claims first found sizes start place state conflict all left = λ reads own are sized.
    let none : drop place found ≡ [] = ap (λ (n : ℕ). drop n found) all ∙ drop-length found in
    left reads own are sized ∙ ap (λ (rest : List Step). come_to reads own (first + place) state conflict (since_steps events limit id (first + place) rest)) none
    ∙ ap (λ (c : Option (ℕ × Kind)). Ok (After state c)) (or_none conflict)
