-- On a lawful log the winners are the commits of the history, and the own commit among them is the one that the history has.
use Rattle.std.proofs.Common.{◌≡◌, ℕ, zero, suc, ℤ, ◌+◌, ◌<◌, ◌≤◌, ◌^◌, Bool, true, false, true≢false, List, [], ◌∷◌, length, drop, map, refl, ap, ap₂, sym, subst, ◌∙◌, arith, add-one, inl, inr, if◌then◌else◌}
use Rattle.std.proofs.lemmas.Option.{slice_get_within}
use Rattle.std.specs.Prelude.{Option, Some, None, Result, Ok, Err, slice_get, is_some}
use Rattle.std.specs.List.{list_any}
use Rattle.std.proofs.lemmas.Bool.{cases_lt}
use Rattle.dk_store.specs.Told.{Told}
use Rattle.dk_store.specs.Objects.{content}
use Rattle.dk_model.specs.declared.action.Action.{Action}
use Rattle.dk_model.specs.CommitText.{reading_of, commit_in as actions_in}
use Rattle.dk_paths.specs.Places.{Place, place_path}
use Rattle.dk_paths.specs.Names.{commit_path}
use Rattle.dk_engine.specs.declared.refusal.Refusal.{Refusal}
use Rattle.dk_engine.specs.declared.refusal.Refusal.TheVariants as refusals
use Rattle.dk_lawful.specs.History.{RatifiedCommit, history, commits_of, next_version}
use Rattle.dk_lawful.specs.Ids.{says, HasId}
use Rattle.dk_lawful.specs.Lawful.{Lawful}
use Rattle.dk_lawful.specs.Segments.{before_later as before_next, steps_from, gap_from}
use Rattle.dk_lawful.proofs.CommitPlaces.{history_small, placed_commit_is_history}
use Rattle.dk_lawful.proofs.Lists.{slice_get-map}
use Rattle.dk_lawful.proofs.Sound.{length_commits}
use Rattle.dk_listing.specs.OfEvents.{stands_at}
use Rattle.dk_listing.specs.Sizes.{stored_size}
use Rattle.dk_snapshot.specs.Log.{commit_of_object, meant}
use Rattle.dk_snapshot.specs.Steps.{commit_at_path, fits, if_fits}
use Rattle.dk_segment.specs.Walked.{unless_absent}
use Rattle.dk_txn.specs.WinnerLaws.{OthersAreLater, OwnIsHad}
use Rattle.dk_txn.specs.Winners.{commit_at, Since, Own, Others, before_later_commits, winner, since_steps, since_sources, gone, or_gone}

-- ---- one commit

abbrev Failed : {X : Type 0} → Refusal → X → Type 0
Failed {X} refusal x = ◌≡◌ {A = Result X Refusal} (Err refusal) (Ok x)

fits_passes : (fit : Result (Unit {0}) Refusal) (meaning : Result (List Action) Refusal) (commit : List Action) → if_fits fit meaning ≡ Ok commit → meaning ≡ Ok commit
fits_passes (Ok u) meaning commit is = is
fits_passes (Err refusal) meaning commit is = absurd (let no : ◌≡◌ {A = Result (List Action) Refusal} (Err refusal) (Ok commit) = is in cc)

bytes_mean : (path bytes : List ℕ) (read : Result (List Action) ℕ) (commit : List Action) → meant path read ≡ Ok commit → actions_in read ≡ Some commit
bytes_mean path bytes (Ok actions) commit is = let same : ◌≡◌ {A = Result (List Action) Refusal} (Ok actions) (Ok commit) = is in cc
bytes_mean path bytes (Err line) commit is = absurd (let no : ◌≡◌ {A = Result (List Action) Refusal} (meant path (Err line)) (Ok commit) = is in cc)

module _ (events : List Told) (horizon : ℤ) (lawful : Lawful events horizon) (limit : ℕ) (id : List ℕ) where
  abbrev commits : List (List Action)
  commits = commits_of (history events)

  -- a commit that is read by itself is the history's
  commit_is : (version : ℕ) (place : Place) (commit : List Action) → version < 2 ^ 63 → commit_at events version ≡ Some place → commit_at_path events limit (place_path place) ≡ Ok commit → slice_get commits version ≡ Some commit
  commit_is version place commit small is means =
      by (content events (place_path place)) refl (fits_passes (fits limit (stored_size events (place_path place))) (commit_of_object (place_path place) (content events (place_path place))) commit means)
    where
      by : (found : Option (List ℕ)) → content events (place_path place) ≡ found → commit_of_object (place_path place) found ≡ Ok commit → slice_get commits version ≡ Some commit
      by None held reads = absurd (let no : ◌≡◌ {A = Result (List Action) Refusal} (commit_of_object (place_path place) None) (Ok commit) = reads in cc)
      by (Some bytes) held reads = sym (placed_commit_is_history events horizon lawful (stands_at events) false version place bytes small is held) ∙ bytes_mean (place_path place) bytes (reading_of bytes) commit reads

  -- ---- the winners

  -- they stand in the history from that version on, and none says the id
  abbrev pub IsRun : ℕ → List (List Action) → Type 0
  IsRun version [] = Unit {0}
  IsRun version (commit ∷ later) = (slice_get commits version ≡ Some commit) × (list_any (says id) commit ≡ false) × IsRun (suc version) later

  pub record IsRunOf (version count : ℕ) (winners : List (List Action)) : Type 0 where
    pub run : IsRun version winners
    pub many : length winners ≡ count

  -- what comes of one version, by what its commit means and by what comes later
  module _ (version : ℕ) (place : Place) (small : version < 2 ^ 63) (there : commit_at events version ≡ Some place) where
    others_from : (commit : List Action) (said : Bool) (later : Result Since Refusal) (winners : List (List Action)) (count : ℕ) → slice_get commits version ≡ Some commit → list_any (says id) commit ≡ said
        → ((rest : List (List Action)) → later ≡ Ok (Others rest) → IsRunOf (suc version) count rest)
        → (if said then Ok (Own version) else before_later_commits commit later) ≡ Ok (Others winners) → IsRunOf version (suc count) winners
    others_from commit true later winners count stands says_it go is = absurd (let no : ◌≡◌ {A = Result Since Refusal} (Ok (Own version)) (Ok (Others winners)) = is in cc)
    others_from commit false (Err refusal) winners count stands says_it go is = absurd (let no : ◌≡◌ {A = Result Since Refusal} (Err refusal) (Ok (Others winners)) = is in cc)
    others_from commit false (Ok (Own other)) winners count stands says_it go is = absurd (let no : ◌≡◌ {A = Result Since Refusal} (Ok (Own other)) (Ok (Others winners)) = is in cc)
    others_from commit false (Ok (Others rest)) winners count stands says_it go is =
        let same : commit ∷ rest ≡ winners = (let both : ◌≡◌ {A = Result Since Refusal} (Ok (Others (commit ∷ rest))) (Ok (Others winners)) = is in cc) in
        let behind : IsRunOf (suc version) count rest = go rest refl in
        subst (IsRunOf version (suc count)) same (record { run = (stands, says_it, behind.run); many = ap suc behind.many })

    winner_from : (read : Result (List Action) Refusal) (later : Result Since Refusal) (winners : List (List Action)) (count : ℕ) → commit_at_path events limit (place_path place) ≡ read
        → ((rest : List (List Action)) → later ≡ Ok (Others rest) → IsRunOf (suc version) count rest)
        → winner id version read later ≡ Ok (Others winners) → IsRunOf version (suc count) winners
    winner_from (Err refusal) later winners count means go is = absurd (let no : ◌≡◌ {A = Result Since Refusal} (Err refusal) (Ok (Others winners)) = is in cc)
    winner_from (Ok commit) later winners count means go is =
        others_from commit (list_any (says id) commit) later winners count (commit_is version place commit small there means) refl go is

  -- the winners of so many versions are a run of the history
  pub run_of : (count version : ℕ) (winners : List (List Action)) → version + count ≤ 2 ^ 63 → gap_from (commit_at events) version count ≡ None
      → since_steps events limit id version (steps_from (commit_at events) version count) ≡ Ok (Others winners) → IsRunOf version count winners
  unfolding steps_from gap_from
  run_of zero version winners small none is =
      let same : [] ≡ winners = (let both : ◌≡◌ {A = Result Since Refusal} (Ok (Others [])) (Ok (Others winners)) = is in cc) in
      subst (IsRunOf version 0) same (record { run = tt; many = refl })
  run_of (suc count) version winners small none is =
      by (commit_at events version) refl none is (λ later rest. run_of count (suc version) later (omega arith) rest)
    where
      by : (place : Option Place) → commit_at events version ≡ place → (if is_some place then gap_from (commit_at events) (suc version) count else Some version) ≡ None
          → since_steps events limit id version (before_next version place (steps_from (commit_at events) (suc version) count)) ≡ Ok (Others winners)
          → ((later : List (List Action)) → gap_from (commit_at events) (suc version) count ≡ None → since_steps events limit id (suc version) (steps_from (commit_at events) (suc version) count) ≡ Ok (Others later) → IsRunOf (suc version) count later)
          → IsRunOf version (suc count) winners
      by None there gap found go = absurd (let no : ◌≡◌ {A = Option ℕ} (Some version) None = gap in cc)
      by (Some place) there gap found go =
          let next : version + 1 ≡ suc version = add-one version in
          winner_from version place (omega (arith, small)) there (commit_at_path events limit (place_path place)) (since_steps events limit id (version + 1) (steps_from (commit_at events) (suc version) count)) winners count refl
          (λ rest is_rest. go rest gap (ap (λ (v : ℕ). since_steps events limit id v (steps_from (commit_at events) (suc version) count)) (sym next) ∙ is_rest)) found

-- ---- a run up to the end is all that is left

none_left : {X : Type 0} (xs : List X) (count : ℕ) → length xs ≤ count → drop count xs ≡ []
none_left [] zero most = refl
none_left [] (suc count) most = refl
none_left (x ∷ xs) zero most = absurd (omega arith)
none_left (x ∷ xs) (suc count) most = none_left xs count (omega arith)

run_is_rest : {X : Type 0} (xs : List X) (version : ℕ) (x : X) (rest : List X) → slice_get xs version ≡ Some x → drop (suc version) xs ≡ rest → drop version xs ≡ x ∷ rest
run_is_rest {X} [] version x rest is later = absurd (let no : ◌≡◌ {A = Option X} None (Some x) = is in cc)
run_is_rest {X} (y ∷ ys) zero x rest is later = let same : y ≡ x = (let both : ◌≡◌ {A = Option X} (Some y) (Some x) = is in cc) in ap₂ (λ (a : X) (more : List X). a ∷ more) same later
run_is_rest (y ∷ ys) (suc version) x rest is later = run_is_rest ys version x rest is later

-- an element of a list of images is the image of the element there
mapped_back : {X Y : Type 0} (f : X → Y) (xs : List X) (place : ℕ) (y : Y) → slice_get (map f xs) place ≡ Some y → (x : X) × (slice_get xs place ≡ Some x) × (f x ≡ y)
mapped_back {X} {Y} f [] place y is = absurd (let no : ◌≡◌ {A = Option Y} None (Some y) = is in cc)
mapped_back {X} {Y} f (x ∷ xs) zero y is = (x, refl, (let both : ◌≡◌ {A = Option Y} (Some (f x)) (Some y) = is in cc))
mapped_back f (x ∷ xs) (suc place) y is = mapped_back f xs place y is

module _ (events : List Told) (horizon : ℤ) (lawful : Lawful events horizon) (limit : ℕ) (id : List ℕ) where
  abbrev all_commits : List (List Action)
  all_commits = commits_of (history events)

  run_rest : (winners : List (List Action)) (version : ℕ) → IsRun events horizon lawful limit id version winners → version + length winners ≡ length all_commits → drop version all_commits ≡ winners
  run_rest [] version run long = none_left all_commits version (omega (arith, long))
  run_rest (commit ∷ later) version run long = run_is_rest all_commits version commit later run.0 (run_rest later (suc version) run.2 (omega (arith, long)))

  actions_at : (version : ℕ) (ratified : RatifiedCommit) (commit : List Action) → slice_get (history events) version ≡ Some ratified → slice_get all_commits version ≡ Some commit → ratified.actions ≡ commit
  actions_at version ratified commit had stands =
      let both : ◌≡◌ {A = Option (List Action)} (Some ratified.actions) (Some commit) = sym (slice_get-map (λ (c : RatifiedCommit). c.actions) (history events) version ratified had) ∙ stands in cc

  run_says_not : (winners : List (List Action)) (version at : ℕ) → IsRun events horizon lawful limit id version winners → version ≤ at → at < version + length winners → HasId (history events) at id → ⊥
  run_says_not [] version at run low high has = omega (arith, low, high)
  run_says_not (commit ∷ later) version at run low high (ratified, had, says_it) = elim (cases_lt version at) [
    | inl above ↦ run_says_not later (suc version) at run.2 (omega arith) (omega (arith, high)) (ratified, had, says_it)
    | inr most ↦
        let same : at ≡ version = omega (arith, low, most) in
        let actions : ratified.actions ≡ commit = actions_at version ratified commit (ap (λ (v : ℕ). slice_get (history events) v) (sym same) ∙ had) run.0 in
        true≢false (sym says_it ∙ ap (list_any (says id)) actions ∙ run.1)
  ]

  has_of : (version : ℕ) (commit : List Action) → slice_get all_commits version ≡ Some commit → list_any (says id) commit ≡ true → HasId (history events) version id
  has_of version commit stands says_it =
      let (ratified, had, actions) = mapped_back (λ (c : RatifiedCommit). c.actions) (history events) version commit stands in
      (ratified, had, ap (list_any (says id)) actions ∙ says_it)

  -- the own commit that ends the reading
  own_later : (commit : List Action) (later : Result Since Refusal) (at : ℕ) → before_later_commits commit later ≡ Ok (Own at) → later ≡ Ok (Own at)
  own_later commit (Ok (Own version)) at is = is
  own_later commit (Ok (Others rest)) at is = absurd (let no : ◌≡◌ {A = Result Since Refusal} (Ok (Others (commit ∷ rest))) (Ok (Own at)) = is in cc)
  own_later commit (Err refusal) at is = is

  abbrev IsOwn : ℕ → ℕ → Type 0
  IsOwn version at = (version ≤ at) × HasId (history events) at id

  one_later : (version at : ℕ) → IsOwn (suc version) at → IsOwn version at
  one_later version at own = ((let low = own.0 in omega arith), own.1)

  own_said : (version at : ℕ) (commit : List Action) (said : Bool) (later : Result Since Refusal) → slice_get all_commits version ≡ Some commit → list_any (says id) commit ≡ said
      → (later ≡ Ok (Own at) → IsOwn (suc version) at) → (if said then Ok (Own version) else before_later_commits commit later) ≡ Ok (Own at) → IsOwn version at
  own_said version at commit true later stands says_it go is =
      let same : version ≡ at = (let both : ◌≡◌ {A = Result Since Refusal} (Ok (Own version)) (Ok (Own at)) = is in cc) in
      ((omega (arith, same)), subst (λ (v : ℕ). HasId (history events) v id) same (has_of version commit stands says_it))
  own_said version at commit false later stands says_it go is = one_later version at (go (own_later commit later at is))

  own_from : (version at : ℕ) (place : Place) (small : version < 2 ^ 63) (there : commit_at events version ≡ Some place) (read : Result (List Action) Refusal) (later : Result Since Refusal) → commit_at_path events limit (place_path place) ≡ read
      → (later ≡ Ok (Own at) → IsOwn (suc version) at) → winner id version read later ≡ Ok (Own at) → IsOwn version at
  own_from version at place small there (Err refusal) later means go is = absurd (let no : ◌≡◌ {A = Result Since Refusal} (Err refusal) (Ok (Own at)) = is in cc)
  own_from version at place small there (Ok commit) later means go is =
      own_said version at commit (list_any (says id) commit) later (commit_is events horizon lawful limit id version place commit small there means) refl go is

  own_of : (count version at : ℕ) → version + count ≤ 2 ^ 63 → gap_from (commit_at events) version count ≡ None
      → since_steps events limit id version (steps_from (commit_at events) version count) ≡ Ok (Own at) → IsOwn version at
  unfolding steps_from gap_from
  own_of zero version at small none is = absurd (let no : ◌≡◌ {A = Result Since Refusal} (Ok (Others [])) (Ok (Own at)) = is in cc)
  own_of (suc count) version at small none is = by (commit_at events version) refl none is (λ rest. own_of count (suc version) at (omega arith) rest)
    where
      by : (place : Option Place) → commit_at events version ≡ place → (if is_some place then gap_from (commit_at events) (suc version) count else Some version) ≡ None
          → since_steps events limit id version (before_next version place (steps_from (commit_at events) (suc version) count)) ≡ Ok (Own at)
          → (gap_from (commit_at events) (suc version) count ≡ None → since_steps events limit id (suc version) (steps_from (commit_at events) (suc version) count) ≡ Ok (Own at) → IsOwn (suc version) at)
          → IsOwn version at
      by None there gap found go = absurd (let no : ◌≡◌ {A = Option ℕ} (Some version) None = gap in cc)
      by (Some place) there gap found go =
          let next : version + 1 ≡ suc version = add-one version in
          own_from version at place (omega (arith, small)) there (commit_at_path events limit (place_path place)) (since_steps events limit id (version + 1) (steps_from (commit_at events) (suc version) count)) refl
          (λ is_own. go gap (ap (λ (v : ℕ). since_steps events limit id v (steps_from (commit_at events) (suc version) count)) (sym next) ∙ is_own)) found

  -- ---- what came since

  small_next : (first count : ℕ) → first + count ≡ next_version events → first + count ≤ 2 ^ 63
  small_next first zero is = by (next_version events) refl
    where
      by : (next : ℕ) → next_version events ≡ next → first + 0 ≤ 2 ^ 63
      by zero none = omega (arith, is, none)
      by (suc last) some = let below = history_small events horizon lawful last (omega (arith, some)) in omega (arith, is, some, below)
  small_next first (suc count) is = let below = history_small events horizon lawful (first + count) (omega (arith, is)) in omega (arith, below)

  in_gap : (count first : ℕ) (gap : Option ℕ) (found : Since) → gap_from (commit_at events) first count ≡ gap
      → or_gone (since_sources events limit id first (unless_absent (steps_from (commit_at events) first count) gap)) ≡ Ok found
      → (gap_from (commit_at events) first count ≡ None) × (since_steps events limit id first (steps_from (commit_at events) first count) ≡ Ok found)
  in_gap count first (Some version) found is_gap is = absurd (let no : ◌≡◌ {A = Result Since Refusal} (Err (gone (refusals.Missing (commit_path version)))) (Ok found) = is in cc)
  in_gap count first None found is_gap is = (is_gap, not_gone (since_steps events limit id first (steps_from (commit_at events) first count)) is)
    where
      not_gone : (meant : Result Since Refusal) → or_gone meant ≡ Ok found → meant ≡ Ok found
      not_gone (Ok same) is_found = is_found
      not_gone (Err refusal) is_found = absurd (let no : ◌≡◌ {A = Result Since Refusal} (Err (gone refusal)) (Ok found) = is_found in cc)

pub others_are_later : OthersAreLater
others_are_later events horizon lawful limit id first count winners last is =
    let (none, steps) = in_gap events horizon lawful limit id count first (gap_from (commit_at events) first count) (Others winners) refl is in
    let run = run_of events horizon lawful limit id count first winners (small_next events horizon lawful limit id first count last) none steps in
    let long = length_commits (history events) in
    let many = run.many in
    record {
      all = sym (run_rest events horizon lawful limit id winners first run.run (omega (arith, many, last, long)));
      none_own = λ version low has. run_says_not events horizon lawful limit id winners first version run.run low
          (let below = slice_get_within (history events) version has.0 has.1 in omega (arith, many, last, below)) has;
    }

pub own_is_had : OwnIsHad
own_is_had events horizon lawful limit id first count version last is =
    let (none, steps) = in_gap events horizon lawful limit id count first (gap_from (commit_at events) first count) (Own version) refl is in
    own_of events horizon lawful limit id count first version (small_next events horizon lawful limit id first count last) none steps
