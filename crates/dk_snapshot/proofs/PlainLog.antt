-- Over a log of commits, where no later version stands ratified and no checkpoint is of one, a version is the fold of the commits up to it.
use Rattle.std.proofs.Common.{◌≡◌, ℕ, ℤ, suc, zero, ◌+◌, ◌-◌, ◌<◌, ◌≤◌, ◌^◌, List, [], ◌∷◌, ◌++◌, length, take, get_or, map, refl, ap, ap₂, sym, subst, ◌∙◌, Bool, true, false, true≢false, arith, codes, inl, inr, eq-eqb}
use Rattle.std.specs.Prelude.{Option, Some, None, Result, Ok, Err, IfSome, nat_le, nat_lt, max, ◌==◌, ◌&&◌, option_map, is_some, if◌then◌else◌}
use Rattle.std.specs.Option.{option_or}
use Rattle.std.specs.List.{AllByRecursion, fold, filter_map, cons_option}
use Rattle.std.proofs.lemmas.Bool.{le-leb, cases_lt}
use Rattle.std.proofs.lemmas.Bool.Decides.{nat_tests}
use Rattle.std.proofs.Math.Seq.{take-suc}
use Rattle.std.proofs.lemmas.List.Elements.{recursion_from_All}
use Rattle.std.proofs.lemmas.Option.{slice_get-get_or}
use Rattle.dk_store.specs.Told.{Told, Listed}
use Rattle.dk_store.specs.Listing.{listing}
use Rattle.dk_store.specs.Objects.{content}
use Rattle.dk_store.specs.Standings.{standing, ratified_from}
use Rattle.dk_paths.specs.declared.log_name.LogName.{LogName}
use Rattle.dk_paths.specs.declared.log_name.LogName.TheVariants as names
use Rattle.dk_paths.specs.Names.{commit_path, log_name_of}
use Rattle.dk_paths.specs.Places.{Place, Commit_at}
use Rattle.dk_paths.proofs.Meanings.{named_commit}
use Rattle.dk_model.specs.declared.action.Action.{Action}
use Rattle.dk_model.specs.State as states
use Rattle.dk_lawful.specs.declared.segment.Choice.{Choice}
use Rattle.dk_lawful.specs.declared.segment.Segment.{Segment}
use Rattle.dk_lawful.specs.declared.segment.Step.{Step}
use Rattle.dk_lawful.specs.declared.segment.Step.TheVariants as steps
use Rattle.dk_lawful.specs.Segments.{staged_at, commit_place, steps_from, gap_from, commit_segment}
use Rattle.dk_lawful.proofs.SegmentSteps.{all_there, steps_none, steps_last}
use Rattle.dk_engine.specs.declared.limits.Limits.{Limits}
use Rattle.dk_engine.specs.declared.refusal.Refusal.{Refusal}
use Rattle.dk_engine.specs.declared.refusal.Refusal.TheVariants.{NoVersion}
use Rattle.dk_listing.specs.Entries.{in_log}
use Rattle.dk_listing.specs.Latest.{part_among}
use Rattle.dk_listing.specs.Newest.{later, newest_by, all_up_to, commit_version, complete_version, checkpoint_version}
use Rattle.dk_listing.specs.OfEvents.{stands_at, latest}
use Rattle.dk_listing.specs.Presence.{is_at, name_at}
use Rattle.dk_listing.specs.Sizes.{stored_size}
use Rattle.dk_listing.proofs.LatestOf.{newest_map}
use Rattle.dk_listing.proofs.Standing.{any_filter_map, any_same, passes, commit_listed, name_at_standing}
use Rattle.dk_segment.specs.Chosen.{chosen, unless_gap}
use Rattle.dk_snapshot.specs.Asked.{version_asked, version_at}
use Rattle.dk_snapshot.specs.History.{IsLog, AsksFor, IsVersionBelow, EndsWith, AreCommitsWithin}
use Rattle.dk_snapshot.specs.Log.{newest_behind, commit_of_object}
use Rattle.dk_snapshot.specs.Opening.{state_of_commits, state_read, snapshot_with, opened_chosen, opened_asked, opened}
use Rattle.dk_snapshot.specs.Plan.{commit_stands, greatest_below}
use Rattle.dk_snapshot.specs.Steps.{commit_at_path, commits_of_steps, fits, if_fits, oldest_path}
use Rattle.dk_snapshot.specs.Versions.{greater_so_far, greatest_from}
use Rattle.dk_snapshot.proofs.StepReads.{commits_last}
use Rattle.dk_snapshot.proofs.Greatest.{Has, has_cases, greatest_below-list}
use Rattle.dk_snapshot.proofs.History.{commit_of_object-is, latest_of_log, stands_in}

-- ---- the latest version

later_kept : (count : ℕ) (one other : Option ℕ) → IsVersionBelow count one → IsVersionBelow count other → IsVersionBelow count (later one other)
later_kept count None other a b = b
later_kept count (Some x) None a b = a
later_kept count (Some x) (Some y) a b = omega (arith, a, b)

newest_below : {X : Type 0} (version : X → Option ℕ) (count : ℕ) (best : Option ℕ) (xs : List X) → IsVersionBelow count best → AllByRecursion (λ x. IsVersionBelow count (version x)) xs → IsVersionBelow count (fold (λ best x. later best (version x)) best xs)
newest_below version count best [] so_far all = so_far
newest_below version count best (x ∷ xs) so_far all = newest_below version count (later best (version x)) xs (later_kept count best (version x) so_far all.0) all.1

complete_below : (has : ℕ → ℕ → ℕ → Bool) (count : ℕ) (name : LogName) → IsVersionBelow count (checkpoint_version name) → IsVersionBelow count (complete_version has name)
complete_below has count (names.Commit v) below = tt
complete_below has count (names.Classic v) below = below
complete_below has count (names.Part v part parts) below = by (part == 1 && all_up_to (has v parts) parts)
  where
    by : (all : Bool) → IsVersionBelow count (if all then Some v else None)
    by true = below
    by false = tt
complete_below has count (names.V2Json v id) below = below
complete_below has count (names.V2Parquet v id) below = below
complete_below has count (names.Compacted first last) below = tt
complete_below has count names.Hint below = tt
complete_below has count names.Other below = tt

each_below : (has : ℕ → ℕ → ℕ → Bool) (count : ℕ) (es : List Listed) → AllByRecursion (λ (e : Listed). IsVersionBelow count (checkpoint_version (log_name_of e.name))) es
    → AllByRecursion (λ (e : Listed). IsVersionBelow count (complete_version has (log_name_of e.name))) es
each_below has count [] all = tt
each_below has count (e ∷ es) all = (complete_below has count (log_name_of e.name) all.0, each_below has count es all.1)

-- what isn't later changes no latest version
later_last : (n : ℕ) (o : Option ℕ) → IsVersionBelow (n + 1) o → later (Some n) o ≡ Some n
later_last n None below = refl
later_last n (Some v) below = let same : max n v ≡ n = omega (arith, below) in ap Some same

later_greater : (best : Option ℕ) (v : ℕ) → later best (Some v) ≡ greater_so_far best v
later_greater None v = refl
later_greater (Some b) v = refl

later_same : (best : Option ℕ) → later best None ≡ best
later_same None = refl
later_same (Some b) = refl

newest_greatest : {X : Type 0} (version : X → Option ℕ) (best : Option ℕ) (xs : List X) → fold (λ best x. later best (version x)) best xs ≡ greatest_from best (filter_map version xs)
newest_greatest version best [] = refl
newest_greatest {X} version best (x ∷ xs) = by (version x) (λ b. newest_greatest version b xs)
  where
    by : (o : Option ℕ) → ((b : Option ℕ) → fold (λ best x. later best (version x)) b xs ≡ greatest_from b (filter_map version xs))
        → fold (λ best x. later best (version x)) (later best o) xs ≡ greatest_from best (cons_option o (filter_map version xs))
    by None rest = ap (λ (b : Option ℕ). fold (λ best x. later best (version x)) b xs) (later_same best) ∙ rest best
    by (Some v) rest = ap (λ (b : Option ℕ). fold (λ best x. later best (version x)) b xs) (later_greater best v) ∙ rest (greater_so_far best v)

version_is : (w : ℕ) (name : LogName) → passes (λ (v : ℕ). v == w) (commit_version name) ≡ is_at (Commit_at w) name
version_is w (names.Commit v) = refl
version_is w (names.Classic v) = refl
version_is w (names.Part v part parts) = refl
version_is w (names.V2Json v id) = refl
version_is w (names.V2Parquet v id) = refl
version_is w (names.Compacted first last) = refl
version_is w names.Hint = refl
version_is w names.Other = refl

version_small : (text : List ℕ) (name : LogName) (v : ℕ) → log_name_of text ≡ name → commit_version name ≡ Some v → v < 2 ^ 63
version_small text (names.Commit w) v is found = let same : w ≡ v = cc in subst (λ (n : ℕ). n < 2 ^ 63) same (named_commit text w is).small
version_small text (names.Classic w) v is found = cc
version_small text (names.Part w part parts) v is found = cc
version_small text (names.V2Json w id) v is found = cc
version_small text (names.V2Parquet w id) v is found = cc
version_small text (names.Compacted first last) v is found = cc
version_small text names.Hint v is found = cc
version_small text names.Other v is found = cc

all_small : (es : List Listed) (w : ℕ) → Has (filter_map (λ (e : Listed). commit_version (log_name_of e.name)) es) w → w < 2 ^ 63
all_small [] w has = cc
all_small (e ∷ es) w has = by (commit_version (log_name_of e.name)) refl has (all_small es w)
  where
    by : (o : Option ℕ) → commit_version (log_name_of e.name) ≡ o → Has (cons_option o (filter_map (λ (x : Listed). commit_version (log_name_of x.name)) es)) w
        → (Has (filter_map (λ (x : Listed). commit_version (log_name_of x.name)) es) w → w < 2 ^ 63) → w < 2 ^ 63
    by None is there rest = rest there
    by (Some v) is there rest = elim (has_cases v w (filter_map (λ (x : Listed). commit_version (log_name_of x.name)) es) there) [
      | inl same ↦ subst (λ (n : ℕ). n < 2 ^ 63) same (version_small e.name (log_name_of e.name) v refl is)
      | inr t ↦ rest t
    ]

-- the newest commit that is listed is the greatest version that stands
pub newest_stands : (events : List Told) → newest_by (λ (e : LogName × Listed). commit_version e.0) (map in_log (listing events (codes "_delta_log") [])) ≡ greatest_below (commit_stands events) (2 ^ 63)
newest_stands events =
    let es : List Listed = listing events (codes "_delta_log") [] in
    let version : Listed → Option ℕ = λ (e : Listed). commit_version (log_name_of e.name) in
    newest_map (λ (e : LogName × Listed). commit_version e.0) in_log es
    ∙ newest_greatest version None es
    ∙ sym (greatest_below-list (filter_map version es) (commit_stands events) (2 ^ 63) (all_small es) (λ w less.
    any_filter_map version (λ (v : ℕ). v == w) es
    ∙ any_same (λ (e : Listed). passes (λ (v : ℕ). v == w) (version e)) (λ (e : Listed). is_at (Commit_at w) (log_name_of e.name)) (λ e. version_is w (log_name_of e.name)) es
    ∙ commit_listed events w less))

name_there : (e : ℕ × List ℕ) (es : List (ℕ × List ℕ)) → name_at (e ∷ es) e.0 ≡ Some e.1
name_there e es = rw (eq-eqb e.0 e.0 refl) refl

name_behind : (test : Bool) (name : List ℕ) (later : Option (List ℕ)) → (if test then Some name else later) ≡ None → later ≡ None
name_behind true name later none = absurd (let no : ◌≡◌ {A = Option (List ℕ)} (Some name) None = none in cc)
name_behind false name later none = none

-- what is ratified is below, where nothing later stands ratified
ratified_below : (count : ℕ) (es : List (ℕ × List ℕ)) → ((v : ℕ) → count ≤ v → name_at es v ≡ None) → AllByRecursion (λ (e : ℕ × List ℕ). IsVersionBelow count (Some e.0)) es
ratified_below count [] none = tt
ratified_below count (e ∷ es) none = (
  elim (cases_lt e.0 count) [
    | inl less ↦ less
    | inr past ↦ absurd (let no : ◌≡◌ {A = Option (List ℕ)} (Some e.1) None = sym (name_there e es) ∙ none e.0 past in cc)
  ],
  ratified_below count es (λ v past. name_behind (e.0 == v) e.1 (name_at es v) (none v past)),
)

-- the latest version of a log that ends with its commits
pub latest_is : (events : List Told) (log : List (List Action)) → IsLog events log → EndsWith events (length log) → latest events ≡ Some (length log - 1)
latest_is events log is ends =
    let some : 0 < length log = is.some in
    let back : length log ≡ (length log - 1) + 1 = omega arith in
    let es : List Listed = listing events (codes "_delta_log") [] in
    let has : ℕ → ℕ → ℕ → Bool = part_among (map in_log es) in
    let checkpoints : IsVersionBelow ((length log - 1) + 1) (newest_by (λ (e : LogName × Listed). complete_version has e.0) (map in_log es)) =
    subst (λ (o : Option ℕ). IsVersionBelow ((length log - 1) + 1) o) (sym (newest_map (λ (e : LogName × Listed). complete_version has e.0) in_log es))
    (subst (λ (n : ℕ). IsVersionBelow n (newest_by (λ (e : Listed). complete_version has (log_name_of e.name)) es)) back
    (newest_below (λ (e : Listed). complete_version has (log_name_of e.name)) (length log) None es tt
    (each_below has (length log) es (recursion_from_All (λ (e : Listed). IsVersionBelow (length log) (checkpoint_version (log_name_of e.name))) es ends.checkpoints)))) in
    let ratified : IsVersionBelow ((length log - 1) + 1) (newest_by (λ (r : ℕ × List ℕ). Some r.0) (ratified_from events 0)) =
    subst (λ (n : ℕ). IsVersionBelow n (newest_by (λ (r : ℕ × List ℕ). Some r.0) (ratified_from events 0))) back
    (newest_below (λ (r : ℕ × List ℕ). Some r.0) (length log) None (ratified_from events 0) tt
    (ratified_below (length log) (ratified_from events 0) (λ v past. name_at_standing events v ∙ ends.ratified v past))) in
    let newest : newest_by (λ (e : LogName × Listed). commit_version e.0) (map in_log es) ≡ Some (length log - 1) = newest_stands events ∙ latest_of_log events log is in
    ap (λ (o : Option ℕ). later (later o (newest_by (λ (e : LogName × Listed). complete_version has e.0) (map in_log es))) (newest_by (λ (r : ℕ × List ℕ). Some r.0) (ratified_from events 0))) newest
    ∙ ap (λ (o : Option ℕ). later o (newest_by (λ (r : ℕ × List ℕ). Some r.0) (ratified_from events 0))) (later_last (length log - 1) _ checkpoints)
    ∙ later_last (length log - 1) _ ratified

-- ---- the asked version

if_within : {A : Type 0} (b : Bool) (x y : A) → b ≡ true → (if b then x else y) ≡ x
if_within true x y is = refl
if_within false x y is = absurd (true≢false (sym is))

asked_below : (log : List (List Action)) (version : ℕ) (at : Option ℕ) → AsksFor at log version → version < length log
asked_below log version None asks = omega arith
asked_below log version (Some asked) asks = asks.1

asked_log : (at : Option ℕ) (last : ℕ) (log : List (List Action)) (version : ℕ) → last + 1 ≡ length log → AsksFor at log version → version_at at last ≡ Ok version
asked_log None last log version long asks = let same : last ≡ version = omega arith in ap Ok same
asked_log (Some asked) last log version long (is, below) =
    let least : nat_le asked last ≡ true = le-leb asked last (omega arith) in
    if_within (nat_le asked last) (Ok asked) (Err (NoVersion last)) least ∙ ap Ok (sym is)

-- ---- the segment and its commits

abbrev step_of : ℕ → Step
step_of version = steps.Commit version (commit_path version)

steps_more : (place_at : ℕ → Option Place) (v count : ℕ) → ((w : ℕ) → w < v + suc count → place_at w ≡ Some (Commit_at w)) → steps_from place_at v (suc count) ≡ steps_from place_at v count ++ step_of (v + count) ∷ []
steps_more place_at v count all = steps_last place_at (Commit_at (v + count)) v count (λ w least less. ap (λ (place : Option Place). is_some place) (all w less)) (all (v + count) (omega arith))

fits_within : (limit : ℕ) (size : Option ℕ) → IfSome size (λ s. s ≤ limit) → fits limit size ≡ Ok tt
fits_within limit None within = refl
fits_within limit (Some s) within = let under : nat_lt limit s ≡ false = grind (arith, nat_tests, within) in rw under refl

module _ (events : List Told) (log : List (List Action)) (is : IsLog events log) (limit : ℕ) (within : AreCommitsWithin limit events) where
  abbrev at : ℕ → Option Place
  at = commit_place (stands_at events) (standing events) false

  place_stands : (v : ℕ) → v < length log → at v ≡ Some (Commit_at v)
  place_stands v less = ap (λ (there : Bool). option_or (if there then Some (Commit_at v) else None) (staged_at (stands_at events) (standing events) v)) (stands_in events log is v less)

  commit_reads : (v : ℕ) → v < length log → commit_at_path events limit (commit_path v) ≡ Ok (get_or log v [])
  commit_reads v less =
      ap (λ (fit : Result (Unit {0}) Refusal). if_fits fit (commit_of_object (commit_path v) (content events (commit_path v)))) (fits_within limit (stored_size events (commit_path v)) (within v))
      ∙ commit_of_object-is (commit_path v) (content events (commit_path v)) (get_or log v []) (is.each v less ∙ slice_get-get_or log v [] less)

  log_commits : (count : ℕ) → count ≤ length log → commits_of_steps events limit (steps_from at 0 count) ≡ Ok (take count log)
  log_commits zero most = ap (commits_of_steps events limit) (steps_none at 0)
  log_commits (suc count) most =
      let less : count < length log = omega arith in
      let same : 0 + count ≡ count = omega arith in
      ap (commits_of_steps events limit) (steps_more at 0 count (λ w under. place_stands w (omega arith)) ∙ ap (λ (n : ℕ). steps_from at 0 count ++ step_of n ∷ []) same)
      ∙ commits_last events limit (steps_from at 0 count) (step_of count)
      ∙ ap₂ newest_behind (commit_reads count less) (log_commits count (omega arith))
      ∙ ap Ok (sym (take-suc log count [] less))

  no_gap : (count : ℕ) → count ≤ length log → gap_from at 0 count ≡ None
  no_gap count most = all_there at 0 count (λ w less. ap (λ (place : Option Place). is_some place) (place_stands w (omega arith)))

-- ---- a version of the log

abbrev pub segment_at : List Told → ℕ → Choice → Segment
segment_at events version choice = commit_segment (stands_at events) (standing events) version choice

pub opened_is : (events : List Told) (log : List (List Action)) (limits : Limits) (at : Option ℕ) (choice : Choice) (version : ℕ) (now : ℤ) → choice.staged_first ≡ false → IsLog events log → EndsWith events (length log) → AreCommitsWithin limits.object events → AsksFor at log version
    → opened events limits at choice now
    ≡ snapshot_with version (segment_at events version choice) (state_read (oldest_path (segment_at events version choice)) now (states.fold (take (version + 1) log)))
opened_is events log limits at choice version now published is ends within asks =
    let below : version < length log = asked_below log version at asks in
    let some : 0 < length log = is.some in
    let last : version_asked at (latest events) ≡ Ok version = ap (version_asked at) (latest_is events log is ends) ∙ asked_log at (length log - 1) log version (omega arith) asks in
    let gap : gap_from (commit_place (stands_at events) (standing events) choice.staged_first) 0 (version + 1) ≡ None =
    ap (λ (first : Bool). gap_from (commit_place (stands_at events) (standing events) first) 0 (version + 1)) published ∙ no_gap events log is limits.object within (version + 1) (omega arith) in
    let chooses : chosen (stands_at events) (standing events) version choice ≡ Ok (segment_at events version choice) = ap (λ (g : Option ℕ). unless_gap (segment_at events version choice) (option_map commit_path g)) gap in
    let commits : commits_of_steps events limits.object (segment_at events version choice).steps ≡ Ok (take (version + 1) log) =
    ap (λ (first : Bool). commits_of_steps events limits.object (steps_from (commit_place (stands_at events) (standing events) first) 0 (version + 1))) published ∙ log_commits events log is limits.object within (version + 1) (omega arith) in
    ap (opened_asked events limits choice now) last
    ∙ ap (opened_chosen events limits now version) chooses
    ∙ ap (λ (read : Result (List (List Action)) Refusal). snapshot_with version (segment_at events version choice) (state_of_commits (oldest_path (segment_at events version choice)) now read)) commits
