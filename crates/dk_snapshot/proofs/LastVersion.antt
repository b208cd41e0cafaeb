-- The latest version of a lawful log is the last one of its history.
use Rattle.std.proofs.Common.{◌≡◌, ℕ, zero, suc, ℤ, ◌<◌, ◌≤◌, ◌^◌, List, [], refl, ap, sym, subst, ◌∙◌, Bool, true, false, true≢false, arith, codes, inl, inr}
use Rattle.std.specs.Prelude.{Option, Some, None, ◌==◌, ◌&&◌, ◌||◌, option_map, is_some, if◌then◌else◌}
use Rattle.std.proofs.lemmas.Bool.{eqb-true}
use Rattle.std.proofs.lemmas.Bool.Decides.{eqb_tells}
use Rattle.dk_store.specs.Told.{Told, Stored, Listed}
use Rattle.dk_store.specs.Listing.{listing}
use Rattle.dk_store.specs.Objects.{object, content}
use Rattle.dk_store.specs.Standings.{standing}
use Rattle.dk_paths.specs.declared.log_name.LogName.{LogName}
use Rattle.dk_paths.specs.declared.log_name.LogName.TheVariants as names
use Rattle.dk_paths.specs.Places.{Place, Commit_at, Classic, Part, V2, IsPlace, place_path}
use Rattle.dk_paths.proofs.Meanings.{both-is}
use Rattle.dk_paths.proofs.PlaceLaws.{place_of_path}
use Rattle.dk_lawful.specs.Present.{Present, Available, Complete}
use Rattle.dk_lawful.specs.History.{next_version}
use Rattle.dk_lawful.specs.Lawful.{Lawful}
use Rattle.dk_lawful.proofs.CommitPlaces.{history_small}
use Rattle.dk_lawful.proofs.Standing.{held_at}
use Rattle.dk_lawful.proofs.Stays.{complete_is_published, last_is_available, none_beyond_last, ratified_stays}
use Rattle.dk_listing.specs.Entries.{in_log}
use Rattle.dk_listing.specs.Latest.{part_among}
use Rattle.dk_listing.specs.Newest.{all_up_to, complete_version, is_part}
use Rattle.dk_listing.specs.OfEvents.{stands_at, latest}
use Rattle.dk_listing.proofs.Places.{Stands, listed_stands}
use Rattle.dk_listing.proofs.Standing.{any_map}
use Rattle.dk_snapshot.specs.LatestVersion.{is_of, log_names, lists_complete, is_version, IsLatest}
use Rattle.dk_snapshot.specs.LawfulOpens.{last_of, LatestIsLast}
use Rattle.dk_snapshot.proofs.LatestVersion.{Shown, latest_shown, latest_is_greatest, first_or, second_or}

-- ---- what stands at a place

pub content_there : (events : List Told) (path : List ℕ) → is_some (object events path) ≡ true → (bytes : List ℕ) × (content events path ≡ Some bytes)
content_there events path there = by (object events path) there
  where
    by : (found : Option Stored) → is_some found ≡ true → (bytes : List ℕ) × (option_map (λ o. o.bytes) found ≡ Some bytes)
    by None none = absurd (true≢false (sym none))
    by (Some stored) some = (stored.bytes, refl)

pub object_there : (events : List Told) (path bytes : List ℕ) → content events path ≡ Some bytes → is_some (object events path) ≡ true
object_there events path bytes is = by (object events path) is
  where
    by : (found : Option Stored) → option_map (λ o. o.bytes) found ≡ Some bytes → is_some found ≡ true
    by None none = absurd (let no : ◌≡◌ {A = Option (List ℕ)} None (Some bytes) = none in cc)
    by (Some stored) some = refl

present_at : (events : List Told) (place : Place) → IsPlace place → is_some (object events (place_path place)) ≡ true → Present events place
present_at events place allowed there =
    let held = content_there events (place_path place) there in
    (held.0, record { path = place_path place; is_place = place_of_path place allowed; has_bytes = held.1 })

-- ---- complete checkpoints

-- a part that is among the names of the log's folder stands
part_stands : (events : List Told) (version parts part : ℕ) → part_among (log_names events) version parts part ≡ true → Present events (Part version part parts)
part_stands events version parts part is =
    let found = listed_stands events (is_part version parts part) refl (sym (any_map in_log (λ (e : LogName × Listed). is_part version parts part e.0) (listing events (codes "_delta_log") [])) ∙ is) in
    by found.0 found.1 found.2
  where
    by : (name : LogName) → is_part version parts part name ≡ true → Stands events name → Present events (Part version part parts)
    by (names.Part v o p) passes stands =
        let two = both-is (v == version) (p == parts && o == part) passes in
        let rest = both-is (p == parts) (o == part) two.right in
        let versions : v ≡ version = eqb-true v version two.left in
        let counts : p ≡ parts = eqb-true p parts rest.left in
        let numbers : o ≡ part = eqb-true o part rest.right in
        subst (λ (n : ℕ). Present events (Part n part parts)) versions
        (subst (λ (n : ℕ). Present events (Part v part n)) counts
        (subst (λ (n : ℕ). Present events (Part v n p)) numbers (present_at events (Part v o p) stands.allowed stands.stands)))
    by (names.Commit v) passes stands = absurd (true≢false (sym passes))
    by (names.Classic v) passes stands = absurd (true≢false (sym passes))
    by (names.V2Json v id) passes stands = absurd (true≢false (sym passes))
    by (names.V2Parquet v id) passes stands = absurd (true≢false (sym passes))
    by (names.Compacted first last) passes stands = absurd (true≢false (sym passes))
    by names.Hint passes stands = absurd (true≢false (sym passes))
    by names.Other passes stands = absurd (true≢false (sym passes))

each_of : (test : ℕ → Bool) (count number : ℕ) → all_up_to test count ≡ true → 1 ≤ number → number ≤ count → test number ≡ true
unfolding all_up_to
each_of test zero number all first most = absurd (omega arith)
each_of test (suc count) number all first most =
    let two = both-is (test (suc count)) (all_up_to test count) all in
    elim (eqb_tells number (suc count)) [
      | inl t ↦ ap test t.1 ∙ two.left
      | inr f ↦ each_of test count number two.right first (omega (arith, f.1, most))
    ]

version_of : (found version : ℕ) → is_of (Some found) version ≡ true → found ≡ version
version_of found version is = eqb-true found version is

-- a name that begins a complete checkpoint, and stands
named_complete : (events : List Told) (version : ℕ) (name : LogName) → is_of (complete_version (part_among (log_names events)) name) version ≡ true → Stands events name → Complete events version
named_complete events version (names.Classic v) passes stands =
    subst (λ (n : ℕ). Complete events n) (version_of v version passes) (inl (present_at events (Classic v) stands.allowed stands.stands))
named_complete events version (names.V2Json v id) passes stands =
    subst (λ (n : ℕ). Complete events n) (version_of v version passes) (inr (inl (id, (true, present_at events (V2 v id true) stands.allowed stands.stands))))
named_complete events version (names.V2Parquet v id) passes stands =
    subst (λ (n : ℕ). Complete events n) (version_of v version passes) (inr (inl (id, (false, present_at events (V2 v id false) stands.allowed stands.stands))))
named_complete events version (names.Part v part parts) passes stands =
    by (part == 1 && all_up_to (part_among (log_names events) v parts) parts) refl passes
  where
    by : (all : Bool) → (part == 1 && all_up_to (part_among (log_names events) v parts) parts) ≡ all → is_of (if all then Some v else None) version ≡ true → Complete events version
    by true all is =
        let two = both-is (part == 1) (all_up_to (part_among (log_names events) v parts) parts) all in
        let first : 1 ≤ part = stands.allowed.1.first in
        let last : part ≤ parts = stands.allowed.1.last in
        subst (λ (n : ℕ). Complete events n) (version_of v version is)
        (inr (inr (parts, (omega arith), λ number least most. part_stands events v parts number (each_of (part_among (log_names events) v parts) parts number two.right least most))))
    by false all is = absurd (true≢false (sym is))
named_complete events version (names.Commit v) passes stands = absurd (true≢false (sym passes))
named_complete events version (names.Compacted first last) passes stands = absurd (true≢false (sym passes))
named_complete events version names.Hint passes stands = absurd (true≢false (sym passes))
named_complete events version names.Other passes stands = absurd (true≢false (sym passes))

-- a complete checkpoint that the log's folder lists is one
pub listed_complete : (events : List Told) (version : ℕ) → lists_complete (log_names events) version ≡ true → Complete events version
listed_complete events version is =
    let complete : LogName → Bool = λ name. is_of (complete_version (part_among (log_names events)) name) version in
    let found = listed_stands events complete refl (sym (any_map in_log (λ (e : LogName × Listed). complete e.0) (listing events (codes "_delta_log") [])) ∙ is) in
    named_complete events version found.0 found.1 found.2

-- ---- the last version

module _ (events : List Told) (horizon : ℤ) (lawful : Lawful events horizon) where
  -- the version that is shown as the latest is one of the history
  shown_within : (version : ℕ) → Shown events version → version < next_version events
  shown_within version (inl (small, stands)) = none_beyond_last events horizon lawful version (inl (present_at events (Commit_at version) small stands))
  shown_within version (inr (inl complete)) =
      let (last, most, at) = complete_is_published events horizon lawful version (listed_complete events version complete) in
      let below = none_beyond_last events horizon lawful last (inl at) in
      omega arith
  shown_within version (inr (inr stands)) = by (standing events version) refl stands
    where
      by : (name : Option (List ℕ)) → standing events version ≡ name → is_some name ≡ true → version < next_version events
      by None is none = absurd (true≢false (sym none))
      by (Some name) is some = none_beyond_last events horizon lawful version (ratified_stays events horizon lawful version name is)

  -- a version that can be read is a version
  available_is : (version : ℕ) → Available events version → is_version events version ≡ true
  available_is version (inl at) =
      let published : stands_at events (Commit_at version) ≡ true = object_there events (place_path (Commit_at version)) at.0 (held_at events (Commit_at version) at.0 at.1) in
      first_or (stands_at events (Commit_at version) || lists_complete (log_names events) version) (is_some (standing events version))
      (first_or (stands_at events (Commit_at version)) (lists_complete (log_names events) version) published)
  available_is version (inr (id, stands, at)) =
      second_or (stands_at events (Commit_at version) || lists_complete (log_names events) version) (is_some (standing events version)) (ap (λ (name : Option (List ℕ)). is_some name) stands)

  last_is_version : (version : ℕ) → next_version events ≡ suc version → is_version events version ≡ true
  last_is_version version next = available_is version (last_is_available events horizon lawful version (omega arith))

  last_small : (version : ℕ) → next_version events ≡ suc version → version < 2 ^ 63
  last_small version next = history_small events horizon lawful version (omega arith)

  latest_by : (count : ℕ) → next_version events ≡ count → (found : Option ℕ) → latest events ≡ found → IsLatest events found → found ≡ last_of count
  latest_by zero none None is greatest = refl
  latest_by zero none (Some last) is greatest = absurd (let below = shown_within last (latest_shown events last is) in omega arith)
  latest_by (suc version) next None is greatest = absurd (true≢false (sym (last_is_version version next) ∙ greatest version (last_small version next)))
  latest_by (suc version) next (Some last) is greatest =
      let below = shown_within last (latest_shown events last is) in
      let most = greatest.1 version (last_small version next) (last_is_version version next) in
      let same : last ≡ version = omega arith in
      ap Some same

pub latest_is_last : LatestIsLast
latest_is_last events horizon lawful = latest_by events horizon lawful (next_version events) refl (latest events) refl (latest_is_greatest events)
