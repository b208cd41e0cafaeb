-- A listing of the events shows at each place what stands there, so a segment by a listing is that by the events.
use Rattle.std.proofs.Common.{◌≡◌, ℕ, ◌+◌, ◌<◌, ◌^◌, List, [], ◌∷◌, ◌++◌, Bool, true, false, true≢false, Option, Some, None, refl, sym, ap, ap₂, subst, ◌∙◌, arith, codes, eq-eqb}
use Rattle.std.specs.Prelude.{◌==◌, ◌&&◌, ◌||◌, is_some, option_map}
use Rattle.std.specs.List.{list_any}
use Rattle.std.specs.Str.{bytes_eq}
use Rattle.std.proofs.lemmas.Bool.{eqb-true}
use Rattle.std.proofs.lemmas.Slice.Eq.{bytes_eq-Decides}
use Rattle.dk_store.specs.Told.{Told, Stored, Listed}
use Rattle.dk_store.specs.Listing as folders
use Rattle.dk_store.specs.Objects.{object, content}
use Rattle.dk_store.specs.Standings.{standing}
use Rattle.dk_paths.specs.declared.log_name.LogName.{LogName}
use Rattle.dk_paths.specs.declared.log_name.LogName.TheVariants as names
use Rattle.dk_paths.specs.Names.{IsName, spelling, log_name_of, commit_path}
use Rattle.dk_paths.specs.Places.{Place, Commit_at, Classic, Part, V2, Compacted, Hint, Sidecar, Staged, Other, IsPlace, log_front, place_path}
use Rattle.dk_paths.specs.Staged.{IsStaged, IsStagedNameOf, staged_of}
use Rattle.dk_paths.proofs.Meanings.{name_of-spelling, both, both-is}
use Rattle.dk_paths.proofs.PlaceLaws.{place_of_path, path_of_place}
use Rattle.dk_paths.proofs.StagedNames.{IsStagedNameOf-staged_of}
use Rattle.dk_lawful.specs.declared.segment.Checkpoints.TheVariants.{No}
use Rattle.dk_lawful.specs.declared.segment.Choice.{Choice}
use Rattle.dk_lawful.specs.declared.segment.Step.{Step}
use Rattle.dk_lawful.specs.Openable.{IsReadFrom, standing_places}
use Rattle.dk_lawful.specs.Present.{Present}
use Rattle.dk_lawful.specs.Segments.{is_among, commit_place, commit_segment, commit_gap, segment_of, first_gap}
use Rattle.dk_lawful.proofs.Openable.{plain_is_by_commits}
use Rattle.dk_lawful.proofs.SamePlaces.{same_places_read_alike}
use Rattle.dk_lawful.proofs.Standing.{held_at}
use Rattle.dk_lawful.proofs.StandingPlaces.{standing_places_stand}
use Rattle.dk_listing.specs.declared.catalogued.Catalogued.{Catalogued}
use Rattle.dk_listing.specs.declared.named.Named.{Named}
use Rattle.dk_listing.specs.declared.named.Staged as entries
use Rattle.dk_listing.specs.Entries.{in_log, in_staged, named_entry, staged_entry}
use Rattle.dk_listing.specs.OfEvents.{IsListingOf, stands_at}
use Rattle.dk_listing.specs.Presence.{is_at, lists, listed_places, ratified_name}
use Rattle.dk_listing.proofs.Places.{Stands, listed_stands, no_slash_in_name}
use Rattle.dk_listing.proofs.Standing.{any_map, any_filter_map, passes, is_staged_as, lists_name, lists_staged_commit, names_standing}
use Rattle.dk_segment.specs.Chosen.{chosen_segment, unless_gap}
use Rattle.dk_segment.specs.Laws.{ListingChoosesAlike, PlainChoosesCommits}
use Rattle.dk_segment.proofs.Agree.{place_alike, steps_alike, gap_alike}
use Rattle.dk_segment.proofs.ListedPlaces.{among_listed}

-- ---- what stands at a place

pub content_there : (events : List Told) (path : List ℕ) → is_some (object events path) ≡ true → (bytes : List ℕ) × (content events path ≡ Some bytes)
content_there events path there = by (object events path) there
  where
    by : (found : Option Stored) → is_some found ≡ true → (bytes : List ℕ) × (option_map (λ o. o.bytes) found ≡ Some bytes)
    by None none = absurd (true≢false (sym none))
    by (Some stored) some = (stored.bytes, refl)

pub object_there : (events : List Told) (path bytes : List ℕ) → content events path ≡ Some bytes → is_some (object events path) ≡ true
object_there events path bytes is = by (object events path) is
  where
    by : (found : Option Stored) → option_map (λ o. o.bytes) found ≡ Some bytes → is_some found ≡ true
    by None none = absurd (let no : ◌≡◌ {A = Option (List ℕ)} None (Some bytes) = none in cc)
    by (Some stored) some = refl

pub present_at : (events : List Told) (place : Place) → IsPlace place → is_some (object events (place_path place)) ≡ true → Present events place
present_at events place allowed there =
    let held = content_there events (place_path place) there in
    (held.0, record { path = place_path place; is_place = place_of_path place allowed; has_bytes = held.1 })

pub present_stands : (events : List Told) (place : Place) → Present events place → stands_at events place ≡ true
present_stands events place at = object_there events (place_path place) at.0 (held_at events place at.0 at.1)

present_allowed : (events : List Told) (place : Place) → Present events place → IsPlace place
present_allowed events place at = subst IsPlace at.1.is_place (path_of_place at.1.path).0

-- ---- two tests

same_test : (one other : Bool) → (one ≡ true → other ≡ true) → (other ≡ true → one ≡ true) → one ≡ other
same_test true other to back = sym (to refl)
same_test false true to back = back refl
same_test false false to back = refl

true_or : (x : Bool) → (x || true) ≡ true
true_or true = refl
true_or false = refl

any_passes : {X : Type 0} (test other : X → Bool) → ((x : X) → test x ≡ true → other x ≡ true) → (xs : List X) → list_any test xs ≡ true → list_any other xs ≡ true
any_passes test other hands [] is = absurd (true≢false (sym is))
any_passes test other hands (x ∷ xs) is = by (test x) refl is (any_passes test other hands xs)
  where
    by : (here : Bool) → test x ≡ here → (here || list_any test xs) ≡ true → (list_any test xs ≡ true → list_any other xs ≡ true) → (other x || list_any other xs) ≡ true
    by true passed any later = ap (λ (b : Bool). b || list_any other xs) (hands x passed)
    by false failed any later = ap (λ (b : Bool). other x || b) (later any) ∙ true_or (other x)

any_found : {X : Type 0} (test : X → Bool) (xs : List X) → list_any test xs ≡ true → (x : X) × (test x ≡ true)
any_found test [] is = absurd (true≢false (sym is))
any_found {X} test (x ∷ xs) is = by (test x) refl is (any_found test xs)
  where
    by : (here : Bool) → test x ≡ here → (here || list_any test xs) ≡ true → (list_any test xs ≡ true → (y : X) × (test y ≡ true)) → (y : X) × (test y ≡ true)
    by true passed any later = (x, passed)
    by false failed any later = later any

-- ---- names

-- a name that stands, and names the place
named_present : (events : List Told) (place : Place) (name : LogName) → is_at place name ≡ true → Stands events name → Present events place
named_present events (Commit_at version) (names.Commit v) at stands =
    subst (λ (n : ℕ). Present events (Commit_at n)) (eqb-true v version at) (present_at events (Commit_at v) stands.allowed stands.stands)
named_present events (Classic version) (names.Classic v) at stands =
    subst (λ (n : ℕ). Present events (Classic n)) (eqb-true v version at) (present_at events (Classic v) stands.allowed stands.stands)
named_present events (Part version part parts) (names.Part v o p) at stands =
    let two = both-is (v == version) (o == part && p == parts) at in
    let rest = both-is (o == part) (p == parts) two.right in
    subst (λ (n : ℕ). Present events (Part n part parts)) (eqb-true v version two.left)
    (subst (λ (n : ℕ). Present events (Part v n parts)) (eqb-true o part rest.left)
    (subst (λ (n : ℕ). Present events (Part v o n)) (eqb-true p parts rest.right) (present_at events (Part v o p) stands.allowed stands.stands)))
named_present events (V2 version id true) (names.V2Json v i) at stands =
    let two = both-is (v == version) (i == id) at in
    subst (λ (n : ℕ). Present events (V2 n id true)) (eqb-true v version two.left)
    (subst (λ (n : ℕ). Present events (V2 v n true)) (eqb-true i id two.right) (present_at events (V2 v i true) stands.allowed stands.stands))
named_present events (V2 version id true) (names.V2Parquet v i) at stands = absurd (true≢false (sym at))
named_present events (V2 version id false) (names.V2Parquet v i) at stands =
    let two = both-is (v == version) (i == id) at in
    subst (λ (n : ℕ). Present events (V2 n id false)) (eqb-true v version two.left)
    (subst (λ (n : ℕ). Present events (V2 v n false)) (eqb-true i id two.right) (present_at events (V2 v i false) stands.allowed stands.stands))
named_present events (V2 version id false) (names.V2Json v i) at stands = absurd (true≢false (sym at))
named_present events (Compacted first last) (names.Compacted x y) at stands =
    let two = both-is (x == first) (y == last) at in
    subst (λ (n : ℕ). Present events (Compacted n last)) (eqb-true x first two.left)
    (subst (λ (n : ℕ). Present events (Compacted x n)) (eqb-true y last two.right) (present_at events (Compacted x y) stands.allowed stands.stands))
named_present events Hint names.Hint at stands = present_at events Hint tt stands.stands
named_present events (Sidecar name) (names.Commit v) at stands = absurd (true≢false (sym at))
named_present events (Staged version id) (names.Commit v) at stands = absurd (true≢false (sym at))
named_present events (Other path) (names.Commit v) at stands = absurd (true≢false (sym at))
named_present events _ _ at stands = absurd (true≢false (sym at))

module _ (events : List Told) (listing : Catalogued) (is : IsListingOf events listing) where
  -- a test of the names that a listing has is one of those in the log's folder
  by_names : (test : LogName → Bool) → list_any (λ (n : Named). test n.name) listing.log.items ≡ list_any (λ (e : Listed). test (log_name_of e.name)) (folders.listing events (codes "_delta_log") [])
  by_names test =
      sym (any_map named_entry (λ (e : LogName × Listed). test e.0) listing.log.items)
      ∙ ap (list_any (λ (e : LogName × Listed). test e.0)) is.log
      ∙ any_map in_log (λ (e : LogName × Listed). test e.0) (folders.listing events (codes "_delta_log") [])

  listed_present : (place : Place) → is_at place names.Other ≡ false → list_any (λ (n : Named). is_at place n.name) listing.log.items ≡ true → Present events place
  listed_present place other found =
      let named = listed_stands events (is_at place) other (sym (by_names (is_at place)) ∙ found) in
      named_present events place named.0 named.1 named.2

  name_listed : (name : LogName) (test : LogName → Bool) → IsName name → test name ≡ true → is_some (object events (log_front ++ spelling name)) ≡ true
      → list_any (λ (n : Named). test n.name) listing.log.items ≡ true
  name_listed name test allowed passed there =
      by_names test
      ∙ any_passes (λ (e : Listed). bytes_eq e.name (spelling name)) (λ (e : Listed). test (log_name_of e.name))
      (λ e same. ap test (ap log_name_of ((bytes_eq-Decides e.name (spelling name)).0 same) ∙ name_of-spelling name allowed) ∙ passed)
      (folders.listing events (codes "_delta_log") [])
      (lists_name events (codes "_delta_log") (spelling name) (no_slash_in_name name) ∙ there)

  -- ---- staged commits

  by_staged : (version id : ℕ) → list_any (λ (s : entries.Staged). s.version == version && s.id == id) listing.staged.items
      ≡ list_any (λ (e : Listed). passes (is_staged_as version id) (in_staged e)) (folders.listing events (codes "_delta_log/_staged_commits") [])
  by_staged version id =
      sym (any_map staged_entry (is_staged_as version id) listing.staged.items)
      ∙ ap (list_any (is_staged_as version id)) is.staged
      ∙ any_filter_map in_staged (is_staged_as version id) (folders.listing events (codes "_delta_log/_staged_commits") [])

  staged_allowed : (version id : ℕ) (entry : Listed) (found : Option (ℕ × ℕ)) → IsStagedNameOf entry.name found
      → passes (is_staged_as version id) (option_map (λ staged. (staged, entry)) found) ≡ true → IsStaged version id
  staged_allowed version id entry None says passed = absurd (true≢false (sym passed))
  staged_allowed version id entry (Some staged) says passed =
      let two = both-is (staged.0 == version) (staged.1 == id) passed in
      subst (λ (n : ℕ). IsStaged n id) (eqb-true staged.0 version two.left) (subst (λ (n : ℕ). IsStaged staged.0 n) (eqb-true staged.1 id two.right) says.0)

  staged_present : (version id : ℕ) → lists listing (Staged version id) ≡ true → Present events (Staged version id)
  staged_present version id found =
      let (entry, passed) = any_found (λ (e : Listed). passes (is_staged_as version id) (in_staged e)) (folders.listing events (codes "_delta_log/_staged_commits") []) (sym (by_staged version id) ∙ found) in
      let allowed : IsStaged version id = staged_allowed version id entry (staged_of entry.name) (IsStagedNameOf-staged_of entry.name) passed in
      present_at events (Staged version id) allowed (sym (lists_staged_commit events listing is version id allowed) ∙ found)

  -- ---- each place that a version is read from

  to_present : (place : Place) → IsReadFrom place → lists listing place ≡ true → Present events place
  to_present (Commit_at version) read found = listed_present (Commit_at version) refl found
  to_present (Classic version) read found = listed_present (Classic version) refl found
  to_present (Part version part parts) read found = listed_present (Part version part parts) refl found
  to_present (V2 version id true) read found = listed_present (V2 version id true) refl found
  to_present (V2 version id false) read found = listed_present (V2 version id false) refl found
  to_present (Compacted first last) read found = listed_present (Compacted first last) refl found
  to_present (Staged version id) read found = staged_present version id found
  to_present Hint read found = absurd read
  to_present (Sidecar name) read found = absurd read
  to_present (Other path) read found = absurd read

  to_listed : (place : Place) → IsReadFrom place → Present events place → lists listing place ≡ true
  to_listed (Commit_at version) read at =
      name_listed (names.Commit version) (is_at (Commit_at version)) (present_allowed events (Commit_at version) at) (eq-eqb version version refl) (present_stands events (Commit_at version) at)
  to_listed (Classic version) read at =
      name_listed (names.Classic version) (is_at (Classic version)) (present_allowed events (Classic version) at) (eq-eqb version version refl) (present_stands events (Classic version) at)
  to_listed (Part version part parts) read at =
      name_listed (names.Part version part parts) (is_at (Part version part parts)) (present_allowed events (Part version part parts) at)
      (both (version == version) (part == part && parts == parts) (eq-eqb version version refl) (both (part == part) (parts == parts) (eq-eqb part part refl) (eq-eqb parts parts refl)))
      (present_stands events (Part version part parts) at)
  to_listed (V2 version id true) read at =
      name_listed (names.V2Json version id) (is_at (V2 version id true)) (present_allowed events (V2 version id true) at)
      (both (version == version) (id == id) (eq-eqb version version refl) (eq-eqb id id refl)) (present_stands events (V2 version id true) at)
  to_listed (V2 version id false) read at =
      name_listed (names.V2Parquet version id) (is_at (V2 version id false)) (present_allowed events (V2 version id false) at)
      (both (version == version) (id == id) (eq-eqb version version refl) (eq-eqb id id refl)) (present_stands events (V2 version id false) at)
  to_listed (Compacted first last) read at =
      name_listed (names.Compacted first last) (is_at (Compacted first last)) (present_allowed events (Compacted first last) at)
      (both (first == first) (last == last) (eq-eqb first first refl) (eq-eqb last last refl)) (present_stands events (Compacted first last) at)
  to_listed (Staged version id) read at =
      lists_staged_commit events listing is version id (present_allowed events (Staged version id) at) ∙ present_stands events (Staged version id) at
  to_listed Hint read at = absurd read
  to_listed (Sidecar name) read at = absurd read
  to_listed (Other path) read at = absurd read

  pub listed_standing : (place : Place) → IsReadFrom place → is_among (listed_places listing) place ≡ is_among (standing_places events) place
  listed_standing place read =
      among_listed listing place
      ∙ same_test (lists listing place) (is_among (standing_places events) place)
      (λ found. (standing_places_stand events place).1 (to_present place read found))
      (λ among. to_listed place read ((standing_places_stand events place).0 among))

  -- what is chosen of a listing of events is chosen of what stands
  pub segment_standing : (version : ℕ) (choice : Choice)
      → chosen_segment (listed_places listing) (ratified_name listing) version choice ≡ chosen_segment (standing_places events) (standing events) version choice
  segment_standing version choice =
      let same : ratified_name listing ≡ standing events = λ i v. names_standing events listing is v i in
      let alike = same_places_read_alike (listed_places listing) (standing_places events) (ratified_name listing) version choice listed_standing in
      ap₂ unless_gap alike.0 alike.1
      ∙ ap (λ (ratified : ℕ → Option (List ℕ)). chosen_segment (standing_places events) ratified version choice) same

-- ---- by commits alone

module _ (events : List Told) where
  among_stands : (place : Place) → IsPlace place → is_among (standing_places events) place ≡ stands_at events place
  among_stands place allowed =
      same_test (is_among (standing_places events) place) (stands_at events place)
      (λ among. present_stands events place ((standing_places_stand events place).0 among))
      (λ stands. (standing_places_stand events place).1 (present_at events place allowed stands))

  -- where neither a checkpoint nor a compacted file is chosen, the segment is that of the commits that stand
  pub plain_standing : (version : ℕ) (choice : Choice) → version < 2 ^ 63 → choice.checkpoints ≡ No → choice.compacted ≡ false
      → (segment_of (standing_places events) (standing events) version choice ≡ commit_segment (stands_at events) (standing events) version choice)
      × (first_gap (standing_places events) (standing events) version choice ≡ commit_gap (stands_at events) (standing events) version choice)
  plain_standing version choice small no_checkpoints no_compacted =
      let plain = plain_is_by_commits (standing_places events) (standing events) version choice no_checkpoints no_compacted in
      let one : ℕ → Option Place = commit_place (is_among (standing_places events)) (standing events) choice.staged_first in
      let two : ℕ → Option Place = commit_place (stands_at events) (standing events) choice.staged_first in
      let same : (w : ℕ) → w < 0 + (version + 1) → one w ≡ two w = λ w less.
      place_alike (is_among (standing_places events)) (stands_at events) (standing events) (standing events) choice.staged_first w (record {
        commit = among_stands (Commit_at w) (omega arith);
        staged = λ id allowed. among_stands (Staged w id) allowed;
        name = refl;
      }) in (
        plain.0 ∙ ap (λ (steps : List Step). record { base = None; steps = steps }) (steps_alike one two 0 (version + 1) same),
        plain.1 ∙ ap (option_map commit_path) (gap_alike one two 0 (version + 1) same),
      )

-- ---- the laws

pub listing_chooses_alike : ListingChoosesAlike
listing_chooses_alike events listing is version choice = segment_standing events listing is version choice

pub plain_chooses_commits : PlainChoosesCommits
plain_chooses_commits events version choice small no_checkpoints no_compacted =
    let plain = plain_standing events version choice small no_checkpoints no_compacted in
    ap₂ unless_gap plain.0 plain.1
