-- The laws on what stays, from what holds of each lawful log.
use Rattle.std.proofs.Common.{◌≡◌, ℕ, zero, suc, ℤ, ◌+◌, ◌<◌, ◌≤◌, ◌^◌, false, inl, inr, length, List, [], ◌∷◌, ◌++◌, Option, Some, None, option_and_then, slice_get, refl, sym, ap, subst, ◌∙◌, arith, true≢false, length-append}
use Rattle.std.proofs.lemmas.Option.{slice_get_within}
use Rattle.dk_model.specs.CommitText.{commit_of}
use Rattle.dk_store.specs.Told.{Told, Made, Over, Deleted, Ratified, Forgotten}
use Rattle.dk_store.specs.Objects.{content}
use Rattle.dk_paths.specs.Names.{commit_path}
use Rattle.dk_paths.specs.Places.{Place, Commit_at, Classic, Part, V2, Compacted, Hint, Sidecar, Staged, Other, place_of, place_path, log_front, staged_front}
use Rattle.dk_paths.specs.Staged.{staged_name}
use Rattle.dk_lawful.specs.Present.{Holds, Present, Available, Complete}
use Rattle.dk_lawful.specs.Managed.{is_managed}
use Rattle.dk_lawful.specs.History.{RatifiedCommit, history, next_version, commits_of, table}
use Rattle.dk_lawful.specs.Permits.{MayDelete}
use Rattle.dk_lawful.specs.Lawful.{Lawful}
use Rattle.dk_lawful.specs.Floor.{FromFloor, IsBelow}
use Rattle.dk_lawful.specs.Laws.{LogShowsHistory, StandingCommitIsHistory, StagedCommitIsHistory, LastIsAvailable, NoneBeyondLast, LastIsPublished, LastPublishedIsOne, NeededStays, KeptFromFloor, LastIsFromFloor, FloorIsUpward, SidecarsStay, RatifiedIsManaged, RatifiedStays, UnpublishedIsStaged, FilesStay, PublishedStays, CompleteIsPublished, NextIsFree}
use Rattle.dk_lawful.proofs.Lists.{slice_get-map}
use Rattle.dk_lawful.proofs.Standing.{commit_place, commit_small, held_at, placed, object_none}
use Rattle.dk_lawful.proofs.Structure.{grows_by_one}
use Rattle.dk_lawful.proofs.Sound.{IsCommitOf, Complete-published, published_within, length_commits}
use Rattle.dk_lawful.proofs.SoundOthers.{lawful_is_sound, onward}

as_history : (events : List Told) (version : ℕ) (bytes : List ℕ) → IsCommitOf (history events) version bytes → commit_of bytes ≡ slice_get (commits_of (history events)) version
as_history events version bytes fine = fine.means ∙ sym (slice_get-map (λ (c : RatifiedCommit). c.actions) (history events) version fine.commit fine.stands)

pub standing_commit_is_history : StandingCommitIsHistory
standing_commit_is_history events horizon lawful version bytes holds = as_history events version bytes ((lawful_is_sound events horizon lawful).commits version bytes holds)

-- two staged commits of one name are one
staged_once : (version id other : ℕ) → place_of (place_path (Staged version id)) ≡ Staged version id → place_of (place_path (Staged version other)) ≡ Staged version other
    → staged_name version id ≡ staged_name version other → Staged version id ≡ Staged version other
staged_once version id other placed placed_other same =
    sym placed ∙ ap (λ (name : List ℕ). place_of (log_front ++ (staged_front ++ name))) same ∙ placed_other

pub staged_commit_is_history : StagedCommitIsHistory
staged_commit_is_history events horizon lawful version id bytes stands holds =
    let fine = (lawful_is_sound events horizon lawful).standings version (staged_name version id) stands in
    let same : Staged version id ≡ Staged version fine.id =
    staged_once version id fine.id (placed events (Staged version id) bytes holds) fine.placed fine.is_name in
    as_history events version bytes (fine.content bytes (subst (λ place. Holds events place bytes) same holds))

pub none_beyond_last : NoneBeyondLast
none_beyond_last events horizon lawful version (inl at) =
    let fine = (lawful_is_sound events horizon lawful).commits version at.0 at.1 in
    slice_get_within (history events) version fine.commit fine.stands
none_beyond_last events horizon lawful version (inr (id, stands, at)) = ((lawful_is_sound events horizon lawful).standings version (staged_name version id) stands).within

pub complete_is_published : CompleteIsPublished
complete_is_published events horizon lawful version complete = Complete-published events horizon (lawful_is_sound events horizon lawful) version complete

complete_within : (events : List Told) (horizon : ℤ) → Lawful events horizon → (version : ℕ) → Complete events version → version < next_version events
complete_within events horizon lawful version complete =
    let sound = lawful_is_sound events horizon lawful in
    published_within events horizon sound version (Complete-published events horizon sound version complete)

-- each deletion left a complete checkpoint of at most the last version
below_last : (events : List Told) (horizon : ℤ) → Lawful events horizon → (version : ℕ) → next_version events ≤ version + 1 → (place : Place) → MayDelete events place → IsBelow events place version
below_last events horizon lawful version most (Commit_at v) may =
    let (checkpoint, low, complete) = may.0 in let within = complete_within events horizon lawful checkpoint complete in (checkpoint, low, (omega arith), complete)
below_last events horizon lawful version most (Classic v) may =
    let (checkpoint, low, complete) = may in let within = complete_within events horizon lawful checkpoint complete in (checkpoint, low, (omega arith), complete)
below_last events horizon lawful version most (V2 v id json) may =
    let (checkpoint, low, complete) = may in let within = complete_within events horizon lawful checkpoint complete in (checkpoint, low, (omega arith), complete)
below_last events horizon lawful version most (Part v part parts) may =
    let (checkpoint, low, complete) = may in let within = complete_within events horizon lawful checkpoint complete in (checkpoint, low, (omega arith), complete)
below_last events horizon lawful version most (Compacted first last) may =
    let (checkpoint, low, complete) = may in let within = complete_within events horizon lawful checkpoint complete in (checkpoint, low, (omega arith), complete)
below_last events horizon lawful version most (Staged v id) may = tt
below_last events horizon lawful version most (Sidecar name) may = tt
below_last events horizon lawful version most Hint may = tt
below_last events horizon lawful version most (Other path) may = tt

not_shorter : (event : Told) (events : List Told) (version : ℕ) → next_version (event ∷ events) ≤ version + 1 → next_version events ≤ version + 1
not_shorter event events version most =
    let grown = grows_by_one event events in
    let long : length (history (event ∷ events)) ≡ length (history events) + length grown.more = ap length grown.is ∙ length-append (history events) grown.more in
    omega arith

pub from_last : (events : List Told) (horizon : ℤ) → Lawful events horizon → (version : ℕ) → next_version events ≤ version + 1 → FromFloor events version
from_last [] horizon lawful version most = tt
from_last (Made path bytes stamp ∷ events) horizon lawful version most = from_last events horizon lawful.1 version (not_shorter (Made path bytes stamp) events version most)
from_last (Over path bytes stamp ∷ events) horizon lawful version most = from_last events horizon lawful.1 version most
from_last (Deleted path ∷ events) horizon lawful version most = (below_last events horizon lawful.1 version most (place_of path) lawful.0, from_last events horizon lawful.1 version most)
from_last (Ratified v name ∷ events) horizon lawful version most = from_last events horizon lawful.1 version (not_shorter (Ratified v name) events version most)
from_last (Forgotten upto ∷ events) horizon lawful version most = from_last events horizon lawful.1 version most

pub last_is_from_floor : LastIsFromFloor
last_is_from_floor events horizon lawful version is = from_last events horizon lawful version (omega arith)

pub kept_from_floor : KeptFromFloor
kept_from_floor events horizon lawful version kept below floor = (lawful_is_sound events horizon lawful).covered version kept below floor

pub needed_stays : NeededStays
needed_stays events horizon lawful version below =
    elim (kept_from_floor events horizon lawful version (next_version events) below (from_last events horizon lawful (next_version events) (omega arith))) [
      | inl readable ↦ inl readable
      | inr (checkpoint, low, high, complete) ↦ inr (checkpoint, low, complete)
    ]

pub last_is_available : LastIsAvailable
last_is_available events horizon lawful version is = elim (needed_stays events horizon lawful version (omega arith)) [
  | inl readable ↦ readable
  | inr (checkpoint, low, complete) ↦ absurd (let within = complete_within events horizon lawful checkpoint complete in omega arith)
]

upward_place : (events : List Told) (place : Place) (version greater : ℕ) → version ≤ greater → IsBelow events place version → IsBelow events place greater
upward_place events (Commit_at v) version greater most (checkpoint, low, high, complete) = (checkpoint, low, (omega arith), complete)
upward_place events (Classic v) version greater most (checkpoint, low, high, complete) = (checkpoint, low, (omega arith), complete)
upward_place events (V2 v id json) version greater most (checkpoint, low, high, complete) = (checkpoint, low, (omega arith), complete)
upward_place events (Part v part parts) version greater most (checkpoint, low, high, complete) = (checkpoint, low, (omega arith), complete)
upward_place events (Compacted first last) version greater most (checkpoint, low, high, complete) = (checkpoint, low, (omega arith), complete)
upward_place events (Staged v id) version greater most below = tt
upward_place events (Sidecar name) version greater most below = tt
upward_place events Hint version greater most below = tt
upward_place events (Other path) version greater most below = tt

pub floor_is_upward : FloorIsUpward
floor_is_upward [] version greater most floor = tt
floor_is_upward (Made path bytes stamp ∷ events) version greater most floor = floor_is_upward events version greater most floor
floor_is_upward (Over path bytes stamp ∷ events) version greater most floor = floor_is_upward events version greater most floor
floor_is_upward (Deleted path ∷ events) version greater most floor = (upward_place events (place_of path) version greater most floor.0, floor_is_upward events version greater most floor.1)
floor_is_upward (Ratified v name ∷ events) version greater most floor = floor_is_upward events version greater most floor
floor_is_upward (Forgotten upto ∷ events) version greater most floor = floor_is_upward events version greater most floor

pub sidecars_stay : SidecarsStay
sidecars_stay events horizon lawful place name (version, is, (bytes, holds, names)) = ((lawful_is_sound events horizon lawful).tops place version is bytes holds).named name names

pub ratified_is_managed : RatifiedIsManaged
ratified_is_managed events horizon lawful version name stands = ((lawful_is_sound events horizon lawful).standings version name stands).managed_before

pub ratified_stays : RatifiedStays
ratified_stays events horizon lawful version name stands =
    let fine = (lawful_is_sound events horizon lawful).standings version name stands in
    elim (fine.there) [ inl at ↦ inl at | inr (above, at) ↦ inr (fine.id, stands ∙ ap Some fine.is_name, at) ]

pub unpublished_is_staged : UnpublishedIsStaged
unpublished_is_staged events horizon lawful version below unpublished = elim (needed_stays events horizon lawful version below) [
  | inl readable ↦ elim readable [
    | inl at ↦ absurd (unpublished (version, (omega arith), at))
    | inr staged ↦ staged
  ]
  | inr (checkpoint, low, complete) ↦
      absurd (let (last, most, at) = complete_is_published events horizon lawful checkpoint complete in unpublished (last, (omega arith), at))
]

pub files_stay : FilesStay
files_stay events horizon lawful version below by_file = elim (needed_stays events horizon lawful version below) [
  | inl readable ↦ elim readable [
    | inl at ↦ inl at
    | inr (id, stands, at) ↦ absurd (true≢false (sym (ratified_is_managed events horizon lawful version (staged_name version id) stands) ∙ by_file))
  ]
  | inr above ↦ inr above
]

pub published_stays : PublishedStays
published_stays [] events horizon lawful version published = published
published_stays (event ∷ newer) events horizon lawful version published =
    (onward (newer ++ events) event horizon lawful.0 (lawful_is_sound (newer ++ events) horizon lawful.1)).published version
    (published_stays newer events horizon lawful.1 version published)

-- ---- a table that isn't managed, while nothing was deleted that is needed

-- each version has its commit in the log
all_stand : (events : List Told) (horizon : ℤ) → Lawful events horizon → is_managed (table events) ≡ false → (version : ℕ) → Available events version → Present events (Commit_at version)
all_stand events horizon lawful unmanaged version (inl at) = at
all_stand events horizon lawful unmanaged version (inr (id, stands, at)) =
    absurd (let no : ◌≡◌ {A = Option (List ℕ)} None (Some (staged_name version id)) = sym ((lawful_is_sound events horizon lawful).unmanaged unmanaged version) ∙ stands in cc)

-- the last version has a path, so it is small
small_by : (events : List Told) (count : ℕ) → ((version : ℕ) → version < count → Present events (Commit_at version)) → count ≤ 2 ^ 63
small_by events zero all = omega arith
small_by events (suc version) all =
    let present = all version (omega arith) in
    let small = commit_small present.1.path version present.1.is_place in
    omega arith

none_or : (found : Option (List ℕ)) → ((bytes : List ℕ) → found ≡ Some bytes → ⊥) → found ≡ None
none_or None never = refl
none_or (Some bytes) never = absurd (never bytes refl)

none_stands_at : (events : List Told) (horizon : ℤ) → Lawful events horizon → (version : ℕ) → next_version events ≤ version → version < 2 ^ 63 → content events (commit_path version) ≡ None
none_stands_at events horizon lawful version most small = none_or (content events (commit_path version)) (λ bytes held.
    let below = none_beyond_last events horizon lawful version (inl (bytes, record { path = commit_path version; is_place = commit_place version small; has_bytes = held })) in
    absurd (omega arith))

pub next_is_free : NextIsFree
next_is_free events horizon version lawful next small = object_none events (commit_path version) (none_stands_at events horizon lawful version (omega arith) small)

pub log_shows_history : LogShowsHistory
log_shows_history events horizon lawful floor unmanaged = record {
  small = let long = length_commits (history events) in let small = small_by events (next_version events) all in omega arith;
  each = λ version is_below.
      let present = all version (let long = length_commits (history events) in omega arith) in
      ap (option_and_then commit_of) (held_at events (Commit_at version) present.0 present.1) ∙ standing_commit_is_history events horizon lawful version present.0 present.1;
  last = λ version is_from small. none_stands_at events horizon lawful version (let long = length_commits (history events) in omega arith) small;
}
  where
    all : (version : ℕ) → version < next_version events → Present events (Commit_at version)
    all version below = elim (kept_from_floor events horizon lawful version 0 below floor) [
      | inl readable ↦ all_stand events horizon lawful unmanaged version readable
      | inr (checkpoint, low, high, complete) ↦ absurd (omega arith)
    ]

pub last_is_published : LastIsPublished
last_is_published events horizon lawful unmanaged None none = go (next_version events) refl
  where
    go : (count : ℕ) → next_version events ≡ count → next_version events ≡ 0
    go zero is = is
    go (suc version) is = absurd (none version (all_stand events horizon lawful unmanaged version (last_is_available events horizon lawful version (omega arith))))
last_is_published events horizon lawful unmanaged (Some last) is = go (next_version events) refl
  where
    go : (count : ℕ) → next_version events ≡ count → next_version events ≡ last + 1
    go zero none = absurd (let below = none_beyond_last events horizon lawful last (inl is.0) in omega arith)
    go (suc version) next =
        let below = none_beyond_last events horizon lawful last (inl is.0) in
        let most = is.1 version (all_stand events horizon lawful unmanaged version (last_is_available events horizon lawful version (omega arith))) in
        omega arith

pub last_published_is_one : LastPublishedIsOne
last_published_is_one events None None none other = refl
last_published_is_one events None (Some other) none is = absurd (none other is.0)
last_published_is_one events (Some last) None is none = absurd (none last is.0)
last_published_is_one events (Some last) (Some other) is is_other =
    let up = is_other.1 last is.0 in
    let down = is.1 other is_other.0 in
    let same : last ≡ other = omega arith in
    ap Some same
