-- Which objects a version of a table is read from (Delta Lake's PROTOCOL.md, "Delta Log Entries", "Checkpoints", "Log Compaction Files",
-- "Catalog-managed tables"), by what is known of the log: the places at which an object is there, as a list in any order, and the name
-- under which each version stands ratified.
use Rattle.std.specs.Prelude.{◌≡◌, ℕ, zero, suc, ◌+◌, ◌==◌, ◌&&◌, Bool, true, false, nat_le, nat_lt, max, min, Option, Some, None, List, [], ◌∷◌, ◌++◌, filter, option_map, option_and_then, is_some, if◌then◌else◌}
use Rattle.std.specs.List.{list_any, filter_map}
use Rattle.std.specs.Option.{option_or}
use Rattle.std.specs.Str.{bytes_eq}
use Rattle.dk_paths.specs.Names.{commit_path}
use Rattle.dk_paths.specs.Places.{Place, Commit_at, Classic, Part, V2, Compacted, Hint, Sidecar, Staged, Other, place_path}
use Rattle.dk_paths.specs.Staged.{staged_of}
use Rattle.dk_lawful.specs.declared.segment.CheckpointRef.{CheckpointRef}
use Rattle.dk_lawful.specs.declared.segment.CheckpointRef.TheVariants as refs
use Rattle.dk_lawful.specs.declared.segment.Checkpoints.{Checkpoints}
use Rattle.dk_lawful.specs.declared.segment.Checkpoints.TheVariants.{No, Newest, AtMost}
use Rattle.dk_lawful.specs.declared.segment.Choice.{Choice}
use Rattle.dk_lawful.specs.declared.segment.Step.{Step}
use Rattle.dk_lawful.specs.declared.segment.Step.TheVariants as step_kinds
use Rattle.dk_lawful.specs.declared.segment.Step.TheVariants.{Commit}
use Rattle.dk_lawful.specs.declared.segment.Segment.{Segment}

-- ---- what is there

abbrev pub is_same_place : Place → Place → Bool
is_same_place (Commit_at version) (Commit_at v) = v == version
is_same_place (Classic version) (Classic v) = v == version
is_same_place (Part version part parts) (Part v o p) = v == version && (o == part && p == parts)
is_same_place (V2 version id true) (V2 v i true) = v == version && i == id
is_same_place (V2 version id false) (V2 v i false) = v == version && i == id
is_same_place (Compacted first last) (Compacted x y) = x == first && y == last
is_same_place Hint Hint = true
is_same_place (Sidecar name) (Sidecar other) = bytes_eq other name
is_same_place (Staged version id) (Staged v i) = v == version && i == id
is_same_place (Other path) (Other other) = bytes_eq other path
is_same_place _ _ = false

abbrev pub is_among : List Place → Place → Bool
is_among places place = list_any (is_same_place place) places

-- ---- one version

-- a place, where an object is there
abbrev pub if_present : (Place → Bool) → Place → Option Place
if_present present place = if present place then Some place else None

-- the UUID of a staged commit, where it is one of this version
abbrev pub id_of : ℕ → ℕ × ℕ → Option ℕ
id_of version staged = if staged.0 == version then Some staged.1 else None

-- the UUID of the version's staged commit that this name names
abbrev pub id_named : ℕ → List ℕ → Option ℕ
id_named version name = option_and_then (id_of version) (staged_of name)

-- a published commit stands in the log
abbrev pub published_at : (Place → Bool) → ℕ → Option Place
published_at present version = if_present present (Commit_at version)

-- a staged commit counts where it stands ratified, and its object is there
abbrev pub staged_at : (Place → Bool) → (ℕ → Option (List ℕ)) → ℕ → Option Place
staged_at present ratified version = option_and_then (λ id. if_present present (Staged version id)) (option_and_then (id_named version) (ratified version))

-- where the commit of a version is read from, if it is there; of two places the choice prefers one
abbrev pub preferred : Bool → Option Place → Option Place → Option Place
preferred staged_first staged published = if staged_first then option_or staged published else option_or published staged

abbrev pub commit_place : (Place → Bool) → (ℕ → Option (List ℕ)) → Bool → ℕ → Option Place
commit_place present ratified staged_first version = preferred staged_first (staged_at present ratified version) (published_at present version)

-- ---- the versions one by one

-- the step of a version whose commit is there, before the later ones; the walk ends where it isn't
abbrev pub before_later : ℕ → Option Place → List Step → List Step
before_later version None later = []
before_later version (Some place) later = Commit version (place_path place) ∷ later

-- the steps of so many versions, from one on, up to the first whose commit isn't there
unfoldable pub steps_from : (ℕ → Option Place) → ℕ → ℕ → List Step
steps_from place_at version zero = []
steps_from place_at version (suc count) = before_later version (place_at version) (steps_from place_at (suc version) count)

-- that version, if there is one
unfoldable pub gap_from : (ℕ → Option Place) → ℕ → ℕ → Option ℕ
gap_from place_at version zero = None
gap_from place_at version (suc count) = if is_some (place_at version) then gap_from place_at (suc version) count else Some version

-- ---- the greatest and the least of some numbers

abbrev pub greater : ℕ → Option ℕ → ℕ
greater n None = n
greater n (Some m) = max n m

abbrev pub greatest : List ℕ → Option ℕ
greatest [] = None
greatest (n ∷ ns) = Some (greater n (greatest ns))

abbrev pub lesser : ℕ → Option ℕ → ℕ
lesser n None = n
lesser n (Some m) = min n m

abbrev pub least : List ℕ → Option ℕ
least [] = None
least (n ∷ ns) = Some (lesser n (least ns))

-- ---- the checkpoint

-- the parts of a checkpoint in so many, up to one
unfoldable pub has_parts : (Place → Bool) → ℕ → ℕ → ℕ → Bool
has_parts present version parts zero = true
has_parts present version parts (suc part) = present (Part version (suc part) parts) && has_parts present version parts part

-- the version whose complete checkpoint begins at a place: one in parts begins with the first
abbrev pub complete_at : (Place → Bool) → Place → Option ℕ
complete_at present (Classic version) = Some version
complete_at present (V2 version id json) = Some version
complete_at present (Part version part parts) = if part == 1 && has_parts present version parts parts then Some version else None
complete_at present _ = None

-- the choice allows a checkpoint of a version where another is asked for
abbrev pub is_allowed : Checkpoints → ℕ → ℕ → Bool
is_allowed No asked version = false
is_allowed Newest asked version = nat_le version asked
is_allowed (AtMost most) asked version = nat_le version asked && nat_le version most

-- the greatest version that is allowed and has a complete checkpoint
abbrev pub base_version : List Place → Checkpoints → ℕ → Option ℕ
base_version places allowed asked = greatest (filter (is_allowed allowed asked) (filter_map (complete_at (is_among places)) places))

-- in how many parts a checkpoint of this version is complete that begins at a place
abbrev pub parts_at : (Place → Bool) → ℕ → Place → Option ℕ
parts_at present version (Part v part parts) = if v == version && (part == 1 && has_parts present v parts parts) then Some parts else None
parts_at present version _ = None

-- the UUID of a checkpoint of the form V2 of this version
abbrev pub checkpoint_id_at : ℕ → Place → Option ℕ
checkpoint_id_at version (V2 v id json) = if v == version then Some id else None
checkpoint_id_at version _ = None

-- the paths of so many of its parts, from the first on
abbrev pub part_paths : ℕ → ℕ → ℕ → List (List ℕ)
part_paths version parts zero = []
part_paths version parts (suc part) = part_paths version parts part ++ place_path (Part version (suc part) parts) ∷ []

-- the checkpoints of a version, by the paths of their objects
abbrev pub classic_ref : ℕ → CheckpointRef
classic_ref version = refs.Classic version (place_path (Classic version))

abbrev pub parts_ref : ℕ → ℕ → CheckpointRef
parts_ref version parts = refs.Parts version parts (part_paths version parts parts)

abbrev pub v2_ref : ℕ → ℕ → Bool → CheckpointRef
v2_ref version id json = refs.V2 version (place_path (V2 version id json)) json

-- At one version a checkpoint in one object by the version's name is taken; else the one in most parts; else the one of the form V2 whose
-- name is least, which in JSON comes first.
abbrev pub by_id : (Place → Bool) → ℕ → Option ℕ → Option CheckpointRef
by_id present version None = None
by_id present version (Some id) = Some (v2_ref version id (present (V2 version id true)))

abbrev pub by_parts : (Place → Bool) → ℕ → Option ℕ → Option ℕ → Option CheckpointRef
by_parts present version None id = by_id present version id
by_parts present version (Some parts) id = Some (parts_ref version parts)

abbrev pub checkpoint_at : List Place → ℕ → Option CheckpointRef
checkpoint_at places version =
    if is_among places (Classic version) then Some (classic_ref version)
    else by_parts (is_among places) version (greatest (filter_map (parts_at (is_among places) version) places)) (least (filter_map (checkpoint_id_at version) places))

abbrev pub base_of : List Place → Checkpoints → ℕ → Option CheckpointRef
base_of places allowed asked = option_and_then (checkpoint_at places) (base_version places allowed asked)

-- ---- the steps

-- the last version of a compacted file that begins at a version and doesn't pass the asked one
abbrev pub reached_by : ℕ → ℕ → Place → Option ℕ
reached_by asked version (Compacted first last) = if first == version && nat_le last asked then Some last else None
reached_by asked version _ = None

-- of these the furthest, where the choice allows compacted files
abbrev pub furthest : List Place → Bool → ℕ → ℕ → Option ℕ
furthest places allowed asked version = if allowed then greatest (filter_map (reached_by asked version) places) else None

abbrev pub compacted_step : ℕ → ℕ → Step
compacted_step version last = step_kinds.Compacted version last (place_path (Compacted version last))

abbrev pub commit_step : ℕ → Place → Step
commit_step version place = Commit version (place_path place)

-- what is read for a version: the compacted file that reaches furthest, else the commit
abbrev pub step_at : (ℕ → Option ℕ) → (ℕ → Option Place) → ℕ → Option Step
step_at reach place_at version = option_or (option_map (compacted_step version) (reach version)) (option_map (commit_step version) (place_at version))

-- the version that follows a step
abbrev pub after_step : Step → ℕ
after_step (Commit version path) = suc version
after_step (step_kinds.Compacted first last path) = suc last

-- The steps from a version on up to the asked one; the walk ends where there is none. Each goes on by at least one version, so that as many
-- as there are versions do.
abbrev pub before_next : Option Step → (ℕ → List Step) → List Step
before_next None later = []
before_next (Some s) later = s ∷ later (after_step s)

unfoldable pub walked_to : (ℕ → Option Step) → ℕ → ℕ → ℕ → List Step
walked_to at asked version zero = []
walked_to at asked version (suc count) = if nat_lt asked version then [] else before_next (at version) (λ next. walked_to at asked next count)

-- the version where it ends early
abbrev pub or_next : ℕ → Option Step → (ℕ → Option ℕ) → Option ℕ
or_next version None later = Some version
or_next version (Some s) later = later (after_step s)

unfoldable pub gap_to : (ℕ → Option Step) → ℕ → ℕ → ℕ → Option ℕ
gap_to at asked version zero = None
gap_to at asked version (suc count) = if nat_lt asked version then None else or_next version (at version) (λ next. gap_to at asked next count)

-- ---- a version of the table

abbrev pub version_of : CheckpointRef → ℕ
version_of (refs.Classic version path) = version
version_of (refs.Parts version parts paths) = version
version_of (refs.V2 version path json) = version

-- the version that follows a checkpoint, or the first
abbrev pub begins_at : Option CheckpointRef → ℕ
begins_at None = 0
begins_at (Some checkpoint) = suc (version_of checkpoint)

abbrev pub steps_of : List Place → (ℕ → Option (List ℕ)) → Choice → ℕ → ℕ → Option Step
steps_of places ratified choice asked version =
    step_at (furthest places choice.compacted asked) (commit_place (is_among places) ratified choice.staged_first) version

-- What a version is read from: the checkpoint that is chosen, or none, and then the steps up to the version.
abbrev pub segment_after : List Place → (ℕ → Option (List ℕ)) → ℕ → Choice → Option CheckpointRef → Segment
segment_after places ratified asked choice base = record {
  base = base;
  steps = walked_to (steps_of places ratified choice asked) asked (begins_at base) (suc asked);
}

abbrev pub segment_of : List Place → (ℕ → Option (List ℕ)) → ℕ → Choice → Segment
segment_of places ratified asked choice = segment_after places ratified asked choice (base_of places choice.checkpoints asked)

-- the path of the first commit that is needed and isn't there
abbrev pub first_gap : List Place → (ℕ → Option (List ℕ)) → ℕ → Choice → Option (List ℕ)
first_gap places ratified asked choice =
    option_map commit_path (gap_to (steps_of places ratified choice asked) asked (begins_at (base_of places choice.checkpoints asked)) (suc asked))

-- none is missing
abbrev pub HasNoGap : List Place → (ℕ → Option (List ℕ)) → ℕ → Choice → Type 0
HasNoGap places ratified asked choice = first_gap places ratified asked choice ≡ None

-- ---- by commits alone

-- the same where no checkpoint and no compacted file is chosen: each step is a commit, from version 0 on
abbrev pub commit_segment : (Place → Bool) → (ℕ → Option (List ℕ)) → ℕ → Choice → Segment
commit_segment present ratified version choice = record { base = None; steps = steps_from (commit_place present ratified choice.staged_first) 0 (version + 1) }

abbrev pub commit_gap : (Place → Bool) → (ℕ → Option (List ℕ)) → ℕ → Choice → Option (List ℕ)
commit_gap present ratified version choice = option_map commit_path (gap_from (commit_place present ratified choice.staged_first) 0 (version + 1))

abbrev pub HasAllCommits : (Place → Bool) → (ℕ → Option (List ℕ)) → ℕ → Choice → Type 0
HasAllCommits present ratified version choice = commit_gap present ratified version choice ≡ None
