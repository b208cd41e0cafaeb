-- The checkpoint that a version goes on from, and the compacted files, by a listing.
use Rattle.std.specs.Prelude.{ℕ, ◌≡◌, ◌<◌, ◌≤◌, ◌==◌, ◌&&◌, nat_le, Bool, min, Option, Some, None, List, option_and_then, if◌then◌else◌}
use Rattle.std.specs.List.{fold}
use Rattle.std.specs.Ordering.{nat_cmp}
use Rattle.std.specs.BTreeMap.{BTreeMap, get}
use Rattle.dk_paths.specs.declared.log_name.LogName.{LogName}
use Rattle.dk_paths.specs.declared.log_name.LogName.TheVariants as names
use Rattle.dk_paths.specs.Places.{Classic}
use Rattle.dk_lawful.specs.declared.segment.CheckpointRef.{CheckpointRef}
use Rattle.dk_lawful.specs.declared.segment.Checkpoints.{Checkpoints}
use Rattle.dk_lawful.specs.Segments.{is_allowed, by_parts, classic_ref, parts_ref, v2_ref}
use Rattle.dk_listing.specs.declared.catalogued.Catalogued.{Catalogued}
use Rattle.dk_listing.specs.declared.named.Named.{Named}
use Rattle.dk_listing.specs.Newest.{later, newest_by, checkpoint_version, complete_checkpoints}
use Rattle.dk_listing.specs.Presence.{lists}
use Rattle.dk_segment.specs.declared.base.Base.{Base}
use Rattle.dk_segment.specs.declared.base.Base.TheVariants as bases

-- ---- the checkpoint

-- the reference that a checkpoint is handed on as
abbrev pub reference : Base → CheckpointRef
reference (bases.Classic version) = classic_ref version
reference (bases.Parts version parts) = parts_ref version parts
reference (bases.V2 version id json) = v2_ref version id json

-- a version, where the choice allows it
abbrev pub if_choice_allows : Checkpoints → ℕ → Option ℕ → Option ℕ
if_choice_allows allowed asked None = None
if_choice_allows allowed asked (Some version) = if is_allowed allowed asked version then Some version else None

-- the version of the checkpoint that a name begins, where the choice allows it
abbrev pub allowed_version : Checkpoints → ℕ → LogName → Option ℕ
allowed_version allowed asked name = if_choice_allows allowed asked (checkpoint_version name)

-- in how many parts a checkpoint of this version is that a name begins
abbrev pub parts_of_checkpoint : ℕ → LogName → Option ℕ
parts_of_checkpoint version (names.Part v part parts) = if v == version then Some parts else None
parts_of_checkpoint version _ = None

-- the UUID of a checkpoint of the form V2 of this version
abbrev pub id_of_name : ℕ → LogName → Option ℕ
id_of_name version (names.V2Json v id) = if v == version then Some id else None
id_of_name version (names.V2Parquet v id) = if v == version then Some id else None
id_of_name version _ = None

-- the least of those that are there
abbrev pub earlier : Option ℕ → Option ℕ → Option ℕ
earlier None other = other
earlier (Some one) None = Some one
earlier (Some one) (Some other) = Some (min one other)

abbrev pub earliest_by : {X : Type 0} → (X → Option ℕ) → List X → Option ℕ
earliest_by number xs = fold (λ best x. earlier best (number x)) None xs

-- the checkpoint that is taken at a version, by what is listed
abbrev pub taken_at : Catalogued → ℕ → Option CheckpointRef
taken_at listing version =
    if lists listing (Classic version) then Some (classic_ref version)
    else by_parts (lists listing) version (newest_by (parts_of_checkpoint version) (complete_checkpoints listing.log.items)) (earliest_by (id_of_name version) (complete_checkpoints listing.log.items))

-- the one that is chosen
abbrev pub base_listed : Catalogued → Checkpoints → ℕ → Option CheckpointRef
base_listed listing allowed asked = option_and_then (taken_at listing) (newest_by (allowed_version allowed asked) (complete_checkpoints listing.log.items))

-- ---- compacted files

-- the last version of a compacted file that begins at a version and doesn't pass the asked one
abbrev pub reached_by_name : ℕ → ℕ → LogName → Option ℕ
reached_by_name asked version (names.Compacted first last) = if first == version && nat_le last asked then Some last else None
reached_by_name asked version _ = None

-- what a compacted file covers that doesn't pass the asked version
abbrev pub compacted_of : ℕ → LogName → Option (ℕ × ℕ)
compacted_of asked (names.Compacted first last) = if nat_le last asked then Some (first, last) else None
compacted_of asked _ = None

-- of these the furthest
abbrev pub reached_in : List Named → ℕ → ℕ → Option ℕ
reached_in log asked version = newest_by (λ named. reached_by_name asked version named.name) log

-- the map has it at each version
abbrev pub HasReaches : BTreeMap ℕ ℕ → List Named → ℕ → Type 0
HasReaches reaches log asked = (version : ℕ) → get nat_cmp reaches version ≡ reached_in log asked version

-- a compacted file that covers these versions is added to it
abbrev pub WidensReach : BTreeMap ℕ ℕ → BTreeMap ℕ ℕ → ℕ → ℕ → Type 0
WidensReach old new first last = (version : ℕ) → get nat_cmp new version ≡ later (get nat_cmp old version) (if first == version then Some last else None)

-- one more name is added to it
abbrev pub AddsReach : BTreeMap ℕ ℕ → BTreeMap ℕ ℕ → LogName → ℕ → Type 0
AddsReach old new name asked = (version : ℕ) → get nat_cmp new version ≡ later (get nat_cmp old version) (reached_by_name asked version name)

-- it has it where the choice allows compacted files, and is empty otherwise
abbrev pub HasAllowed : BTreeMap ℕ ℕ → List Named → Bool → ℕ → Type 0
HasAllowed reaches log allowed asked = (version : ℕ) → get nat_cmp reaches version ≡ (if allowed then reached_in log asked version else None)

-- each goes on, and none passes the asked version
abbrev pub AreReached : BTreeMap ℕ ℕ → ℕ → Type 0
AreReached reaches asked = (version last : ℕ) → get nat_cmp reaches version ≡ Some last → (version < last) × (last ≤ asked)
