-- From which version on no deletion has taken anything that is needed.
use Rattle.std.specs.Prelude.{ℕ, ◌<◌, ◌≤◌, List, [], ◌∷◌}
use Rattle.dk_store.specs.Told.{Told, Made, Over, Deleted, Ratified, Forgotten}
use Rattle.dk_paths.specs.Places.{Place, Commit_at, Classic, Part, V2, Compacted, place_of}
use Rattle.dk_lawful.specs.Present.{Complete}

-- a complete checkpoint above a version, and one from a version on, each of at most `limit`
abbrev pub HasBetween : List Told → ℕ → ℕ → Type 0
HasBetween events version limit = (checkpoint : ℕ) × (version < checkpoint) × (checkpoint ≤ limit) × Complete events checkpoint

abbrev pub HasFrom : List Told → ℕ → ℕ → Type 0
HasFrom events version limit = (checkpoint : ℕ) × (version ≤ checkpoint) × (checkpoint ≤ limit) × Complete events checkpoint

-- an object of this place is needed by no version from `limit` on
abbrev pub IsBelow : List Told → Place → ℕ → Type 0
IsBelow events (Commit_at version) limit = HasBetween events version limit
IsBelow events (Classic version) limit = HasBetween events version limit
IsBelow events (Part version part parts) limit = HasBetween events version limit
IsBelow events (V2 version id json) limit = HasBetween events version limit
IsBelow events (Compacted first last) limit = HasFrom events first limit
IsBelow events _ limit = Unit {0}

-- The version is at least the floor: each deletion left a complete checkpoint of at most this version in its object's place.
abbrev pub FromFloor : List Told → ℕ → Type 0
FromFloor [] version = Unit {0}
FromFloor (Deleted path ∷ events) version = IsBelow events (place_of path) version × FromFloor events version
FromFloor (Made path bytes stamp ∷ events) version = FromFloor events version
FromFloor (Over path bytes stamp ∷ events) version = FromFloor events version
FromFloor (Ratified v name ∷ events) version = FromFloor events version
FromFloor (Forgotten upto ∷ events) version = FromFloor events version
