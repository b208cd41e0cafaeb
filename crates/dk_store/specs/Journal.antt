-- The events of a store in memory as plain data, and what its calls make of them.
use Rattle.std.specs.Prelude.{ℕ, ℤ, ◌≡◌, ◌≤◌, ◌^◌, ◌∷◌, List, Result, Ok, Err, IsSome, IsNone}
use Rattle.std.specs.declared.alloc.AllocError.{AllocError}
use Rattle.dk_store.specs.declared.event.Put.{Put}
use Rattle.dk_store.specs.declared.event.Put.TheVariants as puts
use Rattle.dk_store.specs.declared.event.Ratify.{Ratify}
use Rattle.dk_store.specs.declared.event.Ratify.TheVariants as ratifies
use Rattle.dk_store.specs.declared.journal.Journal.{Journal}
use Rattle.dk_store.specs.Told.{Told, Made, Ratified}
use Rattle.dk_store.specs.Objects.{object}
use Rattle.dk_store.specs.Standings.{next_ratified}
use Rattle.dk_store.specs.Writing.{MayRatify, IsBeaten}
use Rattle.dk_store.specs.Views.{newest_first}

-- all events, the newest first
abbrev pub journal_events : Journal → List Told
journal_events journal = newest_first journal.events.items

-- an object is made where none was, with this very stamp
abbrev pub Makes : List ℕ → List ℕ → ℤ → List Told → Result Put AllocError → List Told → Type 0
Makes path bytes stamp old (Ok puts.Made) new = IsNone (object old path) × (new ≡ Made path bytes stamp ∷ old)
Makes path bytes stamp old (Ok puts.Exists) new = IsSome (object old path) × (new ≡ old)
Makes path bytes stamp old (Err e) new = new ≡ old

-- a version is ratified where it may be
abbrev pub Settles : ℕ → List ℕ → List Told → Result Ratify AllocError → List Told → Type 0
Settles version name old (Ok ratifies.Made) new = MayRatify version (next_ratified old) × (new ≡ Ratified version name ∷ old)
Settles version name old (Ok (ratifies.Lost next)) new = IsBeaten version next (next_ratified old) × (next ≤ 2 ^ 63) × (new ≡ old)
Settles version name old (Err e) new = new ≡ old
