-- Lists of events, each of which was permitted when it came. The newest stands first.
use Rattle.std.specs.Prelude.{ℤ, List, [], ◌∷◌}
use Rattle.dk_store.specs.Told.{Told}
use Rattle.dk_lawful.specs.Permits.{Permits}

abbrev pub Lawful : List Told → ℤ → Type 0
Lawful [] horizon = Unit {0}
Lawful (event ∷ events) horizon = Permits events event horizon × Lawful events horizon
