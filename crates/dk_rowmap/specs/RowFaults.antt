-- What a reader of rows returned, beside what it is to give. That memory ran out is free.
use Rattle.std.specs.Prelude.{◌≡◌, ℕ, List, Vec, Option, Some, None, Result, Ok, Err}
use Rattle.dk_rowmap.specs.declared.fault.RowFault.{RowFault}
use Rattle.dk_rowmap.specs.declared.fault.RowFault.TheVariants as row

abbrev pub GivesRows : {A Y : Type 0} → Result (Vec A Y) RowFault → Result (List A) ℕ → Type 0
GivesRows (Ok v) meant = meant ≡ Ok v.items
GivesRows (Err (row.NotAnAction n)) meant = meant ≡ Err n
GivesRows (Err row.OutOfMemory) meant = Unit {0}

-- the same, where it is of no account which row is the first that means nothing
abbrev pub GivesMeaning : {A Y : Type 0} → Result (Vec A Y) RowFault → Option (List A) → Type 0
GivesMeaning (Ok v) meant = meant ≡ Some v.items
GivesMeaning (Err (row.NotAnAction n)) meant = meant ≡ None
GivesMeaning (Err row.OutOfMemory) meant = Unit {0}
