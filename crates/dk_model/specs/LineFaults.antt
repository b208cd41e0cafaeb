-- What a reader of lines returned, beside what it is to give. That memory ran out is free.
use Rattle.std.specs.Prelude.{◌≡◌, ℕ, Result, Ok, Err}
use Rattle.dk_model.specs.declared.fault.LineFault.{LineFault}
use Rattle.dk_model.specs.declared.fault.LineFault.TheVariants as line

abbrev pub GivesLines : {A : Type 0} → Result A LineFault → Result A ℕ → Type 0
GivesLines (Ok x) meant = meant ≡ Ok x
GivesLines (Err (line.Bad n)) meant = meant ≡ Err n
GivesLines (Err line.OutOfMemory) meant = Unit {0}
