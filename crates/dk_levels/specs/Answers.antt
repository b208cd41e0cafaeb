-- What functions answer that read or make parts of rows: what is meant, or that nothing is, unless memory is wanting.
use Rattle.std.specs.Prelude.{◌≡◌, Option, Some, None, Result, Ok, Err, ⊤}
use Rattle.dk_pqmodel.specs.declared.fault.PqFault.{PqFault}
use Rattle.dk_pqmodel.specs.declared.fault.PqFault.TheVariants.{Broken, OutOfMemory}

-- a refusal: nothing is meant, or memory was wanting, and there is no other
abbrev pub FailsMeant : {Y : Type 0} → PqFault → Option Y → Type 0
FailsMeant Broken meant = meant ≡ None
FailsMeant OutOfMemory meant = ⊤
FailsMeant fault meant = ⊥

abbrev pub IsBrokenOrMemory : PqFault → Type 0
IsBrokenOrMemory Broken = ⊤
IsBrokenOrMemory OutOfMemory = ⊤
IsBrokenOrMemory fault = ⊥

-- the value that is meant, as plain data
abbrev pub GivesMeant : {X Y : Type 0} → (X → Y) → Result X PqFault → Option Y → Type 0
GivesMeant view (Ok x) meant = meant ≡ Some (view x)
GivesMeant view (Err fault) meant = FailsMeant fault meant
