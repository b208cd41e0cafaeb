-- What a reader of a value returned, beside what it is to give. That memory ran out is free.
use Rattle.std.specs.Prelude.{◌≡◌, Option, Some, None, Result, Ok, Err}
use Rattle.dk_actjson.specs.declared.fault.ActionFault.{ActionFault}
use Rattle.dk_actjson.specs.declared.fault.ActionFault.TheVariants as action

abbrev pub Gives : {A : Type 0} → Result A ActionFault → Option A → Type 0
Gives (Ok x) meant = meant ≡ Some x
Gives (Err action.Bad) meant = meant ≡ None
Gives (Err action.OutOfMemory) meant = Unit {0}

-- the same, of what the value shows
abbrev pub GivesBy : {A B : Type 0} → (A → B) → Result A ActionFault → Option B → Type 0
GivesBy view (Ok x) meant = meant ≡ Some (view x)
GivesBy view (Err action.Bad) meant = meant ≡ None
GivesBy view (Err action.OutOfMemory) meant = Unit {0}
