-- What functions over a reader find of a footer.
use Rattle.std.specs.Prelude.{◌≡◌, Result, Ok, Err, IsErr}
use Rattle.dk_grammar.specs.Thrift.{Front, ◌>>=◌}
use Rattle.dk_grammar.specs.Structs.{FieldValues}
use Rattle.dk_thrift.specs.Reading.{Reading}
use Rattle.dk_pqmeta.specs.declared.fault.MetaFault.{MetaFault}
use Rattle.dk_pqmeta.specs.declared.fault.MetaFault.TheVariants.{Broken, OutOfMemory}

-- a refusal: nothing of the sort is spelled there, or memory was wanting
abbrev pub RefusesFront : {Y : Type 0} → MetaFault → Front Y → Type 0
RefusesFront Broken front = IsErr front
RefusesFront OutOfMemory front = Unit {0}

-- The value that the bytes begin with is found, and the reader stands behind it; or there is none.
abbrev pub FindsFront : {X Y : Type 0} → (X → Y) → Reading → Reading → Result X MetaFault → Front Y → Type 0
FindsFront view old new (Ok x) front = (front ≡ Ok (view x, new.rest)) × (new ≡ record old { rest = new.rest })
FindsFront view old new (Err fault) front = RefusesFront fault front

-- The same of the fields of the current struct; where the reader stands in the struct isn't said.
abbrev pub FindsFields : {X Y : Type 0} → (X → Y) → Reading → Reading → Result X MetaFault → Front Y → Type 0
FindsFields view old new (Ok x) front = (front ≡ Ok (view x, new.rest)) × (new.size ≡ old.size)
FindsFields view old new (Err fault) front = RefusesFront fault front

-- One field's value is found, and `Keeps` holds of what counts of it.
abbrev pub FindsOne : {V : Type 0} → (V → Type 0) → Reading → Reading → Result (Unit {0}) MetaFault → Front V → Type 0
FindsOne {V} Keeps old new (Ok _) front = (value : V) × ((front ≡ Ok (value, new.rest)) × Keeps value × (new ≡ record old { rest = new.rest }))
FindsOne Keeps old new (Err fault) front = RefusesFront fault front

-- what is kept of the fields
abbrev pub kept_front : {V K : Type 0} → (FieldValues V → K) → Front (FieldValues V) → Front K
kept_front kept_of front = front >>= λ x. Ok (kept_of x.0, x.1)
