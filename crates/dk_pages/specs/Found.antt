-- What calls on a reader find.
use Rattle.std.specs.Prelude.{◌≡◌, Option, Result, Ok, Err, IsErr}
use Rattle.dk_grammar.specs.Thrift.{Front}
use Rattle.dk_thrift.specs.Reading.{Reading}
use Rattle.dk_thrift.specs.declared.fault.ThriftFault.{ThriftFault}
use Rattle.dk_grammar.specs.Structs.{FieldValues}

-- The fields are found, and the reader stands behind them; or there are none.
abbrev pub ReadsFields : {V X : Type 0} → (FieldValues V → X) → Reading → Reading → Result X ThriftFault → Front (FieldValues V) → Type 0
ReadsFields {V} view old new (Ok x) front = (values : FieldValues V) × ((front ≡ Ok (values, new.rest)) × (x ≡ view values) × (new.size ≡ old.size))
ReadsFields view old new (Err fault) front = IsErr front

-- One field's value is found, `Adds` holds of it, and the reader stands behind it; or there is none.
abbrev pub ReadsValue : {V : Type 0} → (Option V → Type 0) → Reading → Reading → Result (Unit {0}) ThriftFault → Front (Option V) → Type 0
ReadsValue {V} Adds old new (Ok _) front = (value : Option V) × ((front ≡ Ok (value, new.rest)) × Adds value × (new ≡ record old { rest = new.rest }))
ReadsValue Adds old new (Err fault) front = IsErr front
