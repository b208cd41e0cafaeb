-- Where a reader stands, and what its calls answer.
use Rattle.std.specs.Prelude.{◌≡◌, ℕ, ◌-◌, ℤ, Result, Ok, Err, IsErrAnd, List}
use Rattle.dk_grammar.specs.Passed.{Rest}
use Rattle.dk_grammar.specs.Thrift.{Front}
use Rattle.dk_grammar.specs.declared.thrift.Field.{Field}
use Rattle.dk_grammar.specs.declared.thrift.Field.TheVariants.{End, Next}
use Rattle.dk_grammar.specs.declared.thrift.Flaw.{Flaw}
use Rattle.dk_grammar.specs.declared.thrift.Flaw.TheVariants as flaws
use Rattle.dk_thrift.specs.declared.fault.ThriftFault.{ThriftFault}
use Rattle.dk_thrift.specs.declared.fault.ThriftFault.TheVariants.{Short, BadType, TooDeep}

-- how many bytes there are in all, those that are left, and the id of the last field of the current struct
pub record Reading : Type 0 where
  pub size : ℕ
  pub rest : List ℕ
  pub last : ℤ

-- a flaw with its place from the front
abbrev pub fault_of : ℕ → Flaw → ThriftFault
fault_of size flaws.Short = Short size
fault_of size (flaws.BadType left) = BadType (size - left)
fault_of size (flaws.TooDeep left) = TooDeep (size - left)

-- The call answers the value that the bytes left begin with, and the reader stands behind it; or it answers the fault, and
-- the reader stands where it stood.
abbrev pub ReadsFront : {X Y : Type 0} → (X → Y) → Reading → Reading → Result X ThriftFault → Front Y → Type 0
ReadsFront view old new (Ok x) front = (front ≡ Ok (view x, new.rest)) × (new ≡ record old { rest = new.rest })
ReadsFront view old new (Err fault) front = IsErrAnd front (λ flaw. fault ≡ fault_of old.size flaw) × (new ≡ old)

-- the last field behind a header
abbrev pub last_behind : ℤ → Field → ℤ
last_behind last End = last
last_behind last (Next id kind) = id

-- a header read moves the last field too
abbrev pub ReadsField : Reading → Reading → Result Field ThriftFault → Front Field → Type 0
ReadsField old new (Ok field) front = (front ≡ Ok (field, new.rest)) × (new ≡ record old { rest = new.rest; last = last_behind old.last field })
ReadsField old new (Err fault) front = IsErrAnd front (λ flaw. fault ≡ fault_of old.size flaw) × (new ≡ old)

-- what is passed over has no value
abbrev pub Skips : Reading → Reading → Result (Unit {0}) ThriftFault → Rest → Type 0
Skips old new (Ok _) rest = (rest ≡ Ok new.rest) × (new ≡ record old { rest = new.rest })
Skips old new (Err fault) rest = IsErrAnd rest (λ flaw. fault ≡ fault_of old.size flaw) × (new ≡ old)
