-- What a reading function answers is what the bytes begin with.
use Rattle.std.specs.Prelude.{◌≡◌, Result, Ok, Err}
use Rattle.dk_grammar.specs.declared.thrift.Flaw.{Flaw}

abbrev pub GivesFront : {X Y : Type 0} → (X → Y) → Result X Flaw → Result Y Flaw → Type 0
GivesFront view (Ok x) front = front ≡ Ok (view x)
GivesFront view (Err flaw) front = front ≡ Err flaw
