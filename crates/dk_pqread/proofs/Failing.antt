-- A refusal of a part is that of the whole.
use Rattle.std.proofs.Common.{◌≡◌, Option, None}
use Rattle.dk_pqmodel.specs.declared.fault.PqFault.{PqFault}
use Rattle.dk_pqmodel.specs.declared.fault.PqFault.TheVariants.{NotParquet, Shape, Compressed, Encoding, Broken, OutOfMemory}
use Rattle.dk_levels.specs.Answers.{FailsMeant}

pub fails_same : {A B : Type 0} (fault : PqFault) (a : Option A) (b : Option B) → (a ≡ None → b ≡ None) → FailsMeant fault a → FailsMeant fault b
fails_same OutOfMemory a b f h = tt
fails_same NotParquet a b f h = absurd h
fails_same (Shape c) a b f h = absurd h
fails_same (Compressed c n) a b f h = absurd h
fails_same (Encoding c n) a b f h = absurd h
fails_same Broken a b f h = f h
