-- What is found of a part is found of the whole, and a part that is refused refuses the whole.
use Rattle.std.proofs.Common.{◌≡◌, Option, Some, None, Result, Ok, Err}
use Rattle.dk_pqmodel.specs.declared.fault.PqFault.{PqFault}
use Rattle.dk_pqmodel.specs.declared.fault.PqFault.TheVariants.{NotParquet, Shape, Compressed, Encoding, Broken, OutOfMemory}
use Rattle.dk_levels.specs.Answers.{FailsMeant, GivesMeant}
use Rattle.dk_pqread.specs.Meanings.{RefusesMeaning, Finds}

-- where what is meant has a part that is refused, it is refused
pub refuses_by : {A B : Type 0} (fault : PqFault) (M : A → Type 0) (N : B → Type 0) → ((y : B) → N y → (x : A) × M x) → RefusesMeaning fault M → RefusesMeaning fault N
refuses_by Broken M N part h = λ y n. h (part y n).0 (part y n).1
refuses_by OutOfMemory M N part h = tt
refuses_by NotParquet M N part h = absurd h
refuses_by (Shape c) M N part h = absurd h
refuses_by (Compressed c n) M N part h = absurd h
refuses_by (Encoding c n) M N part h = absurd h

-- where nothing is given, nothing is meant
pub fails_refuses : {Y Z : Type 0} (fault : PqFault) (meant : Option Z) (M : Y → Type 0) → (meant ≡ None → (y : Y) → M y → ⊥) → FailsMeant fault meant → RefusesMeaning fault M
fails_refuses Broken meant M never h = never h
fails_refuses OutOfMemory meant M never h = tt
fails_refuses NotParquet meant M never h = absurd h
fails_refuses (Shape c) meant M never h = absurd h
fails_refuses (Compressed c n) meant M never h = absurd h
fails_refuses (Encoding c n) meant M never h = absurd h

-- what means the same
pub finds_as : {X Y : Type 0} (view : X → Y) (result : Result X PqFault) (M N : Y → Type 0) → ((y : Y) → M y → N y) → ((y : Y) → N y → M y) → Finds view result M → Finds view result N
finds_as view (Ok x) M N into back h = into (view x) h
finds_as view (Err fault) M N into back h = refuses_by fault M N (λ y n. (y, back y n)) h

-- what is given by cases is what is meant
pub finds_given : {X Y : Type 0} (view : X → Y) (result : Result X PqFault) (meant : Option Y) (M : Y → Type 0) → ((y : Y) → meant ≡ Some y → M y) → (meant ≡ None → (y : Y) → M y → ⊥) → GivesMeant view result meant
    → Finds view result M
finds_given view (Ok x) meant M sound never h = sound (view x) h
finds_given view (Err fault) meant M sound never h = fails_refuses fault meant M never h
