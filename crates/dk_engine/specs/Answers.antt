-- What an answer owes to a meaning: a value, or the refusal whose cause the objects show.
use Rattle.std.specs.Prelude.{◌≡◌, Result, Ok, Err}
use Rattle.dk_store.specs.declared.event.StoreError.{StoreError}
use Rattle.dk_store.specs.declared.event.StoreError.TheVariants as errors
use Rattle.dk_engine.specs.declared.refusal.Refusal.{Refusal}
use Rattle.dk_engine.specs.declared.refusal.Refusal.TheVariants as refusals

abbrev pub refusal_of : StoreError → Refusal
refusal_of errors.Failed = refusals.Store
refusal_of errors.OutOfMemory = refusals.OutOfMemory

-- The refusal is the meaning's. That of the store has its cause in the count of faults, and want of memory is free. No meaning has that
-- a path was taken: its cause is the count of clashes, so a call that makes objects says of its own when that comes.
abbrev pub Refuses : {Y : Type 0} → Refusal → Result Y Refusal → Type 0
Refuses refusals.Store meant = Unit {0}
Refuses refusals.OutOfMemory meant = Unit {0}
Refuses (refusals.Taken path) meant = ⊥
Refuses refusal meant = meant ≡ Err refusal

-- what a call answered, seen by `view`, is what is meant
abbrev pub AnswersMeant : {X Y : Type 0} → (X → Y) → Result X Refusal → Result Y Refusal → Type 0
AnswersMeant view (Ok x) meant = meant ≡ Ok (view x)
AnswersMeant view (Err refusal) meant = Refuses refusal meant

-- the same where a meaning is a relation, which says of each value and each refusal whether it is meant
abbrev pub AnswersBy : {X Y : Type 0} → (X → Y) → Result X Refusal → (Result Y Refusal → Type 0) → Type 0
AnswersBy view (Ok x) means = means (Ok (view x))
AnswersBy view (Err refusals.Store) means = Unit {0}
AnswersBy view (Err refusals.OutOfMemory) means = Unit {0}
AnswersBy view (Err (refusals.Taken path)) means = ⊥
AnswersBy view (Err refusal) means = means (Err refusal)
