-- What a call over a store may do to it, with its refusals among the answers.
use Rattle.std.specs.Prelude.{ℕ, ◌≡◌, ◌≤◌, List, Result, Err}
use Rattle.dk_store.specs.Causes.{Rose}
use Rattle.dk_store.specs.Seen.{Seen, Grows}
use Rattle.dk_engine.specs.declared.refusal.Refusal.{Refusal}
use Rattle.dk_engine.specs.declared.refusal.Refusal.TheVariants as refusals

-- It only reads: nothing is written and no clash is counted. `Store` comes only where the count of faults rose, and
-- `Taken` never.
pub record OnlyReads {T : Type 0} (old new : Seen) (result : Result T Refusal) : Type 0 where
  pub same : new.told ≡ old.told
  pub clashes_same : new.clashes ≡ old.clashes
  pub later : old.faults ≤ new.faults
  pub store : result ≡ Err refusals.Store → Rose old.faults new.faults
  pub taken : (path : List ℕ) → result ≡ Err (refusals.Taken path) → ⊥

-- It may write, one event or several, behind those that stand. `Store` comes only where the count of faults rose, and
-- `Taken` only where that of clashes did.
pub record MayPut {T : Type 0} (old new : Seen) (result : Result T Refusal) : Type 0 where
  pub grows : Grows old.told new.told
  pub clashes_later : old.clashes ≤ new.clashes
  pub later : old.faults ≤ new.faults
  pub store : result ≡ Err refusals.Store → Rose old.faults new.faults
  pub taken : (path : List ℕ) → result ≡ Err (refusals.Taken path) → Rose old.clashes new.clashes
