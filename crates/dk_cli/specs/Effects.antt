-- What a command may do to the store, to its input and to its output, with its status among the causes.
use Rattle.std.specs.Prelude.{ℕ, ◌≡◌, ◌≤◌, List, [], Result, Err, IfSome, OnOk}
use Rattle.dk_store.specs.Causes.{Rose}
use Rattle.dk_store.specs.Seen.{Seen, Grows}
use Rattle.dk_store.specs.Stream.{SourceSeen, SinkSeen}
use Rattle.dk_engine.specs.declared.refusal.Refusal.TheVariants as refusals
use Rattle.dk_txn.specs.Commits.{RoseTwice}
use Rattle.dk_cli.specs.declared.status.Status.{Status}
use Rattle.dk_cli.specs.declared.status.Status.TheVariants as statuses
use Rattle.dk_cli.specs.Endings.{IsUnwritten}
use Rattle.dk_cli.specs.Reading.{TakesAtMost}

-- It only reads the store: nothing is written and no clash is counted. `Store` comes only where the count of faults rose.
pub record ReadsStore (old new : Seen) (status : Status) : Type 0 where
  pub same : new.told ≡ old.told
  pub clashes_same : new.clashes ≡ old.clashes
  pub later : old.faults ≤ new.faults
  pub store : status ≡ statuses.Refused refusals.Store → Rose old.faults new.faults

-- It may write, behind the events that stand. `Store` comes only where the count of faults rose, and `Taken` only where that of clashes rose by
-- two.
pub record PutsInStore (old new : Seen) (status : Status) : Type 0 where
  pub grows : Grows old.told new.told
  pub clashes_later : old.clashes ≤ new.clashes
  pub later : old.faults ≤ new.faults
  pub store : status ≡ statuses.Refused refusals.Store → Rose old.faults new.faults
  pub taken : (path : List ℕ) → status ≡ statuses.Refused (refusals.Taken path) → RoseTwice old.clashes new.clashes

-- It takes the input to its end where it is Done, and else at most one byte more than so many, unless the source failed. `SourceFault` comes
-- only where the count of faults rose.
pub record TakesFromSource (limit : ℕ) (old new : SourceSeen) (status : Status) : Type 0 where
  pub read : status ≡ statuses.Done → IfSome new.left (λ left. left ≡ [])
  pub most : (status ≡ statuses.SourceFault → ⊥) → TakesAtMost limit old.left new.left
  pub later : old.faults ≤ new.faults
  pub source : status ≡ statuses.SourceFault → Rose old.faults new.faults

-- The same of reading the input alone.
pub record ReadsSource {T : Type 0} (limit : ℕ) (old new : SourceSeen) (result : Result T Status) : Type 0 where
  pub read : OnOk result (IfSome new.left (λ left. left ≡ []))
  pub most : (result ≡ Err statuses.SourceFault → ⊥) → TakesAtMost limit old.left new.left
  pub later : old.faults ≤ new.faults
  pub source : result ≡ Err statuses.SourceFault → Rose old.faults new.faults

-- It writes to the output with Done and SinkFault alone. `SinkFault` comes only where the count of faults rose.
pub record WritesToSink (old new : SinkSeen) (status : Status) : Type 0 where
  pub unwritten : IsUnwritten status old.taken new.taken
  pub later : old.faults ≤ new.faults
  pub sink : status ≡ statuses.SinkFault → Rose old.faults new.faults
