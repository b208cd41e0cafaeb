-- What a call of a transaction may do to a store, with the refusals that it names, over every store, told or not.
use Rattle.std.specs.Prelude.{None, Result, IfErr}
use Rattle.dk_store.specs.Seen.{Seen}
use Rattle.dk_engine.specs.declared.refusal.Refusal.{Refusal}
use Rattle.dk_engine.specs.Effects.{OnlyReads, MayPut}
use Rattle.dk_txn.specs.Commits.{TakenClashes}

-- A check, or a beginning: it only reads, and is refused by none but these.
pub record OnlyChecks {T : Type 0} (Names : Refusal → Type 0) (old new : Seen) (result : Result T Refusal) : Type 0 where
  pub reads : OnlyReads old new result
  pub refusals : IfErr result Names

-- A commit: it may put, behind the events that stand, and is refused by none but these. That a path was taken it answers only after the clashes
-- that this takes: two at a commit's own path, one at a staged one.
pub record MayCommit {T : Type 0} (Names : Refusal → Type 0) (old new : Seen) (result : Result T Refusal) : Type 0 where
  pub puts : MayPut old new result
  pub refusals : IfErr result Names
  pub taken : IfErr result (TakenClashes None old.clashes new.clashes)
