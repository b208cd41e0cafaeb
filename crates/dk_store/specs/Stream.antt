-- What a source and a sink show of themselves, and what one call of them may do.
use Rattle.std.specs.Prelude.{ℕ, ◌≡◌, ◌≤◌, ◌⊎◌, ◌++◌, List, [], Option, Result, Ok, Err, IfOk, IfSome, OnOk, OnErr, length, take, option_map}
use Rattle.dk_store.specs.declared.stream.Failed.{Failed}
use Rattle.dk_store.specs.Causes.{Rose}

-- a source at one moment: the bytes that are left, where it tells them, and how often it has failed
pub record SourceSeen : Type 0 where
  pub left : Option (List ℕ)
  pub faults : ℕ

-- a sink at one moment: the bytes that it has taken, where it tells them, and how often it has failed
pub record SinkSeen : Type 0 where
  pub taken : Option (List ℕ)
  pub faults : ℕ

-- the bytes taken, and more behind them
abbrev pub more : Option (List ℕ) → List ℕ → Option (List ℕ)
more taken piece = option_map (λ bytes. bytes ++ piece) taken

-- a piece, and then the bytes left
abbrev pub before : List ℕ → Option (List ℕ) → Option (List ℕ)
before piece left = option_map (λ rest. piece ++ rest) left

-- What was left is what stands in the buffer now, and then what is left; after a failure some of the first bytes may be gone.
abbrev pub TakesBytes : Result ℕ Failed → Option (List ℕ) → Option (List ℕ) → List ℕ → Type 0
TakesBytes (Ok n) old new buf = old ≡ before (take n buf) new
TakesBytes (Err e) old new buf = (gone : List ℕ) × (old ≡ before gone new)

-- Ok says how many of the first bytes of the piece were taken; after a failure some of the first may have been.
abbrev pub GivesBytes : Result ℕ Failed → Option (List ℕ) → Option (List ℕ) → List ℕ → Type 0
GivesBytes (Ok n) old new piece = new ≡ more old (take n piece)
GivesBytes (Err e) old new piece = (n : ℕ) × (new ≡ more old (take n piece))

-- what one call may do to a source: the first bytes left go into the buffer, nothing into an empty one or at the end,
-- and `Failed` comes only where the count of faults rose
pub record TakesFrom (old new : SourceSeen) (result : Result ℕ Failed) (buf_before buf : List ℕ) : Type 0 where
  pub bytes : TakesBytes result old.left new.left buf
  pub at_end : IfOk result (λ n. n ≡ 0 → length buf_before ≡ 0 ⊎ IfSome old.left (λ bytes. bytes ≡ []))
  pub later : old.faults ≤ new.faults
  pub failed : OnErr result (Rose old.faults new.faults)

-- what one call may do to a sink: it takes the first bytes of the piece; where it takes nothing of some, and where it
-- answers `Failed`, the count of faults rose
pub record GivesTo (old new : SinkSeen) (result : Result ℕ Failed) (piece : List ℕ) : Type 0 where
  pub bytes : GivesBytes result old.taken new.taken piece
  pub nothing : IfOk result (λ n. n ≡ 0 → length piece ≡ 0 ⊎ Rose old.faults new.faults)
  pub later : old.faults ≤ new.faults
  pub failed : OnErr result (Rose old.faults new.faults)

-- what the giving of a whole text may do to a sink: it took the text, or the count of faults rose and it took a beginning
pub record GivesWhole (old new : SinkSeen) (result : Result (Unit {0}) Failed) (text : List ℕ) : Type 0 where
  pub done : OnOk result (new.taken ≡ more old.taken text)
  pub part : OnErr result ((count : ℕ) × (new.taken ≡ more old.taken (take count text)))
  pub later : old.faults ≤ new.faults
  pub failed : OnErr result (Rose old.faults new.faults)
