-- The refusals of each call of a transaction, and no others, whether the store tells its events or not.
use Rattle.std.specs.Prelude.{◌≡◌, Result, Err, IfErr}
use Rattle.dk_engine.specs.declared.refusal.Refusal.{Refusal}
use Rattle.dk_engine.specs.declared.refusal.Refusal.TheVariants.{Store, Missing, Unsupported, Damaged, Limit, OutOfMemory, Invalid, Taken, WinnersGone, Conflict}

-- of its beginning at the latest version
abbrev pub BeginRefuses : Refusal → Type 0
BeginRefuses Store = Unit {0}
BeginRefuses (Missing path) = Unit {0}
BeginRefuses (Unsupported name) = Unit {0}
BeginRefuses (Damaged path place) = Unit {0}
BeginRefuses (Limit which value) = Unit {0}
BeginRefuses OutOfMemory = Unit {0}
BeginRefuses refusal = ⊥

-- of a check, and of all that comes before the put of a commit
abbrev pub CheckRefuses : Refusal → Type 0
CheckRefuses Store = Unit {0}
CheckRefuses (WinnersGone path) = Unit {0}
CheckRefuses (Unsupported name) = Unit {0}
CheckRefuses (Damaged path place) = Unit {0}
CheckRefuses (Limit which value) = Unit {0}
CheckRefuses (Invalid rule) = Unit {0}
CheckRefuses (Conflict version kind) = Unit {0}
CheckRefuses OutOfMemory = Unit {0}
CheckRefuses refusal = ⊥

-- of what tests a commit with no call of the store
pub record TestsOnly {X : Type 0} (result : Result X Refusal) : Type 0 where
  pub store : result ≡ Err Store → ⊥
  pub refusals : IfErr result CheckRefuses

-- of a commit
abbrev pub TransactionRefuses : Refusal → Type 0
TransactionRefuses (Taken path) = Unit {0}
TransactionRefuses refusal = CheckRefuses refusal

-- of a beginning and a commit in one call
abbrev pub CommitAtLatestRefuses : Refusal → Type 0
CommitAtLatestRefuses (Missing path) = Unit {0}
CommitAtLatestRefuses refusal = TransactionRefuses refusal
