use Rattle.std.proofs.Common.{take, map}
use Rattle.dk_store.specs.Views.{listed}
use Rattle.dk_snapshot.specs.Sizes.{HasSizes}
use Rattle.dk_snapshot.proofs.sizes.staged_sizes.Given as goal

abbrev pub invariant-loop-commit : goal.invariant-loop-commit
invariant-loop-commit l = HasSizes l.sizes (map (λ one. listed one.entry) (take l.commit-index l.staged))
