use Rattle.std.proofs.Common.{take, map}
use Rattle.dk_store.specs.Views.{listed}
use Rattle.dk_snapshot.specs.Sizes.{HasSizes}
use Rattle.dk_snapshot.proofs.sizes.log_sizes.Given as goal

abbrev pub invariant-loop-named : goal.invariant-loop-named
invariant-loop-named l = HasSizes l.sizes (map (λ one. listed one.entry) (take l.named-index l.log))
