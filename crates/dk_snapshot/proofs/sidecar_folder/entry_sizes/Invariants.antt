use Rattle.std.proofs.Common.{take, map}
use Rattle.dk_store.specs.Views.{listed}
use Rattle.dk_snapshot.specs.Sizes.{HasSizes}
use Rattle.dk_snapshot.proofs.sidecar_folder.entry_sizes.Given as goal

abbrev pub invariant-loop-entry : goal.invariant-loop-entry
invariant-loop-entry l = HasSizes l.sizes (map listed (take l.entry-index l.entries))
