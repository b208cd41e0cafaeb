use Rattle.std.proofs.Common.{◌≡◌, map, take}
use Rattle.dk_snapshot.specs.Sizes.{size_under}
use Rattle.dk_snapshot.proofs.sidecar_folder.sizes_under.Given as goal

abbrev pub invariant-loop-name : goal.invariant-loop-name
invariant-loop-name l = l.found.items ≡ map (λ name. size_under l.sizes name) (take l.name-index l.names)
