use Rattle.std.proofs.Common.{◌≡◌, take}
use Rattle.dk_pqread.specs.PlanView.{path_of}
use Rattle.dk_pqread.proofs.names.copy_path.Given as goal

abbrev pub invariant-loop-name : goal.invariant-loop-name
invariant-loop-name l = path_of l.names.items ≡ path_of (take l.name-index l.path)
