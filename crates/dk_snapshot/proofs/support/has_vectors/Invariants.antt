use Rattle.std.proofs.Common.{◌≡◌}
use Rattle.std.specs.List.{list_any}
use Rattle.dk_snapshot.specs.Support.{has_vectors}
use Rattle.dk_snapshot.proofs.support.has_vectors.Given as goal

-- whether one of the files that are left has one tells it of all
abbrev pub invariant-loop-path : goal.invariant-loop-path
invariant-loop-path l = list_any (λ file. file.1.vector) l._path-iterator ≡ has_vectors l.files
