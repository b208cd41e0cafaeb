use Rattle.std.proofs.Common.{◌≡◌, ◌++◌, drop, string_bytes}
use Rattle.std.specs.List.{join_with_byte}
use Rattle.dk_pqread.specs.PlanView.{path_of}
use Rattle.dk_pqread.proofs.Dotted.{tails}
use Rattle.dk_pqread.proofs.names.dotted.Given as goal

abbrev pub invariant-loop-name : goal.invariant-loop-name
invariant-loop-name l = string_bytes l.column ++ tails (path_of (drop l.name-index l.rest)) ≡ join_with_byte 46 (path_of l.path)
