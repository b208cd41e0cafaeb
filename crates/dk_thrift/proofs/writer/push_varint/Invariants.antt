use Rattle.std.proofs.Common.{◌≡◌, ◌++◌}
use Rattle.dk_grammar.specs.Varint.{varint_bytes}
use Rattle.dk_thrift.proofs.writer.push_varint.Given as goal

-- what is left completes the number
abbrev pub invariant-loop-rest : goal.invariant-loop-rest
invariant-loop-rest l = l.bytes.items ++ varint_bytes l.rest ≡ l.fn.bytes.items ++ varint_bytes l.value

abbrev pub decreases-loop-rest : goal.decreases-loop-rest
decreases-loop-rest l = l.rest
