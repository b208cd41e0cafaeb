use Rattle.std.proofs.Common.{arith}
use Rattle.dk_thrift.proofs.GroupLemmas.{too_great}
use Rattle.dk_thrift.proofs.numbers.value_of.Goals as goal

pub returns-then-value : goal.returns-then-value
returns-then-value c = too_great c.args.bytes.now c.loop-place.place c.loop-place.value (omega arith) c.loop-place.invariant.0 (omega arith)
