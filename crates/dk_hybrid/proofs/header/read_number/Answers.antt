use Rattle.std.proofs.Common.{arith}
use Rattle.dk_hybrid.proofs.Numbers.{endless}
use Rattle.dk_hybrid.proofs.header.read_number.Goals as goal

pub returns : goal.returns
returns c = endless c.args.bytes.now (λ i h. c.loop-last.invariant i (omega arith))
