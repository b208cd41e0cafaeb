use Rattle.std.proofs.Common.{refl}
use Rattle.dk_hybrid.proofs.Numbers.{one_byte}
use Rattle.dk_hybrid.proofs.header.read_header.Goals as goal

pub returns-then-first-lt128 : goal.returns-then-first-lt128
returns-then-first-lt128 c = one_byte c.args.bytes.now c.in_ok-first.first.now c.header_of.result c.in_ok-first.rest.now c.in_ok-first.ensures.cases.0 c.if-first-lt128.true (c.header_of.ensures 0 refl)
