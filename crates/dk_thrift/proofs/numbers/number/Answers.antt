use Rattle.std.proofs.Common.{sym}
use Rattle.dk_thrift.proofs.GroupLemmas.{cut_off, of_bytes, too_many_bits}
use Rattle.dk_thrift.proofs.numbers.number.Goals as goal

pub returns-in_default : goal.returns-in_default
returns-in_default c = cut_off c.args.bytes.now (sym c.in_default.ensures)

pub returns-in-Some-value_of : goal.returns-in-Some-value_of
returns-in-Some-value_of c =
    of_bytes c.args.bytes.now c.split_at.result.0.now c.split_at.result.1.now c.in-Some.last c.in-Some.ensures c.split_at.ensures.front c.split_at.ensures.back
    c.in-Some-value_of.value c.in-Some-value_of.ensures

pub returns-in-None : goal.returns-in-None
returns-in-None c =
    too_many_bits c.args.bytes.now c.split_at.result.0.now c.split_at.result.1.now c.in-Some.last c.in-Some.ensures c.split_at.ensures.front c.split_at.ensures.back
    c.in-None.ensures
