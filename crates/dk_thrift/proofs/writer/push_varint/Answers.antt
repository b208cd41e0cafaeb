use Rattle.std.proofs.Common.{arith}
use Rattle.dk_thrift.proofs.Written.{ends, goes_on}
use Rattle.dk_thrift.proofs.writer.push_varint.Goals as goal

pub loop-rest-preserved : goal.loop-rest-preserved
loop-rest-preserved c =
    goes_on c.loop-rest.bytes.items c.push.new.self.items _ _ c.loop-rest.rest (omega arith) (omega arith) c.in_ok-push.ensures.items c.loop-rest.invariant

pub returns : goal.returns
returns c = ends c.loop-rest.bytes.items c.push-2.new.self.items _ c.loop-rest.rest (omega arith) c.in_ok-push-2.ensures.items c.loop-rest.invariant
