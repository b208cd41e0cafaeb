use Rattle.dk_actjson.proofs.LineTurns.{newline_is}
use Rattle.dk_actjson.proofs.read.newline.Goals as goal

pub returns : goal.returns
returns c = newline_is c.args.bytes.now c.memchr.result c.memchr.ensures
