use Rattle.dk_actjson.proofs.Tokens.{closed_object}
use Rattle.dk_actjson.proofs.object.write_object.Goals as goal

pub returns : goal.returns
returns g c =
    closed_object c.args.writer.now c.open_object.new.writer c.write_fields.new.writer c.close_object.new.writer _ c.in_ok-write_fields.ensures.rising c.in_ok-open_object.ensures c.in_ok-write_fields.ensures.written
    c.in_ok-close_object.ensures
