use Rattle.std.proofs.Common.{sym}
use Rattle.dk_pqmodel.proofs.Testing.{some_fields}
use Rattle.dk_pqmodel.proofs.rules.+sound.Goals as goal

pub is_sound_group-returns : goal.is_sound_group-returns
is_sound_group-returns t c = rw (some_fields c.args.nodes.now (sym c.if-is_empty.ensures), sym c.if-not-are_distinct.ensures) c.are_sound.ensures
