use Rattle.std.proofs.Common.{◌++◌, length}
use Rattle.dk_grammar.specs.Plain.{little}
use Rattle.dk_pqmeta.proofs.Framing.{behind_magic, framed}
use Rattle.dk_pqmeta.proofs.frame.footer_part.Goals as goal

pub returns-in_default-before_magic : goal.returns-in_default-before_magic
returns-in_default-before_magic c = λ before part f.
    c.in_default-before_magic.ensures (f.content ++ (part ++ little 4 (length part))) (behind_magic c.args.bytes.now before part c.in-Some.behind.now f c.in-Some.ensures)

pub returns : goal.returns
returns c = framed c.args.bytes.now c.in-Some.behind.now c.in-Some-before_magic.inside.now c.sized_at_end.result c.in-Some.ensures c.in-Some-before_magic.ensures c.sized_at_end.ensures
