-- The name that a text spells is what it names.
use Rattle.std.proofs.Common.{ap, ◌∙◌}
use Rattle.dk_paths.specs.Names.{log_name_of}
use Rattle.dk_paths.proofs.Meanings.{IsNameOf-one, name_of-spelled}
use Rattle.dk_paths.proofs.read.read_name.Goals as goal

pub returns-clause-named : goal.returns-clause-named
returns-clause-named c = IsNameOf-one c.as_bytes.result.now c.named.result c.named.ensures ∙ ap log_name_of c.as_bytes.ensures.value

pub returns-clause-back : goal.returns-clause-back
returns-clause-back c = λ name is written. returns-clause-named c ∙ name_of-spelled c.args.name.now name is written
