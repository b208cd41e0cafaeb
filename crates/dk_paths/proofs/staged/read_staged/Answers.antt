-- The staged commit that a text spells is what it names.
use Rattle.std.proofs.Common.{ap, ◌∙◌}
use Rattle.dk_paths.specs.Staged.{staged_of}
use Rattle.dk_paths.proofs.StagedNames.{IsStagedNameOf-one, staged_of-spelled}
use Rattle.dk_paths.proofs.staged.read_staged.Goals as goal

pub returns-clause-named : goal.returns-clause-named
returns-clause-named c =
    IsStagedNameOf-one c.as_bytes.result.now c.named.result c.named.ensures ∙ ap staged_of c.as_bytes.ensures.value

pub returns-clause-back : goal.returns-clause-back
returns-clause-back c = λ version id is written. returns-clause-named c ∙ staged_of-spelled c.args.name.now version id is written
