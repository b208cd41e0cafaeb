use Rattle.std.proofs.Common.{rules, sym}
use Rattle.dk_cli.proofs.Versions.{refused}
use Rattle.dk_cli.proofs.words.version_spelled.Goals as goal

pub returns-in-Err : goal.returns-in-Err
returns-in-Err c = sym (refused c.args.word.now c.parse.result c.in-Err.field-0 c.in-Err.is c.parse.ensures.value.0 (search rules) (search rules))
