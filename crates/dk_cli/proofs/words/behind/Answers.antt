use Rattle.dk_store.proofs.Names.{behind_text}
use Rattle.dk_cli.proofs.words.behind.Goals as goal

pub returns : goal.returns
returns c = behind_text c.args.front.now c.args.text.now c.strip_prefix.result c.strip_prefix.ensures.cases
