use Rattle.dk_store.proofs.Names.{behind_text}
use Rattle.dk_store.proofs.listing.strip_text.Goals as goal

pub returns : goal.returns
returns c = behind_text c.args.prefix.now c.args.text.now c.strip_prefix.result c.strip_prefix.ensures.cases
