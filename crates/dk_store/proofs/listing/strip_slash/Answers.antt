use Rattle.dk_store.proofs.Names.{behind_slash}
use Rattle.dk_store.proofs.listing.strip_slash.Goals as goal

pub returns : goal.returns
returns c = behind_slash c.args.text.now c.strip_prefix.result c.strip_prefix.ensures.cases
