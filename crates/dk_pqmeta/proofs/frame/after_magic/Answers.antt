use Rattle.std.proofs.lemmas.Slice.Eq.{strip_prefix_is}
use Rattle.std.proofs.lemmas.Bool.Decides.{Decides-eqb}
use Rattle.dk_pqmodel.specs.FooterBytes.{magic}
use Rattle.dk_pqmeta.proofs.frame.after_magic.Goals as goal

pub returns : goal.returns
returns c = strip_prefix_is Decides-eqb c.args.bytes.now magic c.strip_prefix.result c.strip_prefix.ensures.cases
