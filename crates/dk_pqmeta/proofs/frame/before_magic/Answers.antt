use Rattle.std.proofs.lemmas.Slice.Eq.{strip_suffix_is}
use Rattle.std.proofs.lemmas.Bool.Decides.{Decides-eqb}
use Rattle.dk_pqmodel.specs.FooterBytes.{magic}
use Rattle.dk_pqmeta.proofs.frame.before_magic.Goals as goal

pub returns : goal.returns
returns c = strip_suffix_is Decides-eqb c.args.bytes.now magic c.strip_suffix.result c.strip_suffix.ensures.cases
