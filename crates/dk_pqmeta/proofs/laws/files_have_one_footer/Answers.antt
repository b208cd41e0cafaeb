use Rattle.dk_pqmeta.proofs.Footers.{one_footer}
use Rattle.dk_pqmeta.proofs.laws.files_have_one_footer.Goals as goal

pub returns : goal.returns
returns c = one_footer
