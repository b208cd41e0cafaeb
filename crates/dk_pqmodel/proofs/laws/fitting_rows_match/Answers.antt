use Rattle.dk_pqmodel.proofs.Fitting.{fitting_rows_match}
use Rattle.dk_pqmodel.proofs.laws.fitting_rows_match.Goals as goal

pub returns : goal.returns
returns c = fitting_rows_match
