use Rattle.dk_model.proofs.FirstBad as first
use Rattle.dk_model.proofs.laws.fault_is_first.Goals as goal

pub returns : goal.returns
returns c = first.fault_is_first
