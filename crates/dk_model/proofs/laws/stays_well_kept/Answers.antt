use Rattle.dk_model.proofs.WellKept as kept
use Rattle.dk_model.proofs.laws.stays_well_kept.Goals as goal

pub returns : goal.returns
returns c = kept.stays_well_kept
