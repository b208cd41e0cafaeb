-- The rows' meanings compute.
use Rattle.dk_lawful.proofs.RowExample.{rows_mean}
use Rattle.dk_lawful.proofs.checkpoint_laws.example_rows.Goals as goal

pub returns : goal.returns
returns c = record { mean = rows_mean }
