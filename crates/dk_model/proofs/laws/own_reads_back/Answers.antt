use Rattle.dk_model.proofs.LinesBack as lines
use Rattle.dk_model.proofs.laws.own_reads_back.Goals as goal

pub returns : goal.returns
returns c = lines.own_reads_back
