use Rattle.dk_model.proofs.LinesBack as lines
use Rattle.dk_model.proofs.laws.written_reads_back.Goals as goal

pub returns : goal.returns
returns c = lines.written_reads_back
