use Rattle.dk_model.proofs.LinesBack as lines
use Rattle.dk_model.proofs.laws.lines_are_utf8.Goals as goal

pub returns : goal.returns
returns c = lines.lines_are_utf8
