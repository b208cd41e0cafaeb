use Rattle.dk_ckread.proofs.FilesMean.{head_file_means, add_file_means, side_file_means, top_file_means}
use Rattle.dk_ckread.proofs.laws.example_files.Goals as goal

pub returns-clause-head : goal.returns-clause-head
returns-clause-head c = head_file_means

pub returns-clause-add : goal.returns-clause-add
returns-clause-add c = add_file_means

pub returns-clause-side : goal.returns-clause-side
returns-clause-side c = side_file_means

pub returns-clause-top : goal.returns-clause-top
returns-clause-top c = top_file_means
