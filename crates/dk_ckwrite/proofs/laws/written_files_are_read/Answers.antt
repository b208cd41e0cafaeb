use Rattle.dk_ckwrite.proofs.ReadBack.{read_back}
use Rattle.dk_ckwrite.proofs.SameActions.{same_actions}
use Rattle.dk_ckwrite.proofs.laws.written_files_are_read.Goals as goal

pub returns-clause-rows : goal.returns-clause-rows
returns-clause-rows c = read_back

pub returns-clause-actions : goal.returns-clause-actions
returns-clause-actions c = same_actions
