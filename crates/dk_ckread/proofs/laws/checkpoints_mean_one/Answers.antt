-- The laws of checkpoints, as a file means one list of rows.
use Rattle.dk_lawful.proofs.OneMeaning.{checkpoint_means_one}
use Rattle.dk_lawful.proofs.WholeCheckpoints.{read_checkpoints_stand}
use Rattle.dk_pqread.proofs.OneList.{one_list}
use Rattle.dk_ckread.proofs.laws.checkpoints_mean_one.Goals as goal

pub returns-clause-one : goal.returns-clause-one
returns-clause-one c = checkpoint_means_one one_list

pub returns-clause-read : goal.returns-clause-read
returns-clause-read c = read_checkpoints_stand one_list
