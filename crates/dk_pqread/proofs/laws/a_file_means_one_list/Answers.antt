use Rattle.dk_pqread.proofs.OneList.{one_list}
use Rattle.dk_pqread.proofs.laws.a_file_means_one_list.Goals as goal

pub returns : goal.returns
returns c = one_list
