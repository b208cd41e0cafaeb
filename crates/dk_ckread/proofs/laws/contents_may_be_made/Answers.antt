-- What may be made, as a file means one list of rows.
use Rattle.dk_lawful.proofs.MayBeMade.{classic_may_be_made, v2_may_be_made}
use Rattle.dk_pqread.proofs.OneList.{one_list}
use Rattle.dk_ckread.proofs.laws.contents_may_be_made.Goals as goal

pub returns-clause-classic : goal.returns-clause-classic
returns-clause-classic c = classic_may_be_made one_list

pub returns-clause-v2 : goal.returns-clause-v2
returns-clause-v2 c = v2_may_be_made one_list
