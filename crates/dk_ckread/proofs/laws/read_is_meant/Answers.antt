-- What is answered is meant, and what is meant is answered, as a file means one list of rows and is then refused by nothing.
use Rattle.std.proofs.Common.{subst}
use Rattle.dk_lawful.specs.CheckpointSchema.{read_fields}
use Rattle.dk_pqread.proofs.OneList.{one_list}
use Rattle.dk_pqread.proofs.Unopposed.{never_refused}
use Rattle.dk_ckread.specs.Reading.{FileRefused}
use Rattle.dk_ckread.proofs.Answers.{reads_so}
use Rattle.dk_ckread.proofs.ReadMeans.{read_is_meant, meant_is_read}
use Rattle.dk_ckread.proofs.laws.read_is_meant.Goals as goal

pub returns-clause-answered : goal.returns-clause-answered
returns-clause-answered c = read_is_meant

pub returns-clause-meant : goal.returns-clause-meant
returns-clause-meant c =
    meant_is_read one_list (λ bytes rows file fault refused. subst (FileRefused bytes) (never_refused read_fields bytes rows file fault (reads_so bytes fault refused)) refused)
