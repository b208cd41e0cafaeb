-- The laws are lemmas.
use Rattle.dk_lawful.proofs.OneMeaning.{checkpoint_means_one}
use Rattle.dk_lawful.proofs.WholeCheckpoints.{checkpoints_stand, parts_stand, read_checkpoints_stand}
use Rattle.dk_lawful.proofs.checkpoint_laws.checkpoints_stand.Goals as goal

pub returns-clause-stand : goal.returns-clause-stand
returns-clause-stand c = checkpoints_stand

pub returns-clause-parts : goal.returns-clause-parts
returns-clause-parts c = parts_stand

pub returns-clause-one : goal.returns-clause-one
returns-clause-one c = checkpoint_means_one

pub returns-clause-read : goal.returns-clause-read
returns-clause-read c = read_checkpoints_stand
