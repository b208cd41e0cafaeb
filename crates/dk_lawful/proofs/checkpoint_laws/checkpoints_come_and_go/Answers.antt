-- Each list is built on the example.
use Rattle.dk_lawful.proofs.CheckpointExample as example
use Rattle.dk_lawful.proofs.checkpoint_laws.checkpoints_come_and_go.Goals as goal

pub returns-clause-come : goal.returns-clause-come
returns-clause-come c = example.checkpointing_is_lawful

pub returns-clause-go : goal.returns-clause-go
returns-clause-go c = example.clearing_is_lawful

pub returns-clause-floor : goal.returns-clause-floor
returns-clause-floor c = example.cleared_floor
