-- The laws are lemmas.
use Rattle.dk_lawful.proofs.SegmentsAgree.{read_agrees, read_without_base, standing_step_means}
use Rattle.dk_lawful.proofs.segment_laws.segments_agree.Goals as goal

pub returns-clause-agrees : goal.returns-clause-agrees
returns-clause-agrees c = read_agrees

pub returns-clause-whole : goal.returns-clause-whole
returns-clause-whole c = read_without_base

pub returns-clause-means : goal.returns-clause-means
returns-clause-means c = standing_step_means
