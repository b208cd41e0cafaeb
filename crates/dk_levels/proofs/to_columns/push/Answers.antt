use Rattle.dk_levels.proofs.Views.{pushed}
use Rattle.dk_levels.proofs.to_columns.push.Goals as goal

pub returns-clause-added : goal.returns-clause-added
returns-clause-added c = pushed c.args.columns.now c.args.leaf _ _ (record { repetition = c.args.levels.repetition; definition = c.args.levels.definition; value = c.args.value }) c.requires c.in_ok-push.ensures.items
