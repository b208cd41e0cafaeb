-- Both laws are lemmas.
use Rattle.dk_paths.proofs.NameOrder.{versions_order_texts, versions_order_commits}
use Rattle.dk_paths.proofs.laws.names_stand_as_versions.Goals as goal

pub returns-clause-texts : goal.returns-clause-texts
returns-clause-texts c = versions_order_texts

pub returns-clause-commits : goal.returns-clause-commits
returns-clause-commits c = versions_order_commits
