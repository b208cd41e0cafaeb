use Rattle.dk_pqwrite.proofs.OwnPaths.{chunks_distinct}
use Rattle.dk_pqwrite.proofs.OwnTree.{own_tree}
use Rattle.dk_pqwrite.proofs.laws.a_written_schema_is_a_tree.Goals as goal

pub returns-clause-tree : goal.returns-clause-tree
returns-clause-tree c = own_tree

pub returns-clause-distinct : goal.returns-clause-distinct
returns-clause-distinct c = chunks_distinct
