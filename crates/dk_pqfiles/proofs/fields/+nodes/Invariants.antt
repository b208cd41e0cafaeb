use Rattle.std.proofs.Common.{◌+◌, ◌*◌}
use Rattle.dk_pqfiles.proofs.fields.+nodes.Given as goal

abbrev pub decreases-kind_of : goal.decreases-kind_of
decreases-kind_of l = 4 * l.levels

abbrev pub decreases-node_of : goal.decreases-node_of
decreases-node_of l = 4 * l.levels + 1

abbrev pub decreases-each_of : goal.decreases-each_of
decreases-each_of l = 4 * l.levels + 2

abbrev pub decreases-inner_of : goal.decreases-inner_of
decreases-inner_of l = 4 * l.levels + 3
