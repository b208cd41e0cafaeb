use Rattle.std.proofs.Common.{◌+◌, ◌*◌}
use Rattle.dk_pqfiles.proofs.cells.+cells.Given as goal

abbrev pub decreases-cell_of : goal.decreases-cell_of
decreases-cell_of l = 4 * l.levels

abbrev pub decreases-cells_of : goal.decreases-cells_of
decreases-cells_of l = 4 * l.levels + 1

abbrev pub decreases-inner_of : goal.decreases-inner_of
decreases-inner_of l = 4 * l.levels + 2
