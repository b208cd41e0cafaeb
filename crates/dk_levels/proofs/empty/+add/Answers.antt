use Rattle.std.proofs.Common.{arith}
use Rattle.dk_levels.proofs.Pending.{add_loop, add_map}
use Rattle.dk_levels.proofs.Views.{width_of_leaf}
use Rattle.dk_levels.proofs.empty.+add.Goals as goal

pub add_columns-loop-node-preserved : goal.add_columns-loop-node-preserved
add_columns-loop-node-preserved t c =
    add_loop c.args.nodes.now c.loop-node.node-index c.node-item.result c.loop-node.columns.items c.add_kind.new.columns.items _ (omega arith) c.node-item.is c.in_ok-add_kind.ensures c.loop-node.invariant

pub add_kind-returns-in-Flag : goal.add_kind-returns-in-Flag
add_kind-returns-in-Flag t c = rw (width_of_leaf c.args.kind.now c.in-Flag.is) c.add_column-in-Flag.ensures

pub add_kind-returns-in_ok-add_kind-in-Map : goal.add_kind-returns-in_ok-add_kind-in-Map
add_kind-returns-in_ok-add_kind-in-Map t c =
    rw c.in-Map.is (add_map c.in-Map.node c.args.columns.now.items c.add_column.new.columns.items c.add_kind-in-Map.new.columns.items
    c.in_ok-add_column-in-Map.ensures (rw c.deref-in-Map.ensures at c.in_ok-add_kind-in-Map.ensures))
