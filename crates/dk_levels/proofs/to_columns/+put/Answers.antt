use Rattle.std.proofs.Common.{rules, arith}
use Rattle.dk_levels.proofs.Put.{into_list, into_map, width-List, width-Map, deep-List, deep-Map, lists_below, group_loop, group_within, group_ends, later_loop, later_ends, list_ends, two_cells, pair_ends}
use Rattle.dk_pqmodel.specs.NodeView.{field_of}
use Rattle.dk_pqmodel.specs.declared.row.Cell.{the_lemmas}
use Rattle.dk_levels.proofs.to_columns.+put.Goals as goal

pub put-put_list-requires : goal.put-put_list-requires
put-put_list-requires t c =
    let n = c.args.node.now in
    let b = c.in-List-kind.element in
    let element = c.deref-in-List-kind-2.ensures in
    let cells = c.deref-in-List-kind.ensures.value in (
      search (rules, the_lemmas),
      (
        rw (cells, element) (into_list n b c.args.cell.now c.in-List.cells c.in-List-kind.is c.in-List.is c.requires.fits),
        (
          rw element (omega (arith, width-List n b c.in-List-kind.is, c.requires.room)),
          (
            rw element (omega (arith, deep-List n b _ _ c.in-List-kind.is c.requires.deep c.reach-in-List-kind.ensures.definition)),
            rw c.reach-in-List-kind.ensures.lists (lists_below (field_of n) _ _ _ c.requires.lists c.reach-in-List-kind.ensures.definition),
          ),
        ),
      ),
    )

pub put-put_list-requires-in-Map : goal.put-put_list-requires-in-Map
put-put_list-requires-in-Map t c =
    let n = c.args.node.now in
    let b = c.in-Map.value in
    let value = c.deref-in-Map-2.ensures in
    let cells = c.deref-in-Map.ensures.value in (
      search (rules, the_lemmas),
      (
        rw (cells, value) (into_map n b c.args.cell.now c.in-List.cells c.in-Map.is c.in-List.is c.requires.fits),
        (
          rw value (omega (arith, width-Map n b c.in-Map.is, c.requires.room)),
          (
            rw value (omega (arith, deep-Map n b _ _ c.in-Map.is c.requires.deep c.reach-in-Map.ensures.definition)),
            rw c.reach-in-Map.ensures.lists (lists_below (field_of n) _ _ _ c.requires.lists c.reach-in-Map.ensures.definition),
          ),
        ),
      ),
    )

pub put_element-put-requires : goal.put_element-put-requires
put_element-put-requires t c =
    (search rules, (rw c.in-Elements.is at c.requires.fits, (rw c.in-Elements.is at c.requires.room, (rw c.in-Elements.is at c.requires.deep, c.requires.lists))))

pub put_element-put_entry-requires : goal.put_element-put_entry-requires
put_element-put_entry-requires t c =
    (search rules, (rw c.in-Entries.is at c.requires.fits, (rw c.in-Entries.is at c.requires.room, (rw c.in-Entries.is at c.requires.deep, c.requires.lists))))

pub put_group-bounds-nodes-i : goal.put_group-bounds-nodes-i
put_group-bounds-nodes-i t c = group_within c.args.nodes.now c.args.cells.now c.loop-i.i c.requires.fits (omega arith)

pub put_group-loop-i-preserved : goal.put_group-loop-i-preserved
put_group-loop-i-preserved t c =
    group_loop c.args.nodes.now c.args.cells.now c.loop-i.i c.index-nodes-i.result c.index-cells-i.result c.loop-i.columns c.put.new.columns c.loop-i.next c.in_ok-next.next _ _ _ _ _
    (group_within c.args.nodes.now c.args.cells.now c.loop-i.i c.requires.fits (omega arith)) c.index-nodes-i.is (omega arith) c.index-cells-i.is
    c.in_ok-next.ensures.added c.in_ok-next.ensures.next c.loop-i.invariant

pub put_group-returns-clause-added : goal.put_group-returns-clause-added
put_group-returns-clause-added t c =
    group_ends c.args.nodes.now c.args.cells.now c.loop-i.i c.loop-i.columns c.loop-i.next _ _ _ _ _ c.requires.fits (omega arith) (omega (arith, c.requires.room)) c.loop-i.invariant

pub put_later-loop-i-preserved : goal.put_later-loop-i-preserved
put_later-loop-i-preserved t c =
    later_loop _ c.args.cells.now c.loop-i.i c.index-cells-i.result c.loop-i.columns c.put_element.new.columns c.args.leaf c.args.levels.repetition _ _ _
    (omega arith) c.index-cells-i.is c.requires.later c.in_ok-put_element.ensures.added c.loop-i.invariant

pub put_later-returns : goal.put_later-returns
put_later-returns t c =
    later_ends _ c.args.cells.now c.loop-i.i c.loop-i.columns c.args.leaf _ _ _ (omega arith) (omega (arith, c.requires.room)) c.loop-i.invariant

pub put_list-returns-clause-added : goal.put_list-returns-clause-added
put_list-returns-clause-added t c =
    list_ends _ c.args.cells.now c.index-cells-0.result c.args.columns.now c.put_element.new.columns c.put_later.new.columns c.args.leaf _ _ _
    (search rules) c.index-cells-0.is c.in_ok-next.ensures.added c.in_ok-put_later.ensures

pub put_pair-bounds-cells-0 : goal.put_pair-bounds-cells-0
put_pair-bounds-cells-0 t c = omega (arith, two_cells c.args.cells.now (field_of c.args.node.now) c.requires.fits)

pub put_pair-returns-clause-added : goal.put_pair-returns-clause-added
put_pair-returns-clause-added t c =
    pair_ends c.args.cells.now (field_of c.args.node.now) c.index-cells-0.result c.index-cells-1.result c.args.columns.now c.push_key.new.columns _ c.args.leaf c.in_ok-value.value _ _ _
    c.requires.fits c.index-cells-0.is c.index-cells-1.is c.in_ok-value.ensures.added c.in_ok-value.ensures.next c.in_ok-next.ensures.added
