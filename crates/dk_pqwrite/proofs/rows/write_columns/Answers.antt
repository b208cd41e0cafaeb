use Rattle.std.proofs.Common.{rules, ◌≡◌, ◌<◌, ◌≤◌, ◌++◌, ◌+◌, [], ◌∷◌, length, map, get_or, refl, ap, ◌∙◌}
use Rattle.std.specs.Vec.Iter.{into_iter_items, into_iter_len}
use Rattle.dk_pqwrite.specs.SchemaLeaves.{leaf_view}
use Rattle.dk_pqwrite.proofs.WholeColumns.{all_written, at_any_path, begun, next_column, none_to_come, of_leaf, one_less, some_left, still_begun, writable}
use Rattle.dk_pqwrite.proofs.rows.write_columns.Goals as goal

pub loop-triples-init : goal.loop-triples-init
loop-triples-init c =
    let all : into_iter_items c.into_iter-leaves.result ≡ c.args.leaves.items = search rules in
    let none : c.new-chunks.result.items ≡ [] = search rules in
    (rw (all, none) (begun c.args.columns.now (map leaf_view c.args.leaves.items) c.args.out.now.items c.requires.writable), search rules)

pub unreachable-requires : goal.unreachable-requires
unreachable-requires c =
    let room : c.loop-triples.triples-index < length c.args.columns.now = search rules in
    let is : c.triples-item.result ≡ get_or c.args.columns.now c.loop-triples.triples-index c.triples-item.result = search rules in
    let zero : into_iter_len c.loop-triples.leaves ≡ 0 = search rules in
    let none : into_iter_items c.loop-triples.leaves ≡ [] = none_to_come (into_iter_items c.loop-triples.leaves) (into_iter_len c.loop-triples.leaves) c.loop-triples.invariant.1 zero in
    some_left c.args.columns.now c.loop-triples.triples-index c.triples-item.result room is (map leaf_view c.args.leaves.items) (map leaf_view (into_iter_items c.loop-triples.leaves)) c.loop-triples.chunks.items
    c.args.out.now.items c.loop-triples.out.items c.loop-triples.invariant.0 (ap (map leaf_view) none)

pub write_column-requires-clause-begun : goal.write_column-requires-clause-begun
write_column-requires-clause-begun c =
    still_begun c.args.columns.now c.loop-triples.triples-index (map leaf_view c.args.leaves.items) (map leaf_view (into_iter_items c.loop-triples.leaves)) c.loop-triples.chunks.items c.args.out.now.items
    c.loop-triples.out.items c.requires.begun c.loop-triples.invariant.0

pub write_column-requires-clause-writable : goal.write_column-requires-clause-writable
write_column-requires-clause-writable c =
    let room : c.loop-triples.triples-index < length c.args.columns.now = search rules in
    let is : c.triples-item.result ≡ get_or c.args.columns.now c.loop-triples.triples-index c.triples-item.result = search rules in
    let read : c.deref.result.now ≡ c.triples-item.result.items = search rules in
    let next : into_iter_items c.loop-triples.leaves ≡ c.in-Some.leaf ∷ into_iter_items c.next.new.self = c.next.ensures.items ∙ rw c.in-Some.is refl in
    at_any_path c.in-Some.leaf c.triples-item.result.items c.deref.result.now read
    (writable c.args.columns.now c.loop-triples.triples-index c.triples-item.result room is (leaf_view c.in-Some.leaf) (map leaf_view c.args.leaves.items) (map leaf_view (into_iter_items c.loop-triples.leaves))
    (map leaf_view (into_iter_items c.next.new.self)) c.loop-triples.chunks.items c.args.out.now.items c.loop-triples.out.items c.loop-triples.invariant.0 (ap (map leaf_view) next))

pub loop-triples-preserved : goal.loop-triples-preserved
loop-triples-preserved c =
    let room : c.loop-triples.triples-index < length c.args.columns.now = search rules in
    let is : c.triples-item.result ≡ get_or c.args.columns.now c.loop-triples.triples-index c.triples-item.result = search rules in
    let read : c.deref.result.now ≡ c.triples-item.result.items = search rules in
    let next : into_iter_items c.loop-triples.leaves ≡ c.in-Some.leaf ∷ into_iter_items c.next.new.self = c.next.ensures.items ∙ rw c.in-Some.is refl in
    let pushed : c.push.new.self.items ≡ c.loop-triples.chunks.items ++ c.in_ok-chunk.chunk ∷ [] = search rules in
    let fewer : into_iter_len c.next.new.self + 1 ≡ into_iter_len c.loop-triples.leaves = search rules in (
      next_column c.args.columns.now c.loop-triples.triples-index c.triples-item.result room is (leaf_view c.in-Some.leaf) c.in_ok-chunk.chunk (map leaf_view c.args.leaves.items)
          (map leaf_view (into_iter_items c.loop-triples.leaves)) (map leaf_view (into_iter_items c.next.new.self)) c.loop-triples.chunks.items c.push.new.self.items c.args.out.now.items c.loop-triples.out.items
          c.write_column.new.out.items c.loop-triples.invariant.0 (ap (map leaf_view) next)
          (of_leaf c.in-Some.leaf c.triples-item.result.items c.deref.result.now c.in_ok-chunk.chunk c.loop-triples.out.items c.write_column.new.out.items
          read c.in_ok-chunk.ensures.written)
          pushed,
      one_less c.in-Some.leaf (into_iter_items c.loop-triples.leaves) (into_iter_items c.next.new.self) (into_iter_len c.loop-triples.leaves) (into_iter_len c.next.new.self) c.loop-triples.invariant.1 next fewer,
    )

pub returns : goal.returns
returns c =
    let past : length c.args.columns.now ≤ c.loop-triples.triples-index = search rules in
    all_written c.args.columns.now c.loop-triples.triples-index (map leaf_view c.args.leaves.items) (map leaf_view (into_iter_items c.loop-triples.leaves)) c.loop-triples.chunks.items c.args.out.now.items
    c.loop-triples.out.items past c.loop-triples.invariant.0
