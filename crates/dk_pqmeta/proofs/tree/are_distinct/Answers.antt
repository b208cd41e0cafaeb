use Rattle.std.proofs.Common.{◌≡◌, ◌+◌, ◌<◌, true, false, not, Some, map, List, ℕ, Bor, drop, length, nat_eq, sym, ap, ◌∙◌, arith}
use Rattle.std.proofs.lemmas.List.{map-append}
use Rattle.std.specs.Cmp.Lexicographic.{pointwise}
use Rattle.std.specs.List.{list_any}
use Rattle.dk_pqmodel.specs.FileSchema.{one_node, node_name}
use Rattle.dk_pqmeta.specs.View.{node_of, nodes_of}
use Rattle.dk_pqmeta.proofs.Behind.{name_found, name_of_node, new_goes_on, new_refused, nodes_of-drop, not_twice}
use Rattle.dk_pqmeta.proofs.tree.are_distinct.Goals as goal

pub returns-then-not-branch : goal.returns-then-not-branch
returns-then-not-branch c =
    let nodes = c.args.nodes.now in
    let i = c.loop-node.node-index in
    let node = c.node-item.result in
    let name = c.as_str.result.now in
    let keys = c.loop-node.names.keys in
    let before = map (λ (k : Bor (List ℕ)). k.now) keys in
    let h : i < length nodes = omega arith in
    let opened : nodes_of (drop i nodes) ≡ one_node (node_of node) (nodes_of (drop (i + 1) nodes)) = nodes_of-drop nodes i node h c.node-item.is in
    let named : node_name (node_of node) ≡ name = name_of_node node ∙ sym c.as_str.ensures.value in
    let known : list_any (λ (k : Bor (List ℕ)). pointwise nat_eq name k.now) keys ≡ true = sym (not_twice c.in_ok-insert.field-0 _ c.in_ok-insert.ensures.added) ∙ ap not c.if-not-branch.true in
    ap Some (new_refused before (nodes_of (drop i nodes)) (node_of node) (nodes_of (drop (i + 1) nodes)) name _ opened named c.loop-node.invariant (sym (name_found c.as_str.result keys) ∙ known))

pub loop-node-preserved : goal.loop-node-preserved
loop-node-preserved c =
    let nodes = c.args.nodes.now in
    let i = c.loop-node.node-index in
    let node = c.node-item.result in
    let name = c.as_str.result.now in
    let keys = c.loop-node.names.keys in
    let before = map (λ (k : Bor (List ℕ)). k.now) keys in
    let h : i < length nodes = omega arith in
    let opened : nodes_of (drop i nodes) ≡ one_node (node_of node) (nodes_of (drop (i + 1) nodes)) = nodes_of-drop nodes i node h c.node-item.is in
    let named : node_name (node_of node) ≡ name = name_of_node node ∙ sym c.as_str.ensures.value in
    let known : list_any (λ (k : Bor (List ℕ)). pointwise nat_eq name k.now) keys ≡ false = sym (not_twice c.in_ok-insert.field-0 _ c.in_ok-insert.ensures.added) ∙ ap not c.if-not-branch.false in
    rw (c.in_ok-insert.ensures.keys, known, map-append) (new_goes_on before (nodes_of (drop i nodes)) (node_of node) (nodes_of (drop (i + 1) nodes)) name _ opened named c.loop-node.invariant (sym (name_found c.as_str.result keys) ∙ known))
