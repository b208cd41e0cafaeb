use Rattle.std.proofs.Common.{◌≡◌, true, length, sym, ap, ◌∙◌, rules}
use Rattle.std.proofs.lemmas.Int.{to_z-of_z}
use Rattle.std.specs.Prelude.{FitsSigned}
use Rattle.std.specs.Int.{w32}
use Rattle.dk_pqmodel.specs.FileSchema.{is_single, kind_at}
use Rattle.dk_pqmeta.specs.View.{node_of}
use Rattle.dk_pqread.specs.LeafView.{leaf_of}
use Rattle.dk_pqread.proofs.FileNodes.{inner_of, leaf_found}
use Rattle.dk_pqread.proofs.tree.leaf_kind.Goals as goal

pub returns : goal.returns
returns c =
    let fits : FitsSigned w32 c.in_ok-physical.physical = search rules in
    let none : length (inner_of c.args.node.now) ≡ 0 = search rules in
    let single : is_single (node_of c.args.node.now) ≡ true = search rules in
    c.kind_at.ensures ∙ ap (kind_at (leaf_of c.args.wanted)) (to_z-of_z w32 c.in_ok-physical.physical fits)
    ∙ sym (leaf_found (leaf_of c.args.wanted) c.args.node.now c.in_ok-physical.physical c.in_ok-physical.was none single)
