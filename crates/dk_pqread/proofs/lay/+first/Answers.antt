use Rattle.std.proofs.Common.{◌≡◌, [], ◌∷◌, ◌++◌, IfOk, string_bytes, sym, ap, subst, ◌∙◌, arith}
use Rattle.dk_pqmodel.specs.Projection.{first_leaf}
use Rattle.dk_pqmodel.specs.NodeView.{shape_of}
use Rattle.dk_pqread.specs.PlanView.{path_of}
use Rattle.dk_pqread.proofs.Cutting.{first_named}
use Rattle.dk_pqread.proofs.lay.+first.Goals as goal

pub first_leaf_of-returns-in_ok-path-in-len1-up : goal.first_leaf_of-returns-in_ok-path-in-len1-up
first_leaf_of-returns-in_ok-path-in-len1-up t c =
    let below : path_of c.deref-in-len1-up.result.now ≡ path_of c.args.path.now ++ string_bytes c.node-item.result.name ∷ [] =
    ap path_of c.deref-in-len1-up.ensures.value ∙ c.in_ok-path-in-len1-up.ensures ∙ ap (λ name. path_of c.args.path.now ++ name ∷ []) c.deref.ensures in
    let whole = first_named c.args.nodes.now c.node-item.result (path_of c.args.path.now) (omega arith) c.node-item.is ∙ ap (first_leaf (shape_of c.node-item.result.kind)) (sym below) in
    subst (λ x. IfOk c.first_leaf.result (λ v. path_of v.items ≡ x)) (sym whole) c.first_leaf.ensures
