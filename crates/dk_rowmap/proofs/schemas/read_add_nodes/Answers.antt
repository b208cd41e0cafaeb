use Rattle.std.proofs.Common.{[], ◌∷◌, ◌++◌, map, true, codes, ap, ◌∙◌}
use Rattle.dk_pqmodel.specs.Shape.{leaf, chars, field}
use Rattle.dk_pqmodel.specs.NodeView.{field_of}
use Rattle.dk_rowmap.proofs.SoundSchemas.{with_vector}
use Rattle.dk_rowmap.proofs.schemas.read_add_nodes.Goals as goal

pub returns : goal.returns
returns c = with_vector (map field_of c.in_ok-nodes.nodes.items) _ (map field_of c.in_ok-vector.vector.items) c.in_ok-nodes-2.ensures c.in_ok-nodes.ensures
    (c.in_ok-vector.ensures ∙ ap (λ ns. map field_of ns ++ field (codes "storageType") true (leaf chars) ∷ []) c.new.ensures.items)
