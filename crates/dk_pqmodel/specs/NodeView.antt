-- What schemas stand for: texts, vectors and boxes are their content.
use Rattle.std.specs.Prelude.{List, [], ◌∷◌, map, string_bytes}
use Rattle.dk_pqmodel.specs.Shape as shape
use Rattle.dk_pqmodel.specs.Shape.{Shape, Field, Fields, no_fields, one_field, field}
use Rattle.dk_pqmodel.specs.declared.node.Node.{Node}
use Rattle.dk_pqmodel.specs.declared.node.NodeKind.{NodeKind}
use Rattle.dk_pqmodel.specs.declared.node.NodeKind.TheFolds.{fold-NodeKind, fold-Node}
use Rattle.dk_pqmodel.specs.declared.node.NodeKind.TheOpen.{NodeKind-F, Node-F}

abbrev pub fields_of_list : List Field → Fields
fields_of_list [] = no_fields
fields_of_list (f ∷ fs) = one_field f (fields_of_list fs)

abbrev pub shape_step : NodeKind-F Shape Field → Shape
shape_step NodeKind-F.Flag = shape.leaf shape.flag
shape_step NodeKind-F.Int32 = shape.leaf shape.int32
shape_step NodeKind-F.Int64 = shape.leaf shape.int64
shape_step NodeKind-F.Chars = shape.leaf shape.chars
shape_step (NodeKind-F.Group v) = shape.group (fields_of_list v.items)
shape_step (NodeKind-F.List b) = shape.list b.value
shape_step (NodeKind-F.Map b) = shape.map_of b.value

abbrev pub field_step : Node-F Shape Field → Field
field_step n = field (string_bytes n.name) n.nullable n.kind

abbrev pub shape_of : NodeKind → Shape
shape_of = fold-NodeKind Shape Field shape_step field_step

abbrev pub field_of : Node → Field
field_of = fold-Node Shape Field shape_step field_step

abbrev pub fields_of : List Node → Fields
fields_of ns = fields_of_list (map field_of ns)
