-- What nodes stand for, part by part.
use Rattle.std.proofs.Common.{◌≡◌, ℕ, zero, suc, ◌+◌, ◌<◌, List, [], ◌∷◌, length, get_or, drop, rules, string_bytes, Box, sym, ap, add-one, arith, Global}
use Rattle.dk_pqmodel.specs.Shape.{Shape, Field, field, one_field}
use Rattle.dk_pqmodel.specs.Shape as shape
use Rattle.dk_pqmodel.specs.NodeView.{fields_of, field_of, shape_of, shape_step, field_step}
use Rattle.dk_pqmodel.specs.declared.node.Node.{Node}
use Rattle.dk_pqmodel.specs.declared.node.NodeKind.{Flag, Int32, Int64, Chars, Map, the_lemmas}
use Rattle.dk_pqmodel.specs.declared.node.NodeKind as node
use Rattle.dk_pqmodel.specs.declared.node.NodeKind.TheFolds.{fold_out-Node}

-- a node's field, part by part
pub field_of-is : (n : Node) → field_of n ≡ field (string_bytes n.name) n.nullable (shape_of n.kind)
field_of-is n = fold_out-Node Shape Field shape_step field_step n

pub shape_of-Flag : shape_of Flag ≡ shape.leaf shape.flag
shape_of-Flag = search (rules, the_lemmas)

pub shape_of-Int32 : shape_of Int32 ≡ shape.leaf shape.int32
shape_of-Int32 = search (rules, the_lemmas)

pub shape_of-Int64 : shape_of Int64 ≡ shape.leaf shape.int64
shape_of-Int64 = search (rules, the_lemmas)

pub shape_of-Chars : shape_of Chars ≡ shape.leaf shape.chars
shape_of-Chars = search (rules, the_lemmas)

pub shape_of-List : (b : Box Node Global) → shape_of (node.List b) ≡ shape.list (field_of b.value)
shape_of-List b = search (rules, the_lemmas)

pub shape_of-Map : (b : Box Node Global) → shape_of (Map b) ≡ shape.map_of (field_of b.value)
shape_of-Map b = search (rules, the_lemmas)

fields_of-drop_suc : (ns : List Node) (i : ℕ) (n : Node) → i < length ns → n ≡ get_or ns i n → fields_of (drop i ns) ≡ one_field (field_of n) (fields_of (drop (suc i) ns))
fields_of-drop_suc [] i n h e = absurd (omega arith)
fields_of-drop_suc (m ∷ ns) zero n h e = ap (λ x. one_field (field_of x) (fields_of ns)) (sym e)
fields_of-drop_suc (m ∷ ns) (suc i) n h e = fields_of-drop_suc ns i n (omega arith) e

pub fields_of-drop : (ns : List Node) (i : ℕ) (n : Node) → i < length ns → n ≡ get_or ns i n → fields_of (drop i ns) ≡ one_field (field_of n) (fields_of (drop (i + 1) ns))
fields_of-drop ns i n h e = rw add-one (fields_of-drop_suc ns i n h e)
