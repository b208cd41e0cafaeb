-- What a column holds, as plain data.
use Rattle.dk_pqmodel.specs.Shape as shape
use Rattle.dk_pqread.specs.declared.leaf.Leaf.{Leaf}
use Rattle.dk_pqread.specs.declared.leaf.Leaf.TheVariants.{Flag, Int32, Int64, Chars}

abbrev pub leaf_of : Leaf → shape.Leaf
leaf_of Flag = shape.flag
leaf_of Int32 = shape.int32
leaf_of Int64 = shape.int64
leaf_of Chars = shape.chars
