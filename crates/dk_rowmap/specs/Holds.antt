-- What a field of a group of checkpoints holds.
use Rattle.dk_pqmodel.specs.Shape.{flag, int32, int64, chars, Shape, leaf}
use Rattle.dk_lawful.specs.CheckpointSchema.{list_of_texts, text_map}
use Rattle.dk_rowmap.specs.declared.kinds.Holds.{Holds}
use Rattle.dk_rowmap.specs.declared.kinds.Holds.TheVariants as holds

abbrev pub shape_held : Holds → Shape
shape_held holds.Text = leaf chars
shape_held holds.Version = leaf int32
shape_held holds.Number = leaf int64
shape_held holds.Flag = leaf flag
shape_held holds.Texts = list_of_texts
shape_held holds.Map = text_map
