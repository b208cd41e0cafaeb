-- What a list or a map repeats.
use Rattle.dk_pqmodel.specs.Shape.{Field, entry}
use Rattle.dk_levels.specs.declared.levels.Repeated.{Repeated}
use Rattle.dk_levels.specs.declared.levels.Repeated.TheVariants.{Elements, Entries}

abbrev pub element_of : Repeated → Field → Field
element_of Elements f = f
element_of Entries f = entry f
