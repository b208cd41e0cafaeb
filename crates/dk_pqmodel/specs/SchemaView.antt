-- What a schema stands for.
use Rattle.dk_pqmodel.specs.Shape.{Fields}
use Rattle.dk_pqmodel.specs.NodeView.{fields_of}
use Rattle.dk_pqmodel.specs.declared.schema.Schema.{Schema}

abbrev pub fields_in : Schema → Fields
fields_in schema = fields_of schema.nodes.items
