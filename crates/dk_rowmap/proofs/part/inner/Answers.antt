use Rattle.std.proofs.Common.{ap}
use Rattle.serde_json.specs.Data.{object}
use Rattle.dk_pqmodel.specs.NodeView.{fields_of}
use Rattle.dk_pqmodel.specs.RowView.{cells_of}
use Rattle.dk_pqmodel.specs.Object.{members_of}
use Rattle.dk_rowmap.proofs.RowSteps.{inner_same}
use Rattle.dk_rowmap.proofs.part.inner.Goals as goal

pub returns : goal.returns
returns c = ap (λ cs. object (members_of cs (fields_of c.args.nodes.now))) (inner_same (fields_of c.args.nodes.now) (cells_of c.args.cells.now))
