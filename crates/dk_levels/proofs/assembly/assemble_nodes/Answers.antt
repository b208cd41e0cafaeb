use Rattle.dk_pqmodel.specs.NodeView.{fields_of}
use Rattle.dk_pqmodel.specs.RowView.{rows_of}
use Rattle.dk_pqmodel.specs.ColumnView.{columns_in}
use Rattle.dk_levels.proofs.Exact.{found, only, broken, faults}
use Rattle.dk_levels.proofs.assembly.assemble_nodes.Goals as goal

pub returns-clause-found : goal.returns-clause-found
returns-clause-found c = found (λ v. rows_of v.items) (fields_of c.args.nodes.now) (columns_in c.args.columns) c.read_all.result c.read_all.ensures

pub returns-clause-only : goal.returns-clause-only
returns-clause-only c = only (λ v. rows_of v.items) (fields_of c.args.nodes.now) (columns_in c.args.columns) c.read_all.result c.requires c.read_all.ensures

pub returns-clause-broken : goal.returns-clause-broken
returns-clause-broken c = broken (λ v. rows_of v.items) (fields_of c.args.nodes.now) (columns_in c.args.columns) c.read_all.result c.requires c.read_all.ensures

pub returns-clause-faults : goal.returns-clause-faults
returns-clause-faults c = faults (λ v. rows_of v.items) _ c.read_all.result c.read_all.ensures
