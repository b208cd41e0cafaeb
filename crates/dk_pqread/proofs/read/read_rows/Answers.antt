use Rattle.dk_pqmodel.specs.SchemaView.{fields_in}
use Rattle.dk_pqread.proofs.Unopposed.{rows_only}
use Rattle.dk_pqread.proofs.read.read_rows.Goals as goal

pub returns-clause-only : goal.returns-clause-only
returns-clause-only c = rows_only (fields_in c.args.wanted.now) c.args.bytes.now c.read_file.result c.read_file.ensures
