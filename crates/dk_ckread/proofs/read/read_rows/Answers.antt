use Rattle.std.specs.Prelude.{Vec, Err}
use Rattle.std.specs.Global.{Global}
use Rattle.std.proofs.Common.{rules, ◌≡◌}
use Rattle.dk_lawful.specs.CheckpointSchema.{read_fields}
use Rattle.dk_pqmodel.specs.Reads.{Reads}
use Rattle.dk_pqmodel.specs.RowView.{rows_of}
use Rattle.dk_pqmodel.specs.declared.row.Row.{Row}
use Rattle.dk_ckread.specs.Reading.{refusal_by}
use Rattle.dk_ckread.proofs.Answers.{file_got}
use Rattle.dk_ckread.proofs.read.read_rows.Goals as goal

pub returns : goal.returns
returns g c =
    let is : c.in_ok-refusal_by-in-Err.field-0 ≡ refusal_by c.args.path.now c.in-Err.fault = search rules in
    let reads : Reads read_fields c.args.bytes.now (Err c.in-Err.fault) = search rules in
    file_got (λ (rows : Vec Row Global). rows_of rows.items) c.args.path.now c.args.bytes.now c.in-Err.fault c.in_ok-refusal_by-in-Err.field-0 is reads
