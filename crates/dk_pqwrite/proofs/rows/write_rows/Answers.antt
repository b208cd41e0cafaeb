use Rattle.std.proofs.Common.{rules, ◌≡◌, [], length, map, ap, ◌∙◌, arith}
use Rattle.dk_pqmodel.proofs.Fitting.{fitting_rows_match}
use Rattle.dk_levels.specs.Borrowed.{borrowed_columns}
use Rattle.dk_pqmodel.specs.FooterBytes.{magic}
use Rattle.dk_pqmodel.specs.RowView.{rows_of}
use Rattle.dk_pqmodel.specs.SchemaView.{fields_in}
use Rattle.dk_pqmodel.specs.FileMeans.{columns_of as file_columns}
use Rattle.dk_pqmodel.specs.Triples.{triples}
use Rattle.dk_pqwrite.specs.declared.group.RowGroup.{RowGroup}
use Rattle.dk_pqwrite.specs.OverItself.{own_plans}
use Rattle.dk_pqwrite.specs.SchemaLeaves.{leaf_view}
use Rattle.dk_pqwrite.proofs.Shredded.{rows_counted, shredded_writable}
use Rattle.dk_pqwrite.proofs.WholeColumns.{of_schema}
use Rattle.dk_pqwrite.proofs.SaysBytes.{says_bytes}
use Rattle.dk_pqwrite.proofs.WholeFiles.{few_bytes, file_means}
use Rattle.dk_pqwrite.proofs.rows.write_rows.Goals as goal

pub shred_borrowed-requires : goal.shred_borrowed-requires
shred_borrowed-requires c = fitting_rows_match (fields_in c.args.schema.now) (rows_of c.args.rows.now) c.requires.fit

pub write_columns-requires-clause-writable : goal.write_columns-requires-clause-writable
write_columns-requires-clause-writable c =
    let fs = fields_in c.args.schema.now in
    let rows = rows_of c.args.rows.now in
    let read : c.deref.result.now ≡ c.in_ok-columns.columns.items = search rules in
    let cut : borrowed_columns c.deref.result.now ≡ triples fs rows = ap borrowed_columns read ∙ c.in_ok-columns.ensures in
    rw (c.in_ok-leaves.ensures, cut) (shredded_writable fs rows c.args.schema.now.is_schema c.requires.fit c.requires.light)

pub returns : goal.returns
returns c =
    let fs = fields_in c.args.schema.now in
    let rows = rows_of c.args.rows.now in
    let schema = c.args.schema.now.is_schema in
    let read : c.deref.result.now ≡ c.in_ok-columns.columns.items = search rules in
    let cut : borrowed_columns c.deref.result.now ≡ triples fs rows = ap borrowed_columns read ∙ c.in_ok-columns.ensures in
    let started : c.extend_from_slice.new.self.items ≡ magic = search rules in
    let chunks = c.in_ok-chunks.chunks in
    let before = c.write_columns.new.out.items in
    let bytes = c.end_file.new.bytes.items in
    let group : RowGroup = record { rows = length c.args.rows.now; size = _; chunks = chunks } in
    let written = of_schema (file_columns (own_plans fs []) 0 0) (triples fs rows) (map leaf_view c.in_ok-leaves.leaves.items) (borrowed_columns c.deref.result.now) chunks.items magic
    c.extend_from_slice.new.self.items before c.in_ok-leaves.ensures cut started c.in_ok-chunks.ensures in
    let own = file_means fs rows group _ before bytes schema (fitting_rows_match fs rows c.requires.fit) (rows_counted c.args.rows.now) written c.in_ok-end_file.ensures.ended in
    record {
      means = own.means;
      own = own;
      says = says_bytes fs (triples fs rows) group before bytes written (omega (arith, c.len.ensures, c.write_columns.new.out.ok.0, ap length written.added)) c.in_ok-end_file.ensures.ended;
      small = few_bytes fs rows chunks.items before bytes schema written c.in_ok-end_file.ensures.size;
    }
