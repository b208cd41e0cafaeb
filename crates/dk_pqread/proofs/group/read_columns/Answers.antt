use Rattle.std.proofs.Common.{◌∷◌, ◌++◌, [], map, take, sym, ap, subst, ◌∙◌}
use Rattle.std.proofs.lemmas.List.{map-append, take_more}
use Rattle.std.proofs.lemmas.Result.{err_from_is_err_and}
use Rattle.dk_pqmeta.specs.View.{chunk_view, group_view}
use Rattle.dk_pqmodel.specs.ColumnView.{column_of, columns_of}
use Rattle.dk_pqmodel.specs.FileMeans.{HasColumns}
use Rattle.dk_pqmodel.specs.declared.fault.PqFault.TheVariants.{Broken}
use Rattle.dk_pqread.specs.ColumnView.{column_at}
use Rattle.dk_pqread.specs.PlanView.{path_of}
use Rattle.dk_pqread.proofs.Groups.{chunk_there, columns_more, columns_refused, chunk_refused, no_chunk}
use Rattle.dk_pqread.proofs.group.read_columns.Goals as goal

pub returns-in_default : goal.returns-in_default
returns-in_default c =
    columns_refused c.args.before.now (group_view c.args.group.now) c.args.columns.now c.loop-column.column-index c.column-item.result Broken c.loop-column-test.true c.column-item.is
    (no_chunk c.args.before.now (group_view c.args.group.now) c.requires (column_at c.column-item.result) (sym c.in_default.ensures))

pub returns-in_err-read_chunk : goal.returns-in_err-read_chunk
returns-in_err-read_chunk c =
    let p = err_from_is_err_and c.from_residual.result c.from_residual.ensures.1 in
    rw (p.1, p.2)
    (columns_refused c.args.before.now (group_view c.args.group.now) c.args.columns.now c.loop-column.column-index c.column-item.result c.in_err-read_chunk.field-0.0 c.loop-column-test.true
    c.column-item.is
    (chunk_refused c.args.before.now (group_view c.args.group.now) c.requires (column_at c.column-item.result) (chunk_view c.in-Some.chunk.now) c.in_err-read_chunk.field-0.0 (sym c.in-Some.ensures)
    c.in_err-read_chunk.ensures))

pub loop-column-preserved : goal.loop-column-preserved
loop-column-preserved c =
    let i = c.loop-column.column-index in
    let first = take i c.args.columns.now in
    let names =
    ap (map column_at) (take_more c.args.columns.now i c.column-item.result c.loop-column-test.true ∙ ap (λ x. take i c.args.columns.now ++ x ∷ []) (sym c.column-item.is))
    ∙ map-append column_at first (c.column-item.result ∷ []) in
    let triples = ap columns_of c.in_ok-push.ensures.items ∙ map-append column_of c.loop-column.leaves.items (c.in_ok-read_chunk.field-0 ∷ []) in
    let held =
    columns_more c.args.before.now (group_view c.args.group.now) (map column_at first) (columns_of c.loop-column.leaves.items) (column_at c.column-item.result) (column_of c.in_ok-read_chunk.field-0)
    c.loop-column.invariant
    (chunk_view c.in-Some.chunk.now, chunk_there (path_of c.column-item.result.path.items) (group_view c.args.group.now).columns (chunk_view c.in-Some.chunk.now) (sym c.in-Some.ensures), c.in_ok-read_chunk.ensures) in
    subst (λ x. HasColumns c.args.before.now (group_view c.args.group.now) x (columns_of c.push.new.self.items)) (sym names)
    (subst (λ y. HasColumns c.args.before.now (group_view c.args.group.now) (map column_at first ++ column_at c.column-item.result ∷ []) y) (sym triples) held)
