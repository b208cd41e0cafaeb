use Rattle.std.proofs.Common.{◌≡◌, false, map, sym, ap, subst, ◌∙◌, arith}
use Rattle.std.proofs.lemmas.Result.{err_from_is_err_and}
use Rattle.dk_levels.specs.Solid.{AreReadable}
use Rattle.dk_levels.proofs.Cuts.{projected_is_readable}
use Rattle.dk_pqmeta.specs.View.{footer_view, group_view}
use Rattle.dk_pqmodel.specs.Projection.{all_missing, projected_fields, projection}
use Rattle.dk_pqmodel.specs.RowView.{rows_of}
use Rattle.dk_pqmodel.specs.SchemaView.{fields_in}
use Rattle.dk_pqread.specs.ColumnView.{column_at}
use Rattle.dk_pqread.specs.Counts.{counts_agree}
use Rattle.dk_pqmodel.specs.Faults.{columns_read}
use Rattle.dk_pqread.specs.PlanView.{plans_of}
use Rattle.dk_pqread.proofs.Answering.{all_viewed, counts_refused, file_found, file_refused, mean_as, opening_refused, other_rows, refused_as}
use Rattle.dk_pqread.proofs.DistinctPaths.{groups_distinct}
use Rattle.dk_pqread.proofs.Shares.{rows_counted}
use Rattle.dk_pqread.proofs.Starting.{begin_as, groups_begin}
use Rattle.dk_pqread.proofs.read.read_file.Goals as goal

pub returns-in_err-footer : goal.returns-in_err-footer
returns-in_err-footer c =
    let p = err_from_is_err_and c.from_residual.result c.from_residual.ensures.1 in
    rw (p.1, p.2) (opening_refused (fields_in c.args.wanted.now) c.args.bytes.now c.in_err-footer.field-0.0 c.in_err-footer.ensures)

pub returns-then-not-counts_agree : goal.returns-then-not-counts_agree
returns-then-not-counts_agree c =
    let wanted = fields_in c.args.wanted.now in
    let footer = footer_view c.in_ok-footer.field-0.footer in
    let clear = c.in_ok-footer.ensures.1 in
    let columns : map column_at c.deref.result.now ≡ columns_read wanted footer = ap (map column_at) c.deref.ensures.value ∙ c.in_ok-footer.ensures.3 in
    let groups = ap (map group_view) c.deref-2.ensures.value in
    let said : counts_agree (columns_read wanted footer) footer.groups footer.rows ≡ false =
    subst (λ gs. counts_agree (columns_read wanted footer) gs footer.rows ≡ false) groups
    (subst (λ cs. counts_agree cs (map group_view c.deref-2.result.now) footer.rows ≡ false) columns (sym c.counts_agree.ensures ∙ c.if-not-counts_agree.true)) in
    counts_refused wanted c.args.bytes.now c.in_ok-footer.ensures.0 footer clear said

pub rows_begin-requires : goal.rows_begin-requires
rows_begin-requires c =
    let clear = c.in_ok-footer.ensures.1 in
    rw c.deref-4.ensures.value (all_viewed c.in_ok-footer.field-0.footer.groups.items (groups_distinct clear.part (footer_view c.in_ok-footer.field-0.footer) clear.spelled))

pub returns-in_err-rows_begin : goal.returns-in_err-rows_begin
returns-in_err-rows_begin c =
    let wanted = fields_in c.args.wanted.now in
    let footer = footer_view c.in_ok-footer.field-0.footer in
    let before = c.in_ok-footer.ensures.0 in
    let clear = c.in_ok-footer.ensures.1 in
    let fault = c.in_err-rows_begin.field-0.0 in
    let front = c.before_footer.ensures before clear.part clear.framed in
    let columns : map column_at c.deref-3.result.now ≡ columns_read wanted footer = ap (map column_at) c.deref-3.ensures.value ∙ c.in_ok-footer.ensures.3 in
    let groups = ap (map group_view) c.deref-4.ensures.value in
    let p = err_from_is_err_and c.from_residual-in_err-rows_begin.result c.from_residual-in_err-rows_begin.ensures.1 in
    rw (p.1, p.2) (file_refused wanted c.args.bytes.now before footer clear fault
    (groups_begin before (projection wanted footer.fields) fault footer.groups (begin_as fault front columns groups c.in_err-rows_begin.ensures)))

pub read_groups-requires-clause-readable : goal.read_groups-requires-clause-readable
read_groups-requires-clause-readable c =
    let wanted = fields_in c.args.wanted.now in
    let fields = (footer_view c.in_ok-footer.field-0.footer).fields in
    let same : plans_of c.deref-5.result.now ≡ projection wanted fields = ap plans_of c.deref-5.ensures.value ∙ c.in_ok-footer.ensures.2 in
    subst (λ ps. all_missing ps ≡ false → AreReadable (projected_fields ps)) (sym same) (projected_is_readable wanted fields c.args.wanted.now.is_schema)

pub read_groups-requires-clause-distinct : goal.read_groups-requires-clause-distinct
read_groups-requires-clause-distinct c =
    let clear = c.in_ok-footer.ensures.1 in
    rw c.deref-7.ensures.value (all_viewed c.in_ok-footer.field-0.footer.groups.items (groups_distinct clear.part (footer_view c.in_ok-footer.field-0.footer) clear.spelled))

pub returns-in_err-rows : goal.returns-in_err-rows
returns-in_err-rows c =
    let wanted = fields_in c.args.wanted.now in
    let footer = footer_view c.in_ok-footer.field-0.footer in
    let before = c.in_ok-footer.ensures.0 in
    let clear = c.in_ok-footer.ensures.1 in
    let fault = c.in_err-rows.field-0.0 in
    let front = c.before_footer-2.ensures before clear.part clear.framed in
    let plans : plans_of c.deref-5.result.now ≡ projection wanted footer.fields = ap plans_of c.deref-5.ensures.value ∙ c.in_ok-footer.ensures.2 in
    let p = err_from_is_err_and c.from_residual-in_err-rows.result c.from_residual-in_err-rows.ensures.1 in
    rw (p.1, p.2) (file_refused wanted c.args.bytes.now before footer clear fault (refused_as fault front plans (ap (map group_view) c.deref-7.ensures.value) c.in_err-rows.ensures))

pub returns-then-len-footer : goal.returns-then-len-footer
returns-then-len-footer c =
    let wanted = fields_in c.args.wanted.now in
    let footer = footer_view c.in_ok-footer.field-0.footer in
    let before = c.in_ok-footer.ensures.0 in
    let clear = c.in_ok-footer.ensures.1 in
    let rows = c.in_ok-rows.rows in
    let front = c.before_footer-2.ensures before clear.part clear.framed in
    let plans : plans_of c.deref-5.result.now ≡ projection wanted footer.fields = ap plans_of c.deref-5.ensures.value ∙ c.in_ok-footer.ensures.2 in
    file_found wanted c.args.bytes.now before footer clear (rows_of rows.items) (mean_as front plans (ap (map group_view) c.deref-7.ensures.value) (rows_of rows.items) c.in_ok-rows.ensures)
    (omega (arith, rows_counted rows.items, c.len.ensures, c.if-len-footer.true, rows.ok.0))

pub returns : goal.returns
returns c =
    let wanted = fields_in c.args.wanted.now in
    let footer = footer_view c.in_ok-footer.field-0.footer in
    let before = c.in_ok-footer.ensures.0 in
    let clear = c.in_ok-footer.ensures.1 in
    let rows = c.in_ok-rows.rows in
    let front = c.before_footer-2.ensures before clear.part clear.framed in
    let plans : plans_of c.deref-5.result.now ≡ projection wanted footer.fields = ap plans_of c.deref-5.ensures.value ∙ c.in_ok-footer.ensures.2 in
    other_rows wanted c.args.bytes.now before footer clear (rows_of rows.items) (mean_as front plans (ap (map group_view) c.deref-7.ensures.value) (rows_of rows.items) c.in_ok-rows.ensures)
    (λ e. c.if-len-footer.false (omega (arith, e, rows_counted rows.items, c.len.ensures, rows.ok.0)))
