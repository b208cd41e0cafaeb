use Rattle.std.proofs.Common.{◌≡◌, ◌+◌, ◌<◌, Err, map, sym, ap, subst, ◌∙◌}
use Rattle.std.proofs.lemmas.Result.{err_from_is_err_and}
use Rattle.dk_pqmodel.specs.FileMeans.{columns_of}
use Rattle.dk_pqmodel.specs.Projection.{projection}
use Rattle.dk_pqmodel.specs.SchemaView.{fields_in}
use Rattle.dk_pqmeta.specs.View.{footer_view, group_view, nodes_of}
use Rattle.dk_pqread.specs.ColumnView.{column_at}
use Rattle.dk_pqread.specs.Depth.{depth_of}
use Rattle.dk_pqread.specs.PlanView.{plans_of}
use Rattle.dk_pqread.proofs.Depths.{schema_deep}
use Rattle.dk_pqread.proofs.Opening.{scan_refused, scans_same}
use Rattle.dk_pqread.proofs.examine.examine.Goals as goal

pub columns-requires : goal.columns-requires
columns-requires c =
    let same : plans_of c.deref-2.result.now ≡ projection (fields_in c.args.wanted.now) (nodes_of c.deref.result.now) = ap plans_of c.deref-2.ensures.value ∙ c.in_ok-plans.ensures.1 in
    subst (λ ps. 0 + depth_of ps < 256) (sym same) (schema_deep (fields_in c.args.wanted.now) (nodes_of c.deref.result.now) c.args.wanted.now.is_schema)

pub returns-in_err-scan : goal.returns-in_err-scan
returns-in_err-scan c =
    let wanted = fields_in c.args.wanted.now in
    let footer = footer_view c.in_ok-footer.footer in
    let has = c.in_ok-footer.ensures in
    let fields : nodes_of c.deref.result.now ≡ footer.fields = ap nodes_of c.deref.ensures.value in
    let plans : plans_of c.deref-2.result.now ≡ projection wanted footer.fields = ap plans_of c.deref-2.ensures.value ∙ c.in_ok-plans.ensures.1 ∙ ap (projection wanted) fields in
    let columns = ap (map column_at) c.deref-3.ensures.value ∙ c.in_ok-columns.ensures ∙ ap (λ ps. columns_of ps 0 0) plans in
    let p = err_from_is_err_and c.from_residual-in_err-scan.result c.from_residual-in_err-scan.ensures.1 in
    rw (p.1, p.2)
    (scan_refused wanted c.args.bytes.now has.0 has.1 footer has.2 has.3 (rw (sym fields) c.in_ok-plans.ensures.0) c.in_err-scan.field-0.0
    (scans_same (Err c.in_err-scan.field-0.0) (c.before_footer.ensures has.0 has.1 has.2) columns (ap (map group_view) c.deref-4.ensures.value) c.in_err-scan.ensures))
