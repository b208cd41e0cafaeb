use Rattle.std.proofs.Common.{Err, sym, subst, ◌∙◌, arith}
use Rattle.std.specs.Prelude.{Vec}
use Rattle.std.specs.Global.{Global}
use Rattle.std.proofs.lemmas.Result.{err_from_is_err_and}
use Rattle.dk_pqmeta.specs.View.{group_view}
use Rattle.dk_pqmodel.specs.ColumnView as view
use Rattle.dk_pqmodel.specs.FileMeans.{HasColumns}
use Rattle.dk_pqmodel.specs.Fits.{AreTriplesOf}
use Rattle.dk_pqmodel.specs.RowView.{rows_of}
use Rattle.dk_pqmodel.specs.declared.row.Row.{Row}
use Rattle.dk_pqread.specs.Meanings.{RefusesMeaning}
use Rattle.dk_pqread.specs.PlanView.{plans_of}
use Rattle.dk_pqread.proofs.Shares.{empty_share, join_refused, joined_found, other_count, rows_counted, share_found}
use Rattle.dk_pqread.proofs.rows.own_rows.Goals as goal

pub returns-then-all_missing : goal.returns-then-all_missing
returns-then-all_missing c =
    empty_share c.args.before.now (plans_of c.args.plans.now) (group_view c.args.group.now) (rows_of c.in_ok-empty_rows.field-0.items) (sym c.all_missing.ensures ∙ c.if-all_missing.true)
    c.in_ok-empty_rows.ensures

pub returns-in_err-rows : goal.returns-in_err-rows
returns-in_err-rows c =
    let p = err_from_is_err_and c.from_residual-in_err-rows.result c.from_residual-in_err-rows.ensures.1 in
    let columns = view.columns_of c.in_ok-leaves.leaves.items in
    let said = c.in_err-rows.ensures in
    let fault = c.in_err-rows.field-0.0 in
    let held = subst (λ cs. HasColumns c.args.before.now (group_view c.args.group.now) cs columns) c.requires.read c.in_ok-leaves.ensures in
    let refused = joined_found (λ (v : Vec Row Global). rows_of v.items) (Err fault) _ columns said.found said.broken said.faults in
    rw (p.1, p.2)
    (join_refused c.args.before.now (plans_of c.args.plans.now) (group_view c.args.group.now) c.requires.distinct columns held fault
    (subst (λ fs. RefusesMeaning fault (λ rows. AreTriplesOf fs rows columns)) c.requires.cut refused))

pub returns-then-len-group : goal.returns-then-len-group
returns-then-len-group c =
    let columns = view.columns_of c.in_ok-leaves.leaves.items in
    let rows = c.in_ok-rows.rows in
    let held = subst (λ cs. HasColumns c.args.before.now (group_view c.args.group.now) cs columns) c.requires.read c.in_ok-leaves.ensures in
    let triples = subst (λ fs. AreTriplesOf fs (rows_of rows.items) columns) c.requires.cut c.in_ok-rows.ensures.found in
    share_found c.args.before.now (plans_of c.args.plans.now) (group_view c.args.group.now) c.requires.distinct columns held (rows_of rows.items) triples
    (omega (arith, rows_counted rows.items, c.len.ensures, c.if-len-group.true, rows.ok.0))

pub returns-else-len-group : goal.returns-else-len-group
returns-else-len-group c =
    let columns = view.columns_of c.in_ok-leaves.leaves.items in
    let rows = c.in_ok-rows.rows in
    let held = subst (λ cs. HasColumns c.args.before.now (group_view c.args.group.now) cs columns) c.requires.read c.in_ok-leaves.ensures in
    let triples = subst (λ fs. AreTriplesOf fs (rows_of rows.items) columns) c.requires.cut c.in_ok-rows.ensures.found in
    other_count c.args.before.now (plans_of c.args.plans.now) (group_view c.args.group.now) c.requires.distinct columns held (rows_of rows.items) triples
    (c.requires.readable (sym c.all_missing.ensures ∙ c.if-all_missing.false)) (λ e. c.if-len-group.false (omega (arith, e, rows_counted rows.items, c.len.ensures, rows.ok.0)))
