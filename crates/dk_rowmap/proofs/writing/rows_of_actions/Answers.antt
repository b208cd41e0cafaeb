use Rattle.std.proofs.Common.{◌≡◌, ◌+◌, ◌++◌, [], ◌∷◌, map, drop, sym, ap, subst, ◌∙◌, arith}
use Rattle.std.specs.List.{AllByRecursion}
use Rattle.std.proofs.lemmas.List.{drop_more, drop_all}
use Rattle.dk_pqmodel.specs.Fits.{Fit}
use Rattle.dk_pqmodel.specs.RowView.{row_of, rows_of}
use Rattle.dk_model.specs.ReadBack.{written_of}
use Rattle.dk_lawful.specs.CheckpointSchema.{written_fields}
use Rattle.dk_lawful.specs.CheckpointRows.{actions_of_rows}
use Rattle.dk_rowmap.specs.ActionRows.{rows_for}
use Rattle.dk_rowmap.specs.WrittenRows.{RowsHaveOrderedMaps, IsKept, objects_in, rows_read}
use Rattle.dk_rowmap.proofs.RowsBack.{written_row, row_more, rows_whole, rows_fit, rows_in_order, rows_stand, rows_back}
use Rattle.dk_rowmap.proofs.writing.rows_of_actions.Goals as goal

pub actions-preserved : goal.actions-preserved
actions-preserved c =
    let all = c.args.actions.now in
    let i = c.actions.action-index in
    let action = c.action-item.result in
    let rest = drop (i + 1) all in
    let more : drop i all ≡ action ∷ rest = drop_more all i action c.actions-test.true ∙ ap (λ x. x ∷ rest) (sym c.action-item.is) in
    record {
      rows = row_more (map row_of c.actions.rows.items) _ action rest c.in_ok-push_row.ensures.row ∙ ap (λ left. map row_of c.actions.rows.items ++ map written_row (written_of left)) (sym more) ∙ c.actions.invariant.rows;
      kept = λ left. c.actions.invariant.kept (subst (AllByRecursion IsKept) (sym more) (c.in_ok-push_row.ensures.kept, left));
    }

pub returns-clause-rows : goal.returns-clause-rows
returns-clause-rows c =
    let all = c.args.actions.now in
    let i = c.actions.action-index in
    rows_whole (map row_of c.actions.rows.items) (drop i all) all (drop_all i all (omega (arith, c.actions-test.false))) c.actions.invariant.rows

pub returns-clause-fits : goal.returns-clause-fits
returns-clause-fits c =
    let all = c.args.actions.now in
    let none : drop c.actions.action-index all ≡ [] = drop_all c.actions.action-index all (omega (arith, c.actions-test.false)) in
    let kept : AllByRecursion IsKept all = c.actions.invariant.kept (subst (AllByRecursion IsKept) (sym none) tt) in
    subst (Fit written_fields) (sym (returns-clause-rows c)) (rows_fit all c.requires kept)

pub returns-clause-maps : goal.returns-clause-maps
returns-clause-maps c =
    let all = c.args.actions.now in
    let none : drop c.actions.action-index all ≡ [] = drop_all c.actions.action-index all (omega (arith, c.actions-test.false)) in
    let kept : AllByRecursion IsKept all = c.actions.invariant.kept (subst (AllByRecursion IsKept) (sym none) tt) in
    subst (RowsHaveOrderedMaps written_fields) (sym (returns-clause-rows c)) (rows_in_order all c.requires kept)

pub returns-clause-objects : goal.returns-clause-objects
returns-clause-objects c =
    let all = c.args.actions.now in
    let none : drop c.actions.action-index all ≡ [] = drop_all c.actions.action-index all (omega (arith, c.actions-test.false)) in
    let kept : AllByRecursion IsKept all = c.actions.invariant.kept (subst (AllByRecursion IsKept) (sym none) tt) in
    ap (objects_in written_fields) (returns-clause-rows c) ∙ rows_stand all c.requires kept

pub returns-clause-back : goal.returns-clause-back
returns-clause-back c =
    let all = c.args.actions.now in
    let none : drop c.actions.action-index all ≡ [] = drop_all c.actions.action-index all (omega (arith, c.actions-test.false)) in
    let kept : AllByRecursion IsKept all = c.actions.invariant.kept (subst (AllByRecursion IsKept) (sym none) tt) in
    ap (λ rows. actions_of_rows (rows_read rows)) (returns-clause-rows c) ∙ rows_back all c.requires kept
