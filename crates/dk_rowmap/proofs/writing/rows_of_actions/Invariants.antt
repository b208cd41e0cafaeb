use Rattle.std.proofs.Common.{◌≡◌, ◌++◌, map, drop}
use Rattle.std.specs.List.{AllByRecursion}
use Rattle.dk_pqmodel.specs.RowView.{row_of}
use Rattle.dk_model.specs.ReadBack.{written_of}
use Rattle.dk_rowmap.specs.WrittenRows.{IsKept}
use Rattle.dk_rowmap.proofs.RowsBack.{written_row}
use Rattle.dk_rowmap.proofs.writing.rows_of_actions.Given as goal

-- the rows so far, and those of what is left; and where the actions that are left are kept, all are
abbrev pub invariant-actions : goal.invariant-actions
invariant-actions l = record {
  rows : map row_of l.rows.items ++ map written_row (written_of (drop l.action-index l.actions)) ≡ map written_row (written_of l.actions);
  kept : AllByRecursion IsKept (drop l.action-index l.actions) → AllByRecursion IsKept l.actions;
}
