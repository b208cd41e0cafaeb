use Rattle.std.proofs.Common.{Ok, refl, rules, subst, w32}
use Rattle.std.proofs.lemmas.Int.{to_z-of_z}
use Rattle.std.proofs.lemmas.Result.{err_from_is_err_and}
use Rattle.dk_pages.specs.Pages.{page_of}
use Rattle.dk_pages.specs.Split.{parts_of}
use Rattle.dk_pqread.specs.ColumnView.{column_at}
use Rattle.dk_pqread.specs.Meanings.{RefusesMeaning}
use Rattle.dk_pqread.specs.Room.{InParts}
use Rattle.dk_pqread.proofs.Rooms.{page_refused}
use Rattle.dk_pqread.proofs.Starting.{page_levels}
use Rattle.dk_pqread.proofs.starts.page_begins.Goals as goal

pub returns-in_err-parts_fit-clause-begun : goal.returns-in_err-parts_fit-clause-begun
returns-in_err-parts_fit-clause-begun c =
    let p = err_from_is_err_and c.from_residual.result c.from_residual.ensures.1 in
    rw (p.1, p.2)
    (page_refused (column_at c.args.column.now) (page_of c.args.page.now) (parts_of c.in-Ok.parts) c.in-Ok.ensures c.in_err-parts_fit.field-0.0
    (subst (λ code. RefusesMeaning c.in_err-parts_fit.field-0.0 (InParts (column_at c.args.column.now) code c.args.page.now.values (parts_of c.in-Ok.parts)))
    (to_z-of_z w32 c.args.page.now.encoding (search rules)) c.in_err-parts_fit.ensures.refused))

pub returns-clause-begun : goal.returns-clause-begun
returns-clause-begun c =
    page_levels (column_at c.args.column.now) (page_of c.args.page.now) (parts_of c.in-Ok.parts) c.args.page.now.values refl c.in-Ok.ensures (Ok c.in_ok-zeros.zeros) c.in_ok-zeros.ensures.counted
