use Rattle.std.proofs.Common.{◌≡◌, pos, to_z, w32, sym, ap, ◌∙◌}
use Rattle.std.proofs.lemmas.Int.{to_z-of_z}
use Rattle.std.proofs.lemmas.Result.{err_from_is_err_and}
use Rattle.dk_pages.specs.Split.{parts_of}
use Rattle.dk_pqread.specs.ColumnView.{column_at}
use Rattle.dk_pqread.proofs.Rooms.{reps_refuse, defs_refuse, sieved_by_room}
use Rattle.dk_pqread.proofs.room.parts_fit.Goals as goal

pub returns-in_err-levels_fit-clause-refused : goal.returns-in_err-levels_fit-clause-refused
returns-in_err-levels_fit-clause-refused c =
    let p = err_from_is_err_and c.from_residual.result c.from_residual.ensures.1 in
    rw (p.1, p.2)
    (reps_refuse (column_at c.args.column.now) c.args.code c.args.count (parts_of c.args.parts.now) c.in_err-levels_fit.field-0.0 c.in_err-levels_fit.ensures)

pub returns-in_err-levels_fit-2-clause-refused : goal.returns-in_err-levels_fit-2-clause-refused
returns-in_err-levels_fit-2-clause-refused c =
    let p = err_from_is_err_and c.from_residual-in_err-levels_fit-2.result c.from_residual-in_err-levels_fit-2.ensures.1 in
    rw (p.1, p.2)
    (defs_refuse (column_at c.args.column.now) c.args.code c.args.count (parts_of c.args.parts.now) c.in_err-levels_fit-2.field-0.0 c.in_err-levels_fit-2.ensures)

pub returns-clause-refused : goal.returns-clause-refused
returns-clause-refused c =
    let is : c.args.code ≡ pos 0 = sym (to_z-of_z w32 c.args.code c.ranges.code) ∙ ap (to_z w32) c.if-code-ne-PLAIN.false in
    sieved_by_room (column_at c.args.column.now) c.args.code c.args.count (parts_of c.args.parts.now) is c.plain_fits.result c.plain_fits.ensures
