use Rattle.std.proofs.Common.{◌+◌, ◌-◌, length, sym, ap, ◌∙◌, rules, arith}
use Rattle.std.proofs.lemmas.Int.{to_z-of_z}
use Rattle.std.specs.Prelude.{FitsSigned}
use Rattle.std.specs.Int.{w32}
use Rattle.dk_pages.specs.Pages.{page_of}
use Rattle.dk_pqread.specs.ColumnView.{column_at}
use Rattle.dk_pqmodel.specs.Scans.{unread_from}
use Rattle.dk_pqread.proofs.Scanning.{enough, ended, refused, goes_on}
use Rattle.dk_pqread.proofs.scan.unread_in.Goals as goal

pub returns-then-wanted-eq0 : goal.returns-then-wanted-eq0
returns-then-wanted-eq0 c =
    enough c.args.before.now (column_at c.args.column.now) c.loop.place c.loop.wanted (length c.args.before.now) c.loop.counter _ (omega arith) c.loop.invariant c.if-wanted-eq0.true

pub returns-in-Err : goal.returns-in-Err
returns-in-Err c =
    ended c.args.before.now (column_at c.args.column.now) c.loop.place c.loop.wanted (length c.args.before.now) c.loop.counter _ (omega arith) c.loop.invariant c.if-wanted-eq0.false c.in-Err.ensures.exact.1

pub returns-in-Some : goal.returns-in-Some
returns-in-Some c =
    let fits : FitsSigned w32 c.in-Some.code = search rules in
    rw (to_z-of_z w32 c.in-Some.code fits)
    (refused c.args.before.now (column_at c.args.column.now) c.loop.place c.loop.wanted (length c.args.before.now) c.loop.counter _ (omega arith) c.loop.invariant
    (page_of c.in-Ok.page) c.in-Some.code c.if-wanted-eq0.false c.in-Ok.ensures.exact (sym c.in-Some.ensures))

pub loop-preserved : goal.loop-preserved
loop-preserved c =
    let left = c.saturating_sub-wanted.ensures ∙ ap (λ n. c.loop.wanted - n) (c.from.ensures ∙ c.values_in.ensures) in
    ap (λ wanted. unread_from (length c.args.before.now - (c.loop.counter + 1)) c.args.before.now (column_at c.args.column.now) c.in-Ok.page.next wanted) left
    ∙ goes_on c.args.before.now (column_at c.args.column.now) c.loop.place c.loop.wanted (length c.args.before.now) c.loop.counter _ (omega arith) c.loop.invariant
    (page_of c.in-Ok.page) c.if-wanted-eq0.false c.in-Ok.ensures.exact (sym c.in_default.ensures)
