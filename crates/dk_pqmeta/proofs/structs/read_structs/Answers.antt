use Rattle.std.proofs.Common.{◌<◌, map, ap, ◌∙◌, arith}
use Rattle.std.proofs.lemmas.List.{map-append}
use Rattle.std.proofs.lemmas.Result.{err_from_is_err_and}
use Rattle.dk_grammar.specs.Structs.{struct_at}
use Rattle.dk_grammar.specs.Lists.{read_turned}
use Rattle.dk_thrift.specs.Reading.{Reading}
use Rattle.dk_pqmeta.proofs.Eaches.{each_flaw, each_goes_on}
use Rattle.dk_pqmeta.proofs.Refused.{refused_by_part}
use Rattle.dk_pqmeta.proofs.structs.read_structs.Goals as goal

pub returns-in_err-read_struct : goal.returns-in_err-read_struct
returns-in_err-read_struct g c =
    let h : c.loop.counter < c.in_ok-head.head.count = omega arith in
    let p = err_from_is_err_and c.from_residual-in_err-read_struct.result c.from_residual-in_err-read_struct.ensures.1 in
    rw (p.1, p.2) (refused_by_part _ _ _ (each_flaw (read_turned g.R.Record.kept_of (struct_at g.R.Record.meaning)) c.in_ok-head.head.count c.loop.counter (map g.R.Record.kept c.loop.records.items) c.loop.reader.rest _ h c.loop.invariant.0) c.in_err-read_struct.ensures)

pub loop-preserved : goal.loop-preserved
loop-preserved g c =
    let h : c.loop.counter < c.in_ok-head.head.count = omega arith in
    let items = c.in_ok-push.ensures.items in (
      rw (items, map-append)
          (each_goes_on (read_turned g.R.Record.kept_of (struct_at g.R.Record.meaning)) c.in_ok-head.head.count c.loop.counter (map g.R.Record.kept c.loop.records.items) c.loop.reader.rest _ h c.loop.invariant.0
          (g.R.Record.kept c.in_ok-read_struct.field-0) c.read_struct.new.reader.rest c.in_ok-read_struct.ensures.0),
      c.in_ok-read_struct.ensures.1 ∙ ap (λ (r : Reading). record r { rest = c.read_struct.new.reader.rest }) c.loop.invariant.1,
    )
