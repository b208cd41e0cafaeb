use Rattle.std.proofs.Common.{Ok, ◌<◌, length, arith, ap, sym, ◌∙◌, w16}
use Rattle.std.proofs.lemmas.Result.{err_from_is_err_and}
use Rattle.std.proofs.lemmas.Int.{to_z-of_z}
use Rattle.dk_grammar.specs.Thrift.{field_at}
use Rattle.dk_thrift.specs.Reading.{Reading}
use Rattle.dk_thrift.proofs.Passes.{field_id}
use Rattle.dk_thrift.proofs.Walking.{flaw_stays}
use Rattle.dk_thrift.proofs.Walking.{header_flaw, walk_ends, walk_goes_on}
use Rattle.dk_pqmeta.proofs.structs.read_fields.Goals as goal

pub returns-in_err-field : goal.returns-in_err-field
returns-in_err-field g c =
    let h : c.loop.counter < length c.args.reader.now.rest = omega (arith, ap length c.rest-end.ensures.bytes) in
    let p = err_from_is_err_and c.from_residual.result c.from_residual.ensures.1 in
    let q = err_from_is_err_and (field_at c.loop.reader.last c.loop.reader.rest) c.in_err-field.ensures.exact.0 in
    rw (p.1, p.2) (flaw_stays _ _ (header_flaw g.R.Record.meaning g.R.Record.kept_of (length c.args.reader.now.rest) c.loop.counter c.args.reader.now c.loop.reader (g.R.Record.kept c.loop.record) _ h c.loop.invariant q.0 q.1))

pub returns-in-End : goal.returns-in-End
returns-in-End g c =
    let h : c.loop.counter < length c.args.reader.now.rest = omega (arith, ap length c.rest-end.ensures.bytes) in (
      rw (walk_ends g.R.Record.meaning g.R.Record.kept_of (length c.args.reader.now.rest) c.loop.counter c.args.reader.now c.loop.reader (g.R.Record.kept c.loop.record) _ h c.loop.invariant c.in_ok-field.field-0
          c.field.new.self.rest c.in_ok-field.ensures.exact.0 c.in-End.is)
          (ap (λ k. Ok (k, c.field.new.self.rest)) (sym c.loop.invariant.seen)),
      ap (λ (r : Reading). r.size) c.in_ok-field.ensures.exact.1 ∙ c.loop.invariant.size,
    )

pub loop-preserved : goal.loop-preserved
loop-preserved g c =
    let h : c.loop.counter < length c.args.reader.now.rest = omega (arith, ap length c.rest-end.ensures.bytes) in
    let first = rw c.in-Next.is at c.in_ok-field.ensures.exact.0 in
    let id = to_z-of_z w16 c.in-Next.id (field_id _ c.loop.reader.rest c.in-Next.id c.in-Next.kind c.field.new.self.rest first) in
    let said = rw id at c.in_ok-read_field-in-Next.ensures in
    let one = said c.loop.invariant.done c.loop.invariant.seen in
    walk_goes_on g.R.Record.meaning g.R.Record.kept_of (length c.args.reader.now.rest) c.loop.counter c.args.reader.now c.loop.reader (g.R.Record.kept c.loop.record) _ h c.loop.invariant c.in_ok-field.field-0 c.in-Next.id
    c.in-Next.kind c.field.new.self c.in_ok-field.ensures.exact.0 c.in-Next.is one.0 c.read_field.new.reader (g.R.Record.kept c.read_field.new.self) one.1.0 c.in_ok-field.ensures.exact.1 one.1.2 one.1.1
