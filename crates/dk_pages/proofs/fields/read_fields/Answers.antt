use Rattle.std.proofs.Common.{◌<◌, length, arith, ap, sym, ◌∙◌, w16}
use Rattle.std.proofs.lemmas.Result.{err_from_is_err_and}
use Rattle.std.proofs.lemmas.Int.{to_z-of_z}
use Rattle.dk_grammar.specs.Thrift.{field_at}
use Rattle.dk_thrift.proofs.Passes.{field_id}
use Rattle.dk_grammar.specs.PageHeaders.{part_meaning}
use Rattle.dk_pages.specs.Headers.{header_fields, with_part}
use Rattle.dk_pages.proofs.Growing.{parts_grow}
use Rattle.dk_thrift.proofs.Walking.{header_flaw, value_flaw, walk_ends, walk_goes_on}
use Rattle.dk_pages.proofs.fields.read_fields.Goals as goal

pub returns-in_err-field : goal.returns-in_err-field
returns-in_err-field c =
    let h : c.loop.counter < length c.args.reader.now.rest = omega (arith, ap length c.rest-end.ensures.bytes) in
    let p = err_from_is_err_and c.from_residual.result c.from_residual.ensures.1 in
    let q = err_from_is_err_and (field_at c.loop.reader.last c.loop.reader.rest) c.in_err-field.ensures.exact.0 in
    rw p.1 (header_flaw part_meaning header_fields (length c.args.reader.now.rest) c.loop.counter c.args.reader.now c.loop.reader c.loop.fields _ h c.loop.invariant q.0 q.1)

pub returns-in-End : goal.returns-in-End
returns-in-End c =
    let h : c.loop.counter < length c.args.reader.now.rest = omega (arith, ap length c.rest-end.ensures.bytes) in (
      c.loop.invariant.done,
      (
        walk_ends part_meaning header_fields (length c.args.reader.now.rest) c.loop.counter c.args.reader.now c.loop.reader c.loop.fields _ h c.loop.invariant c.in_ok-field.field-0 c.field.new.self.rest
            c.in_ok-field.ensures.exact.0 c.in-End.is,
        c.loop.invariant.seen,
        ap (λ reading. reading.size) c.in_ok-field.ensures.exact.1 ∙ c.loop.invariant.size,
      ),
    )

pub returns-in_err-read_part-in-Next : goal.returns-in_err-read_part-in-Next
returns-in_err-read_part-in-Next c =
    let h : c.loop.counter < length c.args.reader.now.rest = omega (arith, ap length c.rest-end.ensures.bytes) in
    let p = err_from_is_err_and c.from_residual-in_err-read_part-in-Next.result c.from_residual-in_err-read_part-in-Next.ensures.1 in
    let first = rw c.in-Next.is at c.in_ok-field.ensures.exact.0 in
    let id = to_z-of_z w16 c.in-Next.id (field_id _ c.loop.reader.rest c.in-Next.id c.in-Next.kind c.field.new.self.rest first) in
    let flaw = rw id at c.in_err-read_part-in-Next.ensures in
    rw p.1 (value_flaw part_meaning header_fields (length c.args.reader.now.rest) c.loop.counter c.args.reader.now c.loop.reader c.loop.fields _ h c.loop.invariant c.in_ok-field.field-0 c.in-Next.id c.in-Next.kind c.field.new.self
    c.in_ok-field.ensures.exact.0 c.in-Next.is flaw)

pub loop-preserved : goal.loop-preserved
loop-preserved c =
    let h : c.loop.counter < length c.args.reader.now.rest = omega (arith, ap length c.rest-end.ensures.bytes) in
    let first = rw c.in-Next.is at c.in_ok-field.ensures.exact.0 in
    let id = to_z-of_z w16 c.in-Next.id (field_id _ c.loop.reader.rest c.in-Next.id c.in-Next.kind c.field.new.self.rest first) in
    let one = rw id at c.in_ok-read_part-in-Next.ensures in
    walk_goes_on part_meaning header_fields (length c.args.reader.now.rest) c.loop.counter c.args.reader.now c.loop.reader c.loop.fields _ h c.loop.invariant c.in_ok-field.field-0 c.in-Next.id c.in-Next.kind c.field.new.self
    c.in_ok-field.ensures.exact.0 c.in-Next.is one.0 c.read_part.new.reader c.read_part.new.fields one.1.0 c.in_ok-field.ensures.exact.1 one.1.2
    (one.1.1 ∙ ap (λ fields. with_part c.in-Next.id one.0 fields) c.loop.invariant.seen ∙ sym (parts_grow c.in-Next.id one.0 c.loop.invariant.done))
