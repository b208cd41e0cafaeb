use Rattle.std.proofs.Common.{◌<◌, length, arith, ap, sym, ◌∙◌, w16}
use Rattle.std.proofs.lemmas.Result.{err_from_is_err_and}
use Rattle.std.proofs.lemmas.Int.{to_z-of_z}
use Rattle.dk_grammar.specs.Thrift.{field_at}
use Rattle.dk_thrift.proofs.Passes.{field_id}
use Rattle.dk_grammar.specs.Structs.{number_meaning}
use Rattle.dk_pages.specs.Headers.{numbers_of, with_number}
use Rattle.dk_pages.proofs.Growing.{numbers_grow}
use Rattle.dk_thrift.proofs.Walking.{header_flaw, value_flaw, walk_ends, walk_goes_on}
use Rattle.dk_pages.proofs.numbers.read_numbers.Goals as goal

pub returns-in_err-field : goal.returns-in_err-field
returns-in_err-field c =
    let h : c.loop.counter < length c.args.reader.now.rest = omega (arith, ap length c.rest-end.ensures.bytes) in
    let p = err_from_is_err_and c.from_residual.result c.from_residual.ensures.1 in
    let q = err_from_is_err_and (field_at c.loop.reader.last c.loop.reader.rest) c.in_err-field.ensures.exact.0 in
    rw p.1 (header_flaw number_meaning numbers_of (length c.args.reader.now.rest) c.loop.counter c.args.reader.now c.loop.reader c.loop.numbers _ h c.loop.invariant q.0 q.1)

pub returns-in-End : goal.returns-in-End
returns-in-End c =
    let h : c.loop.counter < length c.args.reader.now.rest = omega (arith, ap length c.rest-end.ensures.bytes) in (
      c.loop.invariant.done,
      (
        walk_ends number_meaning numbers_of (length c.args.reader.now.rest) c.loop.counter c.args.reader.now c.loop.reader c.loop.numbers _ h c.loop.invariant c.in_ok-field.field-0 c.field.new.self.rest
            c.in_ok-field.ensures.exact.0 c.in-End.is,
        c.loop.invariant.seen,
        ap (λ reading. reading.size) c.in_ok-field.ensures.exact.1 ∙ c.loop.invariant.size,
      ),
    )

pub returns-in_err-read_number-in-Next : goal.returns-in_err-read_number-in-Next
returns-in_err-read_number-in-Next c =
    let h : c.loop.counter < length c.args.reader.now.rest = omega (arith, ap length c.rest-end.ensures.bytes) in
    let p = err_from_is_err_and c.from_residual-in_err-read_number-in-Next.result c.from_residual-in_err-read_number-in-Next.ensures.1 in
    rw p.1 (value_flaw number_meaning numbers_of (length c.args.reader.now.rest) c.loop.counter c.args.reader.now c.loop.reader c.loop.numbers _ h c.loop.invariant c.in_ok-field.field-0 c.in-Next.id c.in-Next.kind c.field.new.self
    c.in_ok-field.ensures.exact.0 c.in-Next.is c.in_err-read_number-in-Next.ensures)

pub loop-preserved : goal.loop-preserved
loop-preserved c =
    let h : c.loop.counter < length c.args.reader.now.rest = omega (arith, ap length c.rest-end.ensures.bytes) in
    let first = rw c.in-Next.is at c.in_ok-field.ensures.exact.0 in
    let id = to_z-of_z w16 c.in-Next.id (field_id _ c.loop.reader.rest c.in-Next.id c.in-Next.kind c.field.new.self.rest first) in
    let one = rw id at c.in_ok-read_number-in-Next.ensures in
    walk_goes_on number_meaning numbers_of (length c.args.reader.now.rest) c.loop.counter c.args.reader.now c.loop.reader c.loop.numbers _ h c.loop.invariant c.in_ok-field.field-0 c.in-Next.id c.in-Next.kind c.field.new.self
    c.in_ok-field.ensures.exact.0 c.in-Next.is one.0 c.read_number.new.reader c.read_number.new.numbers one.1.0 c.in_ok-field.ensures.exact.1 one.1.2
    (one.1.1 ∙ ap (λ numbers. with_number c.in-Next.id one.0 numbers) c.loop.invariant.seen ∙ sym (numbers_grow c.in-Next.id one.0 c.loop.invariant.done))
