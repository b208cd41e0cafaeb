use Rattle.std.proofs.Common.{w16, length, arith}
use Rattle.std.proofs.lemmas.Result.{err_from_is_err_and}
use Rattle.std.proofs.lemmas.Int.{to_z-of_z}
use Rattle.dk_grammar.specs.Passed.{element_passed, entry_passed}
use Rattle.dk_thrift.proofs.Passes.{each_goes_on, entry_is, fields_flaw, value_flaw, fields_go_on, field_id}
use Rattle.dk_thrift.proofs.passing.+passing.Goals as goal

pub pass_each-loop-preserved : goal.pass_each-loop-preserved
pass_each-loop-preserved t c =
    each_goes_on (element_passed c.args.levels c.args.kind) c.args.count c.loop.counter c.loop.rest.now c.in_ok-rest.rest.now _ (omega arith) c.in_ok-rest.ensures c.loop.invariant

pub pass_entries-loop-preserved : goal.pass_entries-loop-preserved
pass_entries-loop-preserved t c =
    each_goes_on (entry_passed (element_passed c.args.levels) c.args.key c.args.value) c.args.count c.loop.counter c.loop.rest.now c.in_ok-rest.rest.now _ (omega arith)
    (entry_is (element_passed c.args.levels) c.args.key c.args.value c.loop.rest.now c.in_ok-behind_key.behind_key.now c.in_ok-rest.rest.now c.in_ok-behind_key.ensures c.in_ok-rest.ensures)
    c.loop.invariant

pub pass_struct-returns-in_err-field : goal.pass_struct-returns-in_err-field
pass_struct-returns-in_err-field t c =
    let p = err_from_is_err_and c.from_residual.result c.from_residual.ensures.1 in
    rw (p.1, p.2) (fields_flaw (element_passed c.args.levels) (length c.args.bytes.now) c.loop.counter _ c.loop.rest.now _ (omega arith) c.loop.invariant
    c.in_err-field.field-0.0 c.in_err-field.ensures)

pub pass_struct-returns-in_err-rest-in-Next : goal.pass_struct-returns-in_err-rest-in-Next
pass_struct-returns-in_err-rest-in-Next t c =
    let p = err_from_is_err_and c.from_residual-in_err-rest-in-Next.result c.from_residual-in_err-rest-in-Next.ensures.1 in
    rw (p.1, p.2) (value_flaw (element_passed c.args.levels) (length c.args.bytes.now) c.loop.counter _ c.loop.rest.now _ (omega arith) c.loop.invariant
    c.in-Next.id c.in-Next.kind c.in_ok-field.behind.now c.in_err-rest-in-Next.field-0.0 (rw c.in-Next.is at c.in_ok-field.ensures) (rw c.kind_of.ensures at c.in_err-rest-in-Next.ensures))

pub pass_struct-loop-preserved : goal.pass_struct-loop-preserved
pass_struct-loop-preserved t c =
    let first = rw c.in-Next.is at c.in_ok-field.ensures in
    rw (to_z-of_z w16 c.in-Next.id (field_id _ c.loop.rest.now c.in-Next.id c.in-Next.kind c.in_ok-field.behind.now first)) (fields_go_on (element_passed c.args.levels) (length c.args.bytes.now) c.loop.counter _ c.loop.rest.now _ (omega arith) c.loop.invariant
    c.in-Next.id c.in-Next.kind c.in_ok-field.behind.now c.in_ok-rest-in-Next.rest.now first (rw c.kind_of.ensures at c.in_ok-rest-in-Next.ensures))
