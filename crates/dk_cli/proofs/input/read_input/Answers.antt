use Rattle.std.proofs.Common.{◌≡◌, ◌≤◌, ◌+◌, length, None, sym, subst, ◌∙◌, rules, arith}
use Rattle.dk_cli.specs.Seen.{HasSeen}
use Rattle.dk_cli.proofs.Scans.{none_behind}
use Rattle.dk_cli.proofs.Inputs.{at_most, left_after, limit_told}
use Rattle.dk_cli.proofs.input.read_input.Goals as goal

pub returns-in-Some-clause-stops : goal.returns-in-Some-clause-stops
returns-in-Some-clause-stops g c =
    let le : c.in-Ok.count ≤ length c.take.new.buf = search rules in
    limit_told c.reading.bytes.items c.take.new.buf _ c.in-Ok.count le _ _ _ c.reading.invariant.left c.in-Ok.ensures.takes.bytes c.args.limits c.in-Some.which c.reading.invariant.none
    (sym c.in-Some.is ∙ c.look.ensures.first c.reading.bytes.items c.reading.invariant.seen)

pub reading-preserved : goal.reading-preserved
reading-preserved g c =
    let le : c.in-Ok.count ≤ length c.take.new.buf = search rules in
    let none : c.look.result ≡ None = search rules in
    let seen : HasSeen c.look.new.self c.extend_from_slice.new.self.items = subst (HasSeen c.look.new.self) (sym c.in_ok-extend_from_slice-in-Ok.ensures.items) (c.look.ensures.seen none c.reading.bytes.items c.reading.invariant.seen) in
    record {
      small = search rules;
      left = left_after c.reading.bytes.items c.take.new.buf _ c.in-Ok.count le _ _ _ c.reading.invariant.left c.in-Ok.ensures.takes.bytes c.extend_from_slice.new.self.items c.in_ok-extend_from_slice-in-Ok.ensures.items;
      later = search rules;
      seen = seen;
      within = c.look.ensures.within;
      none = none_behind c.args.limits c.reading.bytes.items _ c.extend_from_slice.new.self.items c.in_ok-extend_from_slice-in-Ok.ensures.items c.reading.invariant.none (sym none ∙ c.look.ensures.first c.reading.bytes.items c.reading.invariant.seen);
    }

pub returns-in-Some-clause-most : goal.returns-in-Some-clause-most
returns-in-Some-clause-most g c = λ _.
    let le : c.in-Ok.count ≤ length c.take.new.buf = search rules in
    let few : length c.reading.bytes.items + c.in-Ok.count ≤ c.args.limits.input + 1 = search (rules, arith) in
    at_most c.reading.bytes.items c.take.new.buf c.in-Ok.count _ _ _ _ c.reading.invariant.left c.in-Ok.ensures.takes.bytes le few

pub returns-in_err-extend_from_slice-in-Ok-clause-most : goal.returns-in_err-extend_from_slice-in-Ok-clause-most
returns-in_err-extend_from_slice-in-Ok-clause-most g c = λ _.
    let le : c.in-Ok.count ≤ length c.take.new.buf = search rules in
    let few : length c.reading.bytes.items + c.in-Ok.count ≤ c.args.limits.input + 1 = search (rules, arith) in
    at_most c.reading.bytes.items c.take.new.buf c.in-Ok.count _ _ _ _ c.reading.invariant.left c.in-Ok.ensures.takes.bytes le few
