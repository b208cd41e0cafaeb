use Rattle.std.proofs.Common.{rules, FitsSigned, Some, ap, sym, ◌∙◌, w16}
use Rattle.std.proofs.lemmas.Int.{to_z-of_z}
use Rattle.dk_grammar.specs.PageHeaders.{inner}
use Rattle.dk_pages.specs.Headers.{with_inner}
use Rattle.dk_pages.proofs.Meanings.{goes_on, inner_counts}
use Rattle.dk_pages.proofs.fields.read_part.Goals as goal

pub returns-in_ok-inner : goal.returns-in_ok-inner
returns-in_ok-inner c =
    let fits : FitsSigned w16 c.enter-outer.result = search rules in
    let numbers = c.in_ok-inner.ensures in
    let put = rw (to_z-of_z w16 c.args.id c.ranges.id) at c.put.ensures in
    let test = rw (to_z-of_z w16 c.args.id c.ranges.id) at c.is_inner.ensures in
    let left = rw (to_z-of_z w16 c.enter-outer.result fits) at c.leave.ensures in
    let said = rw c.enter-outer.ensures.inner at numbers.1.0 in (
      Some (inner numbers.0),
      (
        rw (ap (λ reading. reading.rest) left) (inner_counts c.args.id c.args.kind c.args.reader.now.rest c.read_numbers.new.reader.rest numbers.0 (sym test ∙ c.if-is_inner.true) c.if-kind-eq-STRUCT.true said),
        put ∙ ap (λ numbers. with_inner c.args.id numbers c.args.fields.now) numbers.1.1,
        goes_on c.args.reader.now c.leave.new.self c.read_numbers.new.reader.size c.read_numbers.new.reader.rest c.enter-outer.result left
            (numbers.1.2 ∙ ap (λ reading. reading.size) c.enter-outer.ensures.inner) c.enter-outer.ensures.outer,
      ),
    )
