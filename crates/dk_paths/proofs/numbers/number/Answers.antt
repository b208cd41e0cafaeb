-- A byte that is no digit, or a front that is too large, rules out each number; else the value is the one that the text writes.
use Rattle.std.proofs.Common.{refl, sym, ◌∙◌, arith}
use Rattle.dk_paths.proofs.Digits.{digits-zero, not_all_digits, too_large, too_large_whole, spelled_more, value_more}
use Rattle.dk_paths.proofs.numbers.number.Goals as goal

pub loop-byte-init : goal.loop-byte-init
loop-byte-init c = record { spelled = digits-zero 0; value = refl }

pub returns-then-not-is_ascii_digit : goal.returns-then-not-is_ascii_digit
returns-then-not-is_ascii_digit c = λ number small spelled.
    not_all_digits c.args.text.now c.loop-byte.byte-index number c.loop-byte-test.true
    (sym c.is_ascii_digit.ensures.value ∙ c.if-not-is_ascii_digit.true) spelled

pub returns-then-value-limit : goal.returns-then-value-limit
returns-then-value-limit c = λ number small spelled.
    too_large c.args.text.now c.loop-byte.byte-index c.loop-byte.value number c.args.limit small c.requires.fits spelled
    c.loop-byte-test.true c.loop-byte.invariant.value c.if-value-limit.true

pub loop-byte-preserved : goal.loop-byte-preserved
loop-byte-preserved c =
    let digit = sym c.is_ascii_digit.ensures.value ∙ c.if-not-is_ascii_digit.false in
    record {
      spelled = rw c.from.ensures (spelled_more c.args.text.now c.loop-byte.byte-index c.loop-byte.value c.loop-byte-test.true digit c.loop-byte.invariant.spelled);
      value = rw c.from.ensures (value_more c.args.text.now c.loop-byte.byte-index c.loop-byte.value c.loop-byte-test.true digit c.loop-byte.invariant.value);
    }

pub returns-else-value-limit-2 : goal.returns-else-value-limit-2
returns-else-value-limit-2 c = λ number small spelled.
    too_large_whole c.args.text.now c.loop-byte.byte-index c.loop-byte.value number c.args.limit small c.requires.fits spelled
    (omega arith) c.loop-byte.invariant.value c.if-value-limit-2.false
