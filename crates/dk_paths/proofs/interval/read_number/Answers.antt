-- A number of at most 12 digits is below 10 ^ 12, so one of fewer takes one more.
use Rattle.std.proofs.Common.{◌≤◌, ◌-◌, get_or, sym, ◌∙◌, arith}
use Rattle.dk_paths.proofs.IntervalSums.{all_more, digits_more, value_small, power_small, digit_small}
use Rattle.dk_paths.proofs.interval.read_number.Goals as goal

pub overflow_mul-value : goal.overflow_mul-value
overflow_mul-value c =
    let within : c.loop-byte.byte-index ≤ 12 = omega arith in
    let small = power_small c.loop-byte.value c.loop-byte.byte-index c.loop-byte.invariant.small within in
    omega arith

pub overflow_add-value : goal.overflow_add-value
overflow_add-value c =
    let within : c.loop-byte.byte-index ≤ 12 = omega arith in
    let small = power_small c.loop-byte.value c.loop-byte.byte-index c.loop-byte.invariant.small within in
    let test = sym c.is_ascii_digit.ensures.value ∙ c.if-not-is_ascii_digit.false in
    let digit = digit_small (get_or c.args.word.now c.loop-byte.byte-index 0) test in
    omega (arith, c.from.ensures)

pub loop-byte-preserved : goal.loop-byte-preserved
loop-byte-preserved c =
    let test = sym c.is_ascii_digit.ensures.value ∙ c.if-not-is_ascii_digit.false in
    record {
      digits = all_more c.args.word.now c.loop-byte.byte-index c.loop-byte-test.true test c.loop-byte.invariant.digits;
      value = rw c.from.ensures (digits_more c.args.word.now c.loop-byte.byte-index c.loop-byte.value c.loop-byte-test.true test c.loop-byte.invariant.value);
      small = rw c.from.ensures (value_small c.loop-byte.value c.loop-byte.byte-index (get_or c.args.word.now c.loop-byte.byte-index 0 - 48) c.loop-byte.invariant.small (digit_small (get_or c.args.word.now c.loop-byte.byte-index 0) test));
    }

pub returns-clause-small : goal.returns-clause-small
returns-clause-small c =
    let within : c.loop-byte.byte-index ≤ 12 = omega arith in
    power_small c.loop-byte.value c.loop-byte.byte-index c.loop-byte.invariant.small within
