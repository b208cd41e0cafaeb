-- Each way out of the loop gives the whole sum.
use Rattle.std.proofs.Common.{◌<◌, ◌≤◌, ◌^◌, arith}
use Rattle.dk_paths.proofs.IntervalSums.{sum_after-none, ends_empty, ends, ends_alone, ends_number, ends_unit, goes_on, ends_nine, pair_small}
use Rattle.dk_paths.proofs.interval.sum_pairs.Goals as goal

pub loop-count-init : goal.loop-count-init
loop-count-init c = record { same = sum_after-none _; small = omega arith }

pub returns-then-count-eq0 : goal.returns-then-count-eq0
returns-then-count-eq0 c = ends_empty c.loop-count.count c.loop-count.sum _ _ c.in_default.ensures c.if-count-eq0.true c.loop-count.invariant.same

pub returns-else-count-eq0 : goal.returns-else-count-eq0
returns-else-count-eq0 c =
    let some : 0 < c.loop-count.count = omega (arith, c.if-count-eq0.false) in
    let few : c.loop-count.count ≤ 8 = omega arith in
    let small : c.loop-count.sum < 2 ^ 127 = omega (arith, c.loop-count.invariant.small) in
    ends c.loop-count.count c.loop-count.sum _ _ c.in_default.ensures some few small c.loop-count.invariant.same

pub returns-in_default-next_word : goal.returns-in_default-next_word
returns-in_default-next_word c = ends_alone c.loop-count.count c.loop-count.sum c.in-Some.number.now _ _ _ c.in-Some.ensures c.in_default-next_word.ensures c.loop-count.invariant.same

pub returns-in_default-read_number : goal.returns-in_default-read_number
returns-in_default-read_number c = ends_number c.loop-count.count c.loop-count.sum c.in-Some.number.now c.in-Some-next_word.unit.now _ _ _ _
    c.in-Some.ensures c.in-Some-next_word.ensures c.in_default-read_number.ensures.number c.loop-count.invariant.same

pub returns-in_default-read_unit : goal.returns-in_default-read_unit
returns-in_default-read_unit c = ends_unit c.loop-count.count c.loop-count.sum c.in-Some.number.now c.in-Some-next_word.unit.now _ _ _ _
    c.in-Some.ensures c.in-Some-next_word.ensures c.in_default-read_unit.ensures.unit c.loop-count.invariant.same

pub loop-count-preserved : goal.loop-count-preserved
loop-count-preserved c =
    let number = c.from.ensures in
    let unit = c.from-in-loop-count.ensures in
    let pair = pair_small c.in-Some-read_number.number c.in-Some-read_unit.unit c.in-Some-read_number.ensures.small c.in-Some-read_unit.ensures.small in
    record {
      same = rw (number, unit) (goes_on c.loop-count.count c.loop-count.sum c.in-Some-read_number.number c.in-Some-read_unit.unit c.in-Some.number.now c.in-Some-next_word.unit.now _ _ _ _
          c.in-Some.ensures c.in-Some-next_word.ensures c.in-Some-read_number.ensures.number c.in-Some-read_unit.ensures.unit c.loop-count.invariant.same);
      small = rw (number, unit) (omega (arith, pair, c.loop-count.invariant.small));
    }

pub returns : goal.returns
returns c = ends_nine c.loop-count.count c.loop-count.sum _ _ (omega arith) c.loop-count.invariant.same
