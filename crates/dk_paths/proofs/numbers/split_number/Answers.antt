-- A text that is too short begins with no number, and else its front is the only one that it can begin with.
use Rattle.dk_paths.proofs.Digits.{too_short, front_is_digits}
use Rattle.dk_paths.proofs.numbers.split_number.Goals as goal

pub returns-then-text-count : goal.returns-then-text-count
returns-then-text-count c = λ number rest small spelled. too_short c.args.text.now c.args.count number rest c.if-text-count.true spelled

pub returns-in-None : goal.returns-in-None
returns-in-None c = λ number rest small spelled.
    c.in-None.ensures number small
    (rw c.split_at.ensures.front_len (front_is_digits c.args.text.now c.split_at.result.0.now rest c.args.count number c.split_at.ensures.front spelled))
