-- A text that is read in another way is another pair.
use Rattle.std.proofs.Common.{ap, sym, ◌∙◌, ◌≤◌, arith, [], drop}
use Rattle.std.proofs.lemmas.List.{append-nil}
use Rattle.dk_paths.specs.Numbers.{part_text}
use Rattle.dk_paths.proofs.Spelled.{pair_split, same_pair, nonempty}
use Rattle.dk_paths.proofs.read.read_part.Goals as goal
use Rattle.dk_paths.proofs.read.read_part.Goals.{else-is_empty-via-then-is_empty+then-part-ge1+else-part-parts, else-is_empty-via-then-is_empty+else-part-ge1, else-is_empty-via-else-is_empty}

pub returns-in_default-strip_front : goal.returns-in_default-strip_front
returns-in_default-strip_front c = λ part parts is spelled.
    let read = c.in-Some.ensures in
    let front = pair_split part parts c.in-Some.part c.in-Some.rest.now c.args.text.now is read.0 read.1 spelled in
    c.in_default-strip_front.ensures (part_text parts) (sym front.same_rest)

pub returns-in_default-split_part : goal.returns-in_default-split_part
returns-in_default-split_part c = λ part parts is spelled.
    let read = c.in-Some.ensures in
    let front = pair_split part parts c.in-Some.part c.in-Some.rest.now c.args.text.now is read.0 read.1 spelled in
    let small : parts ≤ 4294967295 = omega (arith, is.small) in
    c.in_default-split_part.ensures parts [] small (append-nil (part_text parts) ∙ ap (drop 1) (front.same_rest ∙ c.in-Some-strip_front.ensures))

pub returns-else-is_empty : goal.returns-else-is_empty
returns-else-is_empty c = λ part parts is spelled.
    let read = c.in-Some.ensures in
    let second = c.in-Some-split_part.ensures in
    let same = same_pair part parts c.in-Some.part c.in-Some-split_part.parts c.args.text.now c.in-Some.rest.now c.in-Some-strip_front.text.now c.in-Some-split_part.ending.now
    is read.0 read.1 c.in-Some-strip_front.ensures second.0 second.1 spelled in
    let least : 1 ≤ part = is.first in
    let most : part ≤ parts = is.last in
    elim c.else-is_empty.branch [
      | else-is_empty-via-then-is_empty+then-part-ge1+else-part-parts w ↦ omega (arith, same.same_part, same.same_parts)
      | else-is_empty-via-then-is_empty+else-part-ge1 w ↦ omega (arith, same.same_part)
      | else-is_empty-via-else-is_empty w ↦ nonempty c.in-Some-split_part.ending.now c.is_empty.result c.is_empty.ensures w.if-is_empty.false same.no_more
    ]
