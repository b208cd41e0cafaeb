use Rattle.std.proofs.Common.{rules, ◌≡◌, ◌<◌, ◌≤◌, ◌^◌, ◌++◌, ◌-◌, length, sym, arith}
use Rattle.std.proofs.lemmas.List.{take-append-drop}
use Rattle.dk_grammar.specs.Digits.{number_of}
use Rattle.dk_pqmeta.proofs.Framing.{long_enough, part_fits, part_found}
use Rattle.dk_pqmeta.proofs.frame.sized_at_end.Goals as goal

pub returns-then-front-size : goal.returns-then-front-size
returns-then-front-size c = λ content part small e.
    let bytes = c.args.bytes.now in
    let front = c.split_at.result.0.now in
    let last = c.split_at.result.1.now in
    let whole : bytes ≡ front ++ last = rw (c.split_at.ensures.front, c.split_at.ensures.back) (sym (take-append-drop (length bytes - 4) bytes)) in
    let long : 4 ≤ length bytes = long_enough bytes content part e in
    let four : length last ≡ 4 = omega (arith, c.split_at.ensures.back_len) in
    let fits : number_of 256 last ≤ length front = part_fits bytes front last content part whole four small e in
    omega (arith, c.number-size.ensures.value, c.if-front-size.true)

pub returns : goal.returns
returns c =
    let bytes = c.args.bytes.now in
    let front = c.split_at.result.0.now in
    let last = c.split_at.result.1.now in
    let whole : bytes ≡ front ++ last = rw (c.split_at.ensures.front, c.split_at.ensures.back) (sym (take-append-drop (length bytes - 4) bytes)) in
    let small : c.number-size.result < 2 ^ 32 = search rules in
    let fits : c.number-size.result ≤ length front = omega (arith, c.if-front-size.false) in
    part_found bytes front last c.split_at-2.result.1.now c.number-size.result whole c.number-size.ensures.spelled fits c.split_at-2.ensures.back small
