use Rattle.std.proofs.Common.{◌^◌, ◌≡◌, ◌≤◌, ◌++◌, length, take, drop, arith, sym, ap, ◌∙◌}
use Rattle.dk_grammar.specs.Digits.{digits_of, number_of}
use Rattle.dk_hybrid.proofs.Groups.{add_group, groups_left, group_within, group_part, smaller_at, extended}
use Rattle.dk_hybrid.proofs.unpacking.unpack_groups.Goals as goal

pub loop-left-preserved : goal.loop-left-preserved
loop-left-preserved c =
    let width = c.args.width in
    let rest = c.loop-left.rest.now in
    let within : width ≤ length rest = group_within c.loop-left.left width rest (omega arith) c.loop-left.invariant.enough in
    let front : c.split_at.result.0.now ≡ take width rest = c.split_at.ensures.front ∙ ap (λ k. take k rest) c.from.ensures in
    let behind : c.split_at.result.1.now ≡ drop width rest = c.split_at.ensures.back ∙ ap (λ k. drop k rest) c.from.ensures in
    let small = smaller_at c.number_in.result (number_of 256 c.split_at.result.0.now) (256 ^ length c.split_at.result.0.now) c.number_in.ensures.number c.number_in.ensures.small in
    let added : c.extend_from_slice.new.self.items ≡ c.loop-left.values.items ++ digits_of (2 ^ width) 8 (number_of 256 c.split_at.result.0.now) =
    c.in_ok-extend_from_slice.ensures.items
    ∙ ap (λ xs. c.loop-left.values.items ++ xs) (c.eight_of.ensures ∙ ap (digits_of (2 ^ width) 8) c.number_in.ensures.number) in
    record {
      same = add_group width c.loop-left.left rest c.split_at.result.0.now c.split_at.result.1.now c.loop-left.values.items c.extend_from_slice.new.self.items _
          (omega arith) within front behind small added c.loop-left.invariant.same;
      enough = groups_left c.loop-left.left width rest c.split_at.result.1.now (omega arith) behind c.loop-left.invariant.enough;
    }

pub returns : goal.returns
returns c =
    let width = c.args.width in
    let rest = c.loop-left.rest.now in
    let within : width ≤ length rest = group_within c.loop-left.left width rest (omega arith) c.loop-left.invariant.enough in
    let front : c.split_at-2.result.0.now ≡ take width rest = c.split_at-2.ensures.front ∙ ap (λ k. take k rest) c.from-2.ensures in
    let behind : c.split_at-2.result.1.now ≡ drop width rest = c.split_at-2.ensures.back ∙ ap (λ k. drop k rest) c.from-2.ensures in
    let small = smaller_at c.number_in-2.result (number_of 256 c.split_at-2.result.0.now) (256 ^ length c.split_at-2.result.0.now) c.number_in-2.ensures.number c.number_in-2.ensures.small in
    let part = group_part width c.loop-left.left rest c.split_at-2.result.0.now c.split_at-2.result.1.now (omega arith) within front behind small in
    let eight : c.eight_of-2.result ≡ digits_of (2 ^ width) 8 (number_of 256 c.split_at-2.result.0.now) = c.eight_of-2.ensures ∙ ap (digits_of (2 ^ width) 8) c.number_in-2.ensures.number in
    extended c.extend_from_slice-2.result c.extend_from_slice-2.new.self.items c.loop-left.values.items (take c.loop-left.left c.eight_of-2.result) _
    c.extend_from_slice-2.ensures.items
    (ap (λ xs. c.loop-left.values.items ++ xs) (ap (take c.loop-left.left) eight ∙ sym part) ∙ c.loop-left.invariant.same)
