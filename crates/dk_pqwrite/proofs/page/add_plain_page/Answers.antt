use Rattle.std.proofs.Common.{◌<◌, ◌≤◌, ◌+◌, ◌*◌, ◌^◌, length, map, arith}
use Rattle.std.proofs.lemmas.List.{length-map}
use Rattle.std.proofs.lemmas.Result.{on_ok_weaker}
use Rattle.dk_levels.specs.Borrowed.{borrowed_triple}
use Rattle.dk_pqwrite.specs.PlainValues.{plain_size}
use Rattle.dk_pqwrite.specs.WrittenColumn.{values_of_column}
use Rattle.dk_pqwrite.proofs.BuildingPages.{body_short, plain_page, weighs}
use Rattle.dk_pqwrite.proofs.page.add_plain_page.Goals as goal

pub end_data_page-requires-clause-size : goal.end_data_page-requires-clause-size
end_data_page-requires-clause-size c =
    let entries = map borrowed_triple c.args.triples.now in
    let values = c.in_ok-add_plain.ensures in
    let many = length-map c.args.triples.now borrowed_triple in
    let few : length entries ≤ 2 ^ 26 = omega (arith, many, c.requires.few) in
    let small : 88 + 10 * length entries + plain_size (values_of_column entries) < 2 ^ 31 = omega (arith, weighs entries, c.requires.light, few) in
    rw c.deref.ensures.value
    (body_short c.args.column entries c.in_ok-body.body.items c.add_plain.new.out.items values.part c.in_ok-body.ensures values.added c.requires.full few (plain_size (values_of_column entries)) values.size small)

pub returns : goal.returns
returns c =
    let entries = map borrowed_triple c.args.triples.now in
    let many = length-map c.args.triples.now borrowed_triple in
    let few : length entries ≤ 2 ^ 26 = omega (arith, many, c.requires.few) in
    on_ok_weaker c.end_data_page.result
    (λ h. rw (← many) (plain_page c.args.column entries c.in_ok-body.body.items c.add_plain.new.out.items c.args.out.now.items c.end_data_page.new.out.items c.in_ok-body.ensures c.requires.full few
    c.in_ok-add_plain.ensures (rw many h)))
    (rw c.deref.ensures.value at c.end_data_page.ensures)
