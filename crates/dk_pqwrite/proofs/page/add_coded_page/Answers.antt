use Rattle.std.proofs.Common.{◌<◌, ◌≤◌, ◌≡◌, ◌+◌, ◌*◌, ◌^◌, ◌∙◌, length, map, ap, arith}
use Rattle.std.proofs.lemmas.List.{length-map}
use Rattle.std.proofs.lemmas.Result.{on_ok_weaker}
use Rattle.dk_levels.specs.Borrowed.{borrowed_triple}
use Rattle.dk_pqmodel.specs.Datum.{chars}
use Rattle.dk_pqwrite.specs.FirstUses.{texts_in}
use Rattle.dk_pqwrite.specs.WrittenColumn.{values_of_column}
use Rattle.dk_pqwrite.proofs.BuildingPages.{as_many_places, body_short, coded_page, places_fit, text_values, values_few}
use Rattle.dk_pqwrite.proofs.Uses.{Key, shown}
use Rattle.dk_pqwrite.proofs.page.add_coded_page.Goals as goal

pub add_places-requires-clause-fit : goal.add_places-requires-clause-fit
add_places-requires-clause-fit c =
    let keys = c.args.dictionary.now.texts.keys in
    rw (← length-map keys (λ (k : Key). k.now)) (places_fit (shown keys) c.args.dictionary.now.places.items (texts_in (map borrowed_triple c.args.triples.now)) c.requires.places)

pub end_data_page-requires-clause-size : goal.end_data_page-requires-clause-size
end_data_page-requires-clause-size c =
    let entries = map borrowed_triple c.args.triples.now in
    let places = c.args.dictionary.now.places.items in
    let coded = c.in_ok-add_places.ensures (texts_in entries) c.requires.places in
    let many = length-map c.args.triples.now borrowed_triple in
    let few : length entries ≤ 2 ^ 26 = omega (arith, many, c.requires.writable.few) in
    let theirs : length places ≡ length (texts_in entries) = as_many_places (shown c.args.dictionary.now.texts.keys) places (texts_in entries) c.requires.places in
    let again : length (values_of_column entries) ≡ length (texts_in entries) = ap length (text_values entries (rw c.requires.kind at c.requires.writable.fit)) ∙ length-map (texts_in entries) chars in
    let small : 88 + 10 * length entries + (41 + 5 * length places) < 2 ^ 31 = omega (arith, few, theirs, again, values_few entries) in
    rw c.deref.ensures.value
    (body_short c.args.column entries c.in_ok-body.body.items c.add_places.new.out.items coded.part c.in_ok-body.ensures coded.added c.requires.writable.full few (41 + 5 * length places) coded.size small)

pub returns : goal.returns
returns c =
    let entries = map borrowed_triple c.args.triples.now in
    let places = c.args.dictionary.now.places.items in
    let coded = c.in_ok-add_places.ensures (texts_in entries) c.requires.places in
    let many = length-map c.args.triples.now borrowed_triple in
    let few : length entries ≤ 2 ^ 26 = omega (arith, many, c.requires.writable.few) in
    on_ok_weaker c.end_data_page.result
    (λ h. rw (← many) (coded_page c.args.column entries (shown c.args.dictionary.now.texts.keys) places c.in_ok-body.body.items c.add_places.new.out.items c.args.out.now.items c.end_data_page.new.out.items
    c.in_ok-body.ensures c.requires.writable.full few c.requires.kind c.requires.writable.fit c.requires.places coded (rw many h)))
    (rw c.deref.ensures.value at c.end_data_page.ensures)
