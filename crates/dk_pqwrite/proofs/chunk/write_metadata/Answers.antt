use Rattle.std.proofs.Common.{rules, ◌≡◌, ◌∷◌, [], ◌+◌, ◌*◌, ◌<◌, ◌≤◌, ◌^◌, ◌∙◌, ap, is_some, arith, length, map, pos, string_bytes, sum_by, subst}
use Rattle.dk_pqmodel.specs.FooterBytes.{SpellsPath}
use Rattle.dk_pqwrite.specs.Chunks.{encodings_of, path_of_chunk}
use Rattle.dk_pqwrite.specs.FooterSizes.{name_size}
use Rattle.dk_pqwrite.specs.Items.{Puts, PutsHeld, number_item}
use Rattle.dk_pqwrite.proofs.FooterStructs.{few_encodings, meta_added}
use Rattle.dk_pqwrite.proofs.chunk.write_metadata.Goals as goal

pub returns : goal.returns
returns c =
    let chunk = c.args.chunk.now in
    let small : chunk.physical < 2 ^ 63 = search rules in
    let physical : c.from.result ≡ chunk.physical = search rules in
    let names : c.deref.result.now ≡ chunk.path.items = search rules in
    let encodings = c.encodings.result.now in
    let few : length encodings ≤ 3 = few_encodings _ encodings c.encodings.ensures in
    let coded : map pos encodings ≡ map pos (encodings_of (is_some chunk.dictionary_page)) = ap (map pos) (c.encodings.ensures ∙ ap encodings_of c.is_some.ensures) in
    let most = sum_by name_size (path_of_chunk chunk) in
    meta_added chunk c.requires.fit c.args.writer.now c.enter.new.self c.put_number.new.writer c.put_encodings.new.writer c.put_path.new.writer c.put_number-2.new.writer c.put_number-3.new.writer
    c.put_number-4.new.writer c.put_number-5.new.writer c.put_number-6.new.writer c.put_place.new.writer c.end.new.self (map pos encodings) (6 + 2 * length encodings) (6 + most) (88 + most) (omega (arith, few)) small coded c.requires.in_struct c.in_ok-enter.ensures
    (subst (λ n. Puts (number_item 1 5 n ∷ []) c.enter.new.self c.put_number.new.writer) physical c.in_ok-put_number.ensures) c.in_ok-put_encodings.ensures (subst (λ names. PutsHeld 3 9 SpellsPath (map string_bytes names) (6 + sum_by name_size (map string_bytes names)) c.put_encodings.new.writer c.put_path.new.writer) names c.in_ok-put_path.ensures)
    c.in_ok-put_number-2.ensures c.in_ok-put_number-3.ensures c.in_ok-put_number-4.ensures c.in_ok-put_number-5.ensures c.in_ok-put_number-6.ensures c.in_ok-put_place.ensures c.in_ok-end.ensures.written
