use Rattle.std.proofs.Common.{rules, ◌≡◌, ◌+◌, ◌*◌, ◌<◌, ◌^◌, arith, length, map, pos, refl}
use Rattle.dk_grammar.specs.Grammar.{SpellsWhole}
use Rattle.dk_pqwrite.proofs.Structs.{list_held, length_of_map}
use Rattle.dk_pqwrite.proofs.chunk.put_encodings.Goals as goal

pub returns : goal.returns
returns c =
    let encodings = c.args.encodings.now in
    let count = c.in_ok-count.count in
    let small : count < 2 ^ 32 = search rules in
    let many : count ≡ length encodings = search rules in
    list_held 2 5 count SpellsWhole (map pos encodings) (2 * length encodings) (6 + 2 * length encodings) c.args.writer.now c.field.new.self c.list.new.self c.write_wholes.new.writer (omega arith) c.in_ok-field.ensures.written c.in_ok-list.ensures.written
    (length_of_map pos encodings count many) small refl c.in_ok-write_wholes.ensures
