use Rattle.std.proofs.Common.{rules, ◌≡◌, ◌+◌, ◌<◌, ◌^◌, arith, length, map, string_bytes, sum_by, refl}
use Rattle.dk_pqmodel.specs.FooterBytes.{SpellsName}
use Rattle.dk_pqwrite.specs.FooterSizes.{name_size}
use Rattle.dk_pqwrite.proofs.Structs.{list_held, length_of_map}
use Rattle.dk_pqwrite.proofs.chunk.put_path.Goals as goal

pub returns : goal.returns
returns c =
    let path = c.args.path.now in
    let count = c.in_ok-count.count in
    let small : count < 2 ^ 32 = search rules in
    let many : count ≡ length path = search rules in
    let names = sum_by name_size (map string_bytes path) in
    list_held 3 8 count SpellsName (map string_bytes path) names (6 + names) c.args.writer.now c.field.new.self c.list.new.self c.write_names.new.writer (omega arith) c.in_ok-field.ensures.written c.in_ok-list.ensures.written
    (length_of_map string_bytes path count many) small refl c.in_ok-write_names.ensures
