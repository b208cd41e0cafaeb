use Rattle.std.proofs.Common.{rules, ◌≡◌, ◌<◌, ◌≤◌, length, get_or, map, string_bytes, subst}
use Rattle.dk_grammar.specs.Lists.{SpellsEach}
use Rattle.dk_pqmodel.specs.FooterBytes.{SpellsName}
use Rattle.dk_pqwrite.specs.FooterSizes.{name_size}
use Rattle.dk_pqwrite.specs.Items.{WritesValue}
use Rattle.dk_pqwrite.proofs.Structs.{next_value, all_values, sum_of}
use Rattle.dk_pqwrite.proofs.chunk.write_names.Goals as goal

pub loop-name-preserved : goal.loop-name-preserved
loop-name-preserved c =
    let item = c.name-item.result in
    let place = c.loop-name.name-index in
    let name : c.deref.result.now ≡ string_bytes item = search rules in
    let room : place < length c.args.names.now = search rules in
    let is : item ≡ get_or c.args.names.now place item = search rules in
    next_value SpellsName string_bytes (λ name. name_size (string_bytes name)) c.args.names.now place item c.args.writer.now c.loop-name.writer c.write_name.new.writer room is c.loop-name.invariant
    (subst (λ text. WritesValue SpellsName text (name_size text) c.loop-name.writer c.write_name.new.writer) name c.in_ok-write_name.ensures)

pub returns : goal.returns
returns c =
    let names = c.args.names.now in
    let past : length names ≤ c.loop-name.name-index = search rules in
    subst (λ most. WritesValue (SpellsEach SpellsName) (map string_bytes names) most c.args.writer.now c.loop-name.writer) (sum_of name_size string_bytes names)
    (all_values SpellsName string_bytes (λ name. name_size (string_bytes name)) names c.loop-name.name-index c.args.writer.now c.loop-name.writer past c.loop-name.invariant)
