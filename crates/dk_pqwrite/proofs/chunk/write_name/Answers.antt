use Rattle.std.proofs.Common.{rules, ◌≡◌, ◌<◌, ◌^◌, length, IsUtf8}
use Rattle.std.proofs.lemmas.Str.{is_utf8-from_IsUtf8}
use Rattle.dk_grammar.specs.Spelling.{binary_bytes}
use Rattle.dk_grammar.proofs.WrittenSpellings.{binary_written}
use Rattle.dk_thrift.specs.Writing.{with_bytes}
use Rattle.dk_pqwrite.proofs.NumberSizes.{name_short}
use Rattle.dk_pqwrite.proofs.Structs.{still_open}
use Rattle.dk_pqwrite.proofs.chunk.write_name.Goals as goal

pub returns : goal.returns
returns c =
    let name = c.args.name.now in
    let utf8 : IsUtf8 name = search rules in
    let short : length name < 2 ^ 64 = search rules in
    let written : c.binary.new.self ≡ with_bytes (binary_bytes name) c.args.writer.now = search rules in
    record {
      more = binary_bytes name;
      written = written;
      spelled = (binary_written name short, is_utf8-from_IsUtf8 name utf8);
      size = name_short name short;
      goes_on = still_open (binary_bytes name) c.args.writer.now c.binary.new.self written c.requires;
    }
