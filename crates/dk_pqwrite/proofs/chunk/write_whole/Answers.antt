use Rattle.std.proofs.Common.{rules, ◌≡◌, ◌<◌, ◌^◌, pos}
use Rattle.dk_grammar.specs.Spelling.{whole_bytes}
use Rattle.dk_grammar.proofs.WrittenSpellings.{whole_written}
use Rattle.dk_thrift.specs.Writing.{with_bytes}
use Rattle.dk_pqwrite.proofs.Structs.{still_open}
use Rattle.dk_pqwrite.proofs.ElementBytes.{far}
use Rattle.dk_pqwrite.proofs.NumberSizes.{whole_8}
use Rattle.dk_pqwrite.proofs.chunk.write_whole.Goals as goal

pub returns : goal.returns
returns c =
    let number = c.args.number in
    let byte : number < 2 ^ 8 = search rules in
    let small : number < 2 ^ 32 = search rules in
    let written : c.whole.new.self ≡ with_bytes (whole_bytes (pos number)) c.args.writer.now = search rules in
    record {
      more = whole_bytes (pos number);
      written = written;
      spelled = whole_written (pos number) (far number small);
      size = whole_8 number byte;
      goes_on = still_open (whole_bytes (pos number)) c.args.writer.now c.whole.new.self written c.requires;
    }
