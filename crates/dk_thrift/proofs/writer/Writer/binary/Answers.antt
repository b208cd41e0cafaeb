use Rattle.std.proofs.Common.{rules, ◌≡◌, ◌<◌, ◌++◌, ◌^◌, length, append_assoc}
use Rattle.dk_grammar.specs.Grammar.{SpellsBinary}
use Rattle.dk_grammar.specs.Spelling.{binary_bytes}
use Rattle.dk_grammar.specs.Thrift.{binary_at}
use Rattle.dk_grammar.proofs.Spellings.{binaries}
use Rattle.dk_grammar.proofs.WrittenSpellings.{binary_written}
use Rattle.dk_thrift.proofs.AgainLaws.{again}
use Rattle.dk_thrift.proofs.writer.Writer.binary.Goals as goal

pub returns-clause-again : goal.returns-clause-again
returns-clause-again c =
    let added : c.extend_from_slice.new.self.items ≡ c.self.inside.bytes.items ++ binary_bytes c.args.bytes.now = search (rules, append_assoc) in
    let small : length c.args.bytes.now < 2 ^ 64 = search rules in
    rw (← c.self.view_is) (again SpellsBinary binary_at binaries c.args.bytes.now (binary_bytes c.args.bytes.now) c.self.inside.bytes.items c.extend_from_slice.new.self.items
    (binary_written c.args.bytes.now small) added)
