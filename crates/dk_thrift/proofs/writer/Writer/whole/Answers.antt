use Rattle.std.proofs.Common.{w64}
use Rattle.std.proofs.lemmas.Int.{to_z-of_z}
use Rattle.std.proofs.lemmas.Result.{on_ok_weaker}
use Rattle.dk_grammar.specs.Grammar.{SpellsWhole}
use Rattle.dk_grammar.specs.Spelling.{whole_bytes}
use Rattle.dk_grammar.specs.Thrift.{whole_at}
use Rattle.dk_grammar.proofs.Spellings.{wholes}
use Rattle.dk_grammar.proofs.WrittenSpellings.{whole_written}
use Rattle.dk_thrift.proofs.AgainLaws.{again}
use Rattle.dk_thrift.proofs.writer.Writer.whole.Goals as goal

pub returns-clause-again : goal.returns-clause-again
returns-clause-again c =
    on_ok_weaker c.push_varint.result (λ added.
    rw (← c.self.view_is) (again SpellsWhole whole_at wholes c.args.value (whole_bytes c.args.value) c.self.inside.bytes.items c.push_varint.new.bytes.items
    (whole_written c.args.value c.ranges.value) (rw (c.zigzag.ensures, to_z-of_z w64 c.args.value c.ranges.value) at added)))
    c.push_varint.ensures
