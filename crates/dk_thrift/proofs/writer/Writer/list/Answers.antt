use Rattle.std.proofs.Common.{rules, ◌≡◌, ◌<◌, ◌++◌, ◌^◌, append_assoc}
use Rattle.dk_grammar.specs.Grammar.{SpellsList}
use Rattle.dk_grammar.specs.Spelling.{list_bytes}
use Rattle.dk_grammar.specs.Thrift.{list_at, head}
use Rattle.dk_grammar.proofs.Spellings.{lists}
use Rattle.dk_grammar.proofs.WrittenSpellings.{list_written}
use Rattle.dk_thrift.proofs.AgainLaws.{again}
use Rattle.dk_thrift.proofs.writer.Writer.list.Goals as goal

pub returns-in_ok-push_varint-clause-again : goal.returns-in_ok-push_varint-clause-again
returns-in_ok-push_varint-clause-again c =
    let added : c.push_varint.new.bytes.items ≡ c.self.inside.bytes.items ++ list_bytes c.args.count c.args.kind = search (rules, append_assoc) in
    let small : c.args.count < 2 ^ 32 = search rules in
    rw (← c.self.view_is) (again SpellsList list_at lists (head c.args.count c.args.kind) (list_bytes c.args.count c.args.kind) c.self.inside.bytes.items c.push_varint.new.bytes.items
    (list_written c.args.count c.args.kind small c.requires.kind) added)
