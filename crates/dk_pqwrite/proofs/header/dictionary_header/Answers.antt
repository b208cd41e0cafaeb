use Rattle.std.proofs.lemmas.Result.{IfOk-weaker}
use Rattle.dk_pqwrite.proofs.HeaderSpelling.{dictionary_written}
use Rattle.dk_pqwrite.proofs.header.dictionary_header.Goals as goal

pub returns : goal.returns
returns c = record {
  spelled = IfOk-weaker c.end_page.result _ _
      (λ v e. (dictionary_written c.args.entries c.args.size c.in_ok-writer.writer c.add_number.new.writer c.add_number-2.new.writer v.items
      c.in_ok-writer.ensures c.in_ok-add_number.ensures c.in_ok-add_number-2.ensures e c.requires.entries c.requires.size).spelled)
      c.end_page.ensures;
  size = IfOk-weaker c.end_page.result _ _
      (λ v e. (dictionary_written c.args.entries c.args.size c.in_ok-writer.writer c.add_number.new.writer c.add_number-2.new.writer v.items
      c.in_ok-writer.ensures c.in_ok-add_number.ensures c.in_ok-add_number-2.ensures e c.requires.entries c.requires.size).short)
      c.end_page.ensures;
}
