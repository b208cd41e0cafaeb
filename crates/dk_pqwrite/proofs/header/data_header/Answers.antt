use Rattle.std.proofs.lemmas.Result.{IfOk-weaker}
use Rattle.dk_pqwrite.proofs.HeaderSpelling.{data_written}
use Rattle.dk_pqwrite.proofs.header.data_header.Goals as goal

pub returns : goal.returns
returns c = record {
  spelled = IfOk-weaker c.end_page.result _ _
      (λ v e. (data_written c.args.values c.args.encoding c.args.size c.in_ok-writer.writer c.add_number.new.writer c.add_number-2.new.writer c.add_number-3.new.writer c.add_number-4.new.writer v.items
      c.in_ok-writer.ensures c.in_ok-add_number.ensures c.in_ok-add_number-2.ensures c.in_ok-add_number-3.ensures c.in_ok-add_number-4.ensures e c.requires.values c.requires.encoding c.requires.size).spelled)
      c.end_page.ensures;
  size = IfOk-weaker c.end_page.result _ _
      (λ v e. (data_written c.args.values c.args.encoding c.args.size c.in_ok-writer.writer c.add_number.new.writer c.add_number-2.new.writer c.add_number-3.new.writer c.add_number-4.new.writer v.items
      c.in_ok-writer.ensures c.in_ok-add_number.ensures c.in_ok-add_number-2.ensures c.in_ok-add_number-3.ensures c.in_ok-add_number-4.ensures e c.requires.values c.requires.encoding c.requires.size).short)
      c.end_page.ensures;
}
