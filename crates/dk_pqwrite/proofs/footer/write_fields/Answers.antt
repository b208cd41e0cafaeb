use Rattle.std.proofs.Common.{ℕ, ◌∷◌, [], ◌+◌, ◌≤◌, arith, codes, length, lit<, subst, sym}
use Rattle.dk_pqmodel.specs.NodeView.{fields_of}
use Rattle.dk_pqwrite.specs.Said.{SpellsFileSaid}
use Rattle.dk_pqwrite.specs.Chunks.{chunks_size, group_said}
use Rattle.dk_pqwrite.specs.Elements.{said_of}
use Rattle.dk_pqwrite.specs.Footers.{elements_size, file_said, footer_size, root_said}
use Rattle.dk_pqwrite.specs.Written.{written_nodes}
use Rattle.dk_pqwrite.proofs.WholeFooters.{file_added}
use Rattle.dk_pqwrite.proofs.footer.write_fields.Goals as goal

room : (schema chunks : ℕ) → 21 + (6 + schema) + (36 + chunks) + 7 ≤ 70 + (schema + chunks)
room schema chunks = omega arith

pub returns : goal.returns
returns c =
    let fs = fields_of c.args.nodes.now in
    let group = c.args.group.now in
    let most = chunks_size group.chunks.items in
    let put = c.in_ok-put_schema.ensures in
    let file = file_added (root_said fs ∷ said_of (written_nodes fs)) group.rows (group_said group ∷ []) (codes "deltak") (6 + elements_size fs)
    (36 + most) (70 + footer_size fs group.chunks.items) c.new-writer.result c.put_number.new.writer c.put_schema.new.writer
    c.put_number-2.new.writer c.put_groups.new.writer c.put_text.new.writer c.end.new.self (room (elements_size fs) most) c.requires.rows (lit< tt) c.new-writer.ensures c.in_ok-put_number.ensures put.held c.in_ok-put_number-2.ensures
    c.in_ok-put_groups.ensures c.in_ok-put_text.ensures c.in_ok-end.ensures.written in
    record {
      spelled = record { spelled = subst (λ bytes. SpellsFileSaid bytes (file_said fs group)) (sym c.finish.ensures) file.spelled; read = put.read };
      size = subst (λ bytes. length bytes ≤ 70 + footer_size fs group.chunks.items) (sym c.finish.ensures) file.size;
    }
