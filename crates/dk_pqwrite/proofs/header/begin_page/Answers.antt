use Rattle.std.proofs.Common.{rules, append_assoc}
use Rattle.dk_pqwrite.proofs.header.begin_page.Goals as goal

pub returns : goal.returns
returns c =
    rw (c.in_ok-enter.ensures, c.in_ok-field.ensures.written, c.in_ok-add_number-3.ensures, c.in_ok-add_number-2.ensures, c.in_ok-add_number.ensures, c.new-writer.ensures)
    (search (rules, append_assoc))
