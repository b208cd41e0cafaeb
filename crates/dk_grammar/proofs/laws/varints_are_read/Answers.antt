use Rattle.dk_grammar.proofs.Spellings.{varint_spelled}
use Rattle.dk_grammar.proofs.Varints.{varint_again, written_is_varint}
use Rattle.dk_grammar.proofs.laws.varints_are_read.Goals as goal

pub returns-clause-given : goal.returns-clause-given
returns-clause-given c = varint_again

pub returns-clause-spelled : goal.returns-clause-spelled
returns-clause-spelled c = varint_spelled

pub returns-clause-written : goal.returns-clause-written
returns-clause-written c = written_is_varint
