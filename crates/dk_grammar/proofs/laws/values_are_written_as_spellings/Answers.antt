use Rattle.dk_grammar.proofs.WrittenSpellings.{binary_written, end_written, field_written, list_written, whole_written}
use Rattle.dk_grammar.proofs.laws.values_are_written_as_spellings.Goals as goal

pub returns-clause-whole : goal.returns-clause-whole
returns-clause-whole c = whole_written

pub returns-clause-binary : goal.returns-clause-binary
returns-clause-binary c = binary_written

pub returns-clause-field : goal.returns-clause-field
returns-clause-field c = field_written

pub returns-clause-end : goal.returns-clause-end
returns-clause-end c = end_written

pub returns-clause-list : goal.returns-clause-list
returns-clause-list c = list_written
