use Rattle.dk_grammar.proofs.NestedSpellings.{values}
use Rattle.dk_grammar.proofs.Spellings.{binaries, fields, lists, numbers, wholes}
use Rattle.dk_grammar.proofs.laws.values_are_read_by_their_grammars.Goals as goal

pub returns-clause-number : goal.returns-clause-number
returns-clause-number c = numbers

pub returns-clause-whole : goal.returns-clause-whole
returns-clause-whole c = wholes

pub returns-clause-binary : goal.returns-clause-binary
returns-clause-binary c = binaries

pub returns-clause-field : goal.returns-clause-field
returns-clause-field c = fields

pub returns-clause-list : goal.returns-clause-list
returns-clause-list c = lists

pub returns-clause-passed : goal.returns-clause-passed
returns-clause-passed c = values
