use Rattle.dk_pqread.proofs.PlainLaws.{plains_given, plains_found}
use Rattle.dk_pqread.proofs.laws.plain_values_are_read_by_their_grammar.Goals as goal

pub returns-clause-given : goal.returns-clause-given
returns-clause-given c = plains_given

pub returns-clause-found : goal.returns-clause-found
returns-clause-found c = λ kind count bytes more values small e. (let found = plains_found kind count bytes more values small e in (found.ps, found.are, found.whole, found.count))
