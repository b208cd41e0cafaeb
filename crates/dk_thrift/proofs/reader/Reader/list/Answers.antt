use Rattle.dk_grammar.proofs.Spellings.{lists}
use Rattle.dk_grammar.proofs.WithinLaws.{list_within}
use Rattle.dk_grammar.specs.Thrift.{list_at}
use Rattle.dk_thrift.proofs.Places.{value_in}
use Rattle.dk_thrift.proofs.reader.Reader.list.Goals as goal

pub invariant_of-self : goal.invariant_of-self
invariant_of-self c = value_in (λ x. x.1) c.self.inside.size c.self.inside.left.now (list_at c.self.inside.left.now) _ (list_within c.self.inside.left.now) c.self.invariant c.in-Ok.ensures

pub returns-in-Ok-clause-spelled : goal.returns-in-Ok-clause-spelled
returns-in-Ok-clause-spelled c = rw (← c.self.view_is) (lists.spelled _ _ _ c.in-Ok.ensures)
