use Rattle.std.proofs.Common.{rules, FitsSigned, w64}
use Rattle.std.proofs.lemmas.Int.{to_z-of_z}
use Rattle.dk_grammar.proofs.Spellings.{wholes}
use Rattle.dk_grammar.proofs.WithinLaws.{whole_within}
use Rattle.dk_grammar.specs.Thrift.{whole_at}
use Rattle.dk_thrift.proofs.Places.{value_in}
use Rattle.dk_thrift.proofs.reader.Reader.whole.Goals as goal

pub invariant_of-self : goal.invariant_of-self
invariant_of-self c = value_in (λ x. x.1) c.self.inside.size c.self.inside.left.now (whole_at c.self.inside.left.now) _ (whole_within c.self.inside.left.now) c.self.invariant c.in-Ok.ensures

pub returns-in-Ok-clause-spelled : goal.returns-in-Ok-clause-spelled
returns-in-Ok-clause-spelled c =
    let fits : FitsSigned w64 c.in-Ok.value = search rules in
    rw (← c.self.view_is, to_z-of_z w64 c.in-Ok.value fits) (wholes.spelled _ _ _ c.in-Ok.ensures)
