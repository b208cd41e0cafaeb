use Rattle.dk_grammar.proofs.NestedSpellings.{values}
use Rattle.dk_grammar.proofs.WithinLaws.{passed_within}
use Rattle.dk_grammar.specs.Passed.{passed_at}
use Rattle.dk_thrift.proofs.Places.{flaw_in, value_in}
use Rattle.dk_thrift.proofs.reader.Reader.skip.Goals as goal

pub invariant_of-self : goal.invariant_of-self
invariant_of-self c =
    value_in (λ rest. rest) c.self.inside.size c.self.inside.left.now (passed_at c.args.kind c.self.inside.left.now) _ (passed_within c.args.kind c.self.inside.left.now) c.self.invariant
    c.in-Ok.ensures

pub fault-requires : goal.fault-requires
fault-requires c =
    flaw_in (λ rest. rest) c.self.inside.size c.self.inside.left.now (passed_at c.args.kind c.self.inside.left.now) _ (passed_within c.args.kind c.self.inside.left.now) c.self.invariant
    c.in-Err.ensures

pub returns-in-Ok-clause-spelled : goal.returns-in-Ok-clause-spelled
returns-in-Ok-clause-spelled c = rw (← c.self.view_is) ((values c.args.kind).spelled _ _ c.in-Ok.ensures)
