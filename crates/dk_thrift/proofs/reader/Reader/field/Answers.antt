use Rattle.std.proofs.Common.{rules, FitsSigned, of_z, to_z, w16}
use Rattle.std.proofs.lemmas.Int.{to_z-of_z}
use Rattle.dk_grammar.proofs.Spellings.{fields}
use Rattle.dk_grammar.proofs.WithinLaws.{field_within}
use Rattle.dk_grammar.specs.Thrift.{field_at}
use Rattle.dk_thrift.proofs.Places.{value_in}
use Rattle.dk_thrift.proofs.reader.Reader.field.Goals as goal

pub invariant_of-self : goal.invariant_of-self
invariant_of-self c =
    let last = to_z w16 (of_z w16 c.self.inside.last_id) in
    value_in (λ x. x.1) c.self.inside.size c.self.inside.left.now (field_at last c.self.inside.left.now) _ (field_within last c.self.inside.left.now) c.self.invariant c.in-Ok.ensures

pub returns-in-Next-clause-spelled : goal.returns-in-Next-clause-spelled
returns-in-Next-clause-spelled c =
    let fits : FitsSigned w16 c.self.inside.last_id = search rules in
    let front = rw (to_z-of_z w16 c.self.inside.last_id fits) at c.in-Ok.ensures in
    rw (← c.self.view_is) ((fields c.self.inside.last_id).spelled _ _ _ (rw c.in-Next.is at front))

pub returns-in_default-clause-spelled : goal.returns-in_default-clause-spelled
returns-in_default-clause-spelled c =
    let fits : FitsSigned w16 c.self.inside.last_id = search rules in
    let front = rw (to_z-of_z w16 c.self.inside.last_id fits) at c.in-Ok.ensures in
    rw (← c.self.view_is) ((fields c.self.inside.last_id).spelled _ _ _ front)
