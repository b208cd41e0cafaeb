use Rattle.std.proofs.Common.{rules, ◌≡◌, ap, FitsSigned, w16}
use Rattle.std.proofs.lemmas.Int.{to_z-of_z}
use Rattle.dk_grammar.specs.Grammar.{SpellsField}
use Rattle.dk_grammar.specs.Spelling.{field_bytes}
use Rattle.dk_grammar.specs.Thrift.{field_at}
use Rattle.dk_grammar.specs.declared.thrift.Field.TheVariants.{Next}
use Rattle.dk_grammar.proofs.Spellings.{fields}
use Rattle.dk_grammar.proofs.WrittenSpellings.{field_written}
use Rattle.dk_thrift.proofs.AgainLaws.{again, current_is, is_id_of_16}
use Rattle.dk_thrift.proofs.writer.Writer.field.Goals as goal

pub returns-clause-again : goal.returns-clause-again
returns-clause-again c last outer e =
    let given = c.unwrap-last.result in
    let same : given ≡ last = current_is c.self.inside.current c.self.inside.outer.items c.args.self.now.structs outer given last (ap (λ w. w.structs) c.self.view_is) c.unwrap-last.ensures e in
    let fits : FitsSigned w16 given = search rules in
    let added = rw (to_z-of_z w16 given fits, to_z-of_z w16 c.args.id c.ranges.id, same) at c.in_ok-push_field.ensures in
    rw (← c.self.view_is) (again (SpellsField last) (field_at last) (fields last) (Next c.args.id c.args.kind) (field_bytes last c.args.id c.args.kind) c.self.inside.bytes.items
    c.push_field.new.bytes.items (field_written last c.args.id c.args.kind (is_id_of_16 c.args.id c.ranges.id) c.requires.kind) added)
