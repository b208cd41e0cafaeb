use Rattle.std.proofs.Common.{◌≡◌, rules, string_bytes, nat_cmp, sym, ap, ◌∙◌}
use Rattle.std.specs.Cmp.Lexicographic.{slice_cmp}
use Rattle.std.specs.FinMap.{entries}
use Rattle.std.specs.FinMap as fin
use Rattle.dk_pqmodel.specs.NodeView.{field_of}
use Rattle.dk_pqmodel.proofs.NodeViews.{field_of-is}
use Rattle.dk_pqmodel.specs.Shape.{field_name}
use Rattle.dk_model.specs.Fields.{text_or_null}
use Rattle.dk_rowmap.specs.Parts.{data_in, after_group_field}
use Rattle.dk_rowmap.proofs.RowSteps.{inserted}
use Rattle.dk_rowmap.proofs.part.with_field.Goals as goal

pub returns-in_ok-insert-in-Some : goal.returns-in_ok-insert-in-Some
returns-in_ok-insert-in-Some c =
    let name = field_name (field_of c.args.node.now) in
    let es = entries c.args.slots in
    let written : c.in_ok-key-in-Some.key ≡ string_bytes c.args.node.now.name = search rules in
    let key : c.in_ok-key-in-Some.key ≡ name = written ∙ sym (ap field_name (field_of-is c.args.node.now)) in
    let slot : c.in_ok-slot-in-Some.slot ≡ text_or_null (data_in c.in-Some.part) = search rules in
    let put : entries c.insert.new.self ≡ fin.put (slice_cmp nat_cmp) c.in_ok-key-in-Some.key c.in_ok-slot-in-Some.slot es = inserted _ _ _ _ (search rules) in
    put
    ∙ ap (λ k. fin.put (slice_cmp nat_cmp) k c.in_ok-slot-in-Some.slot es) key
    ∙ ap (λ x. fin.put (slice_cmp nat_cmp) name x es) slot
    ∙ ap (λ o. after_group_field name o es) c.in-Some.ensures
