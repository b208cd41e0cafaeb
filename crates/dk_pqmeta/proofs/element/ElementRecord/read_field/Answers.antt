use Rattle.std.proofs.Common.{◌≡◌, true, false, rules, FitsSigned, Some, pos, ap, sym, ◌∙◌, w16, w64, string_bytes}
use Rattle.std.proofs.lemmas.Int.{to_z-of_z}
use Rattle.dk_grammar.specs.Structs.{number_meaning}
use Rattle.dk_grammar.specs.Lists.{held, other, is_held}
use Rattle.dk_pqmodel.specs.Footer.{ElementFields}
use Rattle.dk_pqmeta.specs.Readings.{text_at}
use Rattle.dk_pqmeta.specs.Kept.{element_kept, element_number, new_at}
use Rattle.dk_pqmeta.proofs.Growing.{element_grows}
use Rattle.dk_pqmeta.proofs.Helds.{held_counts, new_is, other_counts}
use Rattle.dk_pqmeta.proofs.element.ElementRecord.read_field.Goals as goal

pub returns-in_ok-read_name : goal.returns-in_ok-read_name
returns-in_ok-read_name c = λ done seen.
    let id = c.args.id in
    let value = string_bytes c.in_ok-read_name.field-0 in
    let test : is_held (pos 4) 8 id c.args.kind ≡ true = sym (rw (to_z-of_z w16 id c.ranges.id) at c.is_held.ensures) ∙ c.if-is_held.true in
    let now = element_kept c.args.self.now in (
      Some (held value),
      (
        held_counts (pos 4) 8 text_at number_meaning id c.args.kind c.args.reader.now.rest value c.read_name.new.reader.rest test c.in_ok-read_name.ensures.0,
        sym
            (element_grows id (Some (held value)) done ∙ ap (λ (k : ElementFields). record k { name = new_at (pos 4) id value k.name }) (sym seen)
            ∙ ap (λ x. record now { name = x }) (new_is (pos 4) 8 id c.args.kind value now.name test)),
        c.in_ok-read_name.ensures.1,
      ),
    )

pub returns-in-Some : goal.returns-in-Some
returns-in-Some c = λ done seen.
    let id = c.args.id in
    let z = c.in-Some.number in
    let fits : FitsSigned w64 z = search rules in
    let test : is_held (pos 4) 8 id c.args.kind ≡ false = sym (rw (to_z-of_z w16 id c.ranges.id) at c.is_held.ensures) ∙ c.if-is_held.false in
    let read = rw c.in-Some.is at c.in_ok-number.ensures.0 in
    let put = rw (to_z-of_z w16 id c.ranges.id, to_z-of_z w64 z fits) at c.put.ensures in (
      Some (other z),
      (
        other_counts (pos 4) 8 text_at number_meaning id c.args.kind c.args.reader.now.rest (Some z) c.read_number.new.reader.rest test read,
        put ∙ ap (λ k. element_number id z k) seen ∙ sym (element_grows id (Some (other z)) done),
        c.in_ok-number.ensures.1,
      ),
    )
