use Rattle.std.proofs.Common.{◌≡◌, true, false, rules, FitsSigned, Some, pos, ap, sym, ◌∙◌, w16, w64, map}
use Rattle.std.proofs.lemmas.Int.{to_z-of_z}
use Rattle.dk_grammar.specs.Structs.{number_meaning}
use Rattle.dk_grammar.specs.Lists.{held, other, is_held, list_of}
use Rattle.dk_pqmodel.specs.Footer.{GroupFields}
use Rattle.dk_pqmeta.specs.Readings.{column_chunk_at}
use Rattle.dk_pqmeta.specs.Kept.{group_kept, group_number, chunk_kept, new_at}
use Rattle.dk_pqmeta.proofs.Growing.{group_grows}
use Rattle.dk_pqmeta.proofs.Helds.{held_counts, new_is, other_counts}
use Rattle.dk_pqmeta.proofs.group.GroupRecord.read_field.Goals as goal

pub returns-in_ok-read_structs : goal.returns-in_ok-read_structs
returns-in_ok-read_structs c = λ done seen.
    let id = c.args.id in
    let value = map chunk_kept c.in_ok-read_structs.field-0.items in
    let test : is_held (pos 1) 9 id c.args.kind ≡ true = sym (rw (to_z-of_z w16 id c.ranges.id) at c.is_held.ensures) ∙ c.if-is_held.true in
    let now = group_kept c.args.self.now in (
      Some (held value),
      (
        held_counts (pos 1) 9 (list_of 12 column_chunk_at) number_meaning id c.args.kind c.args.reader.now.rest value c.read_structs.new.reader.rest test c.in_ok-read_structs.ensures.0,
        sym
            (group_grows id (Some (held value)) done ∙ ap (λ (k : GroupFields). record k { columns = new_at (pos 1) id value k.columns }) (sym seen)
            ∙ ap (λ x. record now { columns = x }) (new_is (pos 1) 9 id c.args.kind value now.columns test)),
        c.in_ok-read_structs.ensures.1,
      ),
    )

pub returns-in-Some : goal.returns-in-Some
returns-in-Some c = λ done seen.
    let id = c.args.id in
    let z = c.in-Some.number in
    let fits : FitsSigned w64 z = search rules in
    let test : is_held (pos 1) 9 id c.args.kind ≡ false = sym (rw (to_z-of_z w16 id c.ranges.id) at c.is_held.ensures) ∙ c.if-is_held.false in
    let read = rw c.in-Some.is at c.in_ok-number.ensures.0 in
    let put = rw (to_z-of_z w16 id c.ranges.id, to_z-of_z w64 z fits) at c.put.ensures in (
      Some (other z),
      (
        other_counts (pos 1) 9 (list_of 12 column_chunk_at) number_meaning id c.args.kind c.args.reader.now.rest (Some z) c.read_number.new.reader.rest test read,
        put ∙ ap (λ k. group_number id z k) seen ∙ sym (group_grows id (Some (other z)) done),
        c.in_ok-number.ensures.1,
      ),
    )
