use Rattle.std.proofs.Common.{◌≡◌, true, false, rules, FitsSigned, Some, pos, ap, sym, ◌∙◌, w16, w64, map}
use Rattle.std.proofs.lemmas.Int.{to_z-of_z}
use Rattle.dk_grammar.specs.Structs.{number_meaning}
use Rattle.dk_grammar.specs.Lists.{held, other, is_held, held_or, list_of}
use Rattle.dk_pqmodel.specs.Footer.{FileFields}
use Rattle.dk_pqmeta.specs.Readings.{schema_element_at, group_at}
use Rattle.dk_pqmeta.specs.Kept.{element_kept, group_kept, file_kept, file_number, new_at}
use Rattle.dk_pqmeta.proofs.Growing.{file_grows}
use Rattle.dk_pqmeta.proofs.Helds.{held_counts, new_is, other_counts}
use Rattle.dk_pqmeta.proofs.file.FileMetaDataRecord.read_field.Goals as goal

pub returns-in_ok-read_structs : goal.returns-in_ok-read_structs
returns-in_ok-read_structs c = λ done seen.
    let id = c.args.id in
    let value = map element_kept c.in_ok-read_structs.field-0.items in
    let test : is_held (pos 2) 9 id c.args.kind ≡ true = sym (rw (to_z-of_z w16 id c.ranges.id) at c.is_held.ensures) ∙ c.if-is_held.true in
    let now = file_kept c.args.self.now in (
      Some (held value),
      (
        held_counts (pos 2) 9 (list_of 12 schema_element_at) (held_or (pos 4) 9 (list_of 12 group_at) number_meaning) id c.args.kind c.args.reader.now.rest value c.read_structs.new.reader.rest test
            c.in_ok-read_structs.ensures.0,
        sym
            (file_grows id (Some (held value)) done ∙ ap (λ (k : FileFields). record k { schema = new_at (pos 2) id value k.schema }) (sym seen)
            ∙ ap (λ x. record now { schema = x }) (new_is (pos 2) 9 id c.args.kind value now.schema test)),
        c.in_ok-read_structs.ensures.1,
      ),
    )

pub returns-in_ok-read_structs-2 : goal.returns-in_ok-read_structs-2
returns-in_ok-read_structs-2 c = λ done seen.
    let id = c.args.id in
    let value = map group_kept c.in_ok-read_structs-2.field-0.items in
    let first : is_held (pos 2) 9 id c.args.kind ≡ false = sym (rw (to_z-of_z w16 id c.ranges.id) at c.is_held.ensures) ∙ c.if-is_held.false in
    let second : is_held (pos 4) 9 id c.args.kind ≡ true = sym (rw (to_z-of_z w16 id c.ranges.id) at c.is_held-else-is_held.ensures) ∙ c.if-is_held-2.true in
    let now = file_kept c.args.self.now in (
      Some (other (held value)),
      (
        other_counts (pos 2) 9 (list_of 12 schema_element_at) (held_or (pos 4) 9 (list_of 12 group_at) number_meaning) id c.args.kind c.args.reader.now.rest (Some (held value)) c.read_structs-then-is_held-2.new.reader.rest first
            (held_counts (pos 4) 9 (list_of 12 group_at) number_meaning id c.args.kind c.args.reader.now.rest value c.read_structs-then-is_held-2.new.reader.rest second c.in_ok-read_structs-2.ensures.0),
        sym
            (file_grows id (Some (other (held value))) done ∙ ap (λ (k : FileFields). record k { groups = new_at (pos 4) id value k.groups }) (sym seen)
            ∙ ap (λ x. record now { groups = x }) (new_is (pos 4) 9 id c.args.kind value now.groups second)),
        c.in_ok-read_structs-2.ensures.1,
      ),
    )

pub returns-in-Some : goal.returns-in-Some
returns-in-Some c = λ done seen.
    let id = c.args.id in
    let z = c.in-Some.number in
    let fits : FitsSigned w64 z = search rules in
    let first : is_held (pos 2) 9 id c.args.kind ≡ false = sym (rw (to_z-of_z w16 id c.ranges.id) at c.is_held.ensures) ∙ c.if-is_held.false in
    let second : is_held (pos 4) 9 id c.args.kind ≡ false = sym (rw (to_z-of_z w16 id c.ranges.id) at c.is_held-else-is_held.ensures) ∙ c.if-is_held-2.false in
    let read = rw c.in-Some.is at c.in_ok-number.ensures.0 in
    let put = rw (to_z-of_z w16 id c.ranges.id, to_z-of_z w64 z fits) at c.put.ensures in (
      Some (other (other z)),
      (
        other_counts (pos 2) 9 (list_of 12 schema_element_at) (held_or (pos 4) 9 (list_of 12 group_at) number_meaning) id c.args.kind c.args.reader.now.rest (Some (other z)) c.read_number.new.reader.rest first
            (other_counts (pos 4) 9 (list_of 12 group_at) number_meaning id c.args.kind c.args.reader.now.rest (Some z) c.read_number.new.reader.rest second read),
        put ∙ ap (λ k. file_number id z k) seen ∙ sym (file_grows id (Some (other (other z))) done),
        c.in_ok-number.ensures.1,
      ),
    )
