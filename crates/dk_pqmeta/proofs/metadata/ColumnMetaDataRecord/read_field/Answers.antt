use Rattle.std.proofs.Common.{◌≡◌, true, false, rules, FitsSigned, Some, pos, ap, sym, ◌∙◌, w16, w64, string_bytes, map}
use Rattle.std.proofs.lemmas.Int.{to_z-of_z}
use Rattle.dk_grammar.specs.Structs.{number_meaning}
use Rattle.dk_grammar.specs.Lists.{held, other, is_held}
use Rattle.dk_pqmodel.specs.Footer.{MetaFields}
use Rattle.dk_pqmeta.specs.Readings.{path_at}
use Rattle.dk_pqmeta.specs.Kept.{meta_kept, meta_number, new_at}
use Rattle.dk_pqmeta.proofs.Growing.{meta_grows}
use Rattle.dk_pqmeta.proofs.Helds.{held_counts, new_is, other_counts}
use Rattle.dk_pqmeta.proofs.metadata.ColumnMetaDataRecord.read_field.Goals as goal

pub returns-in_ok-read_path : goal.returns-in_ok-read_path
returns-in_ok-read_path c = λ done seen.
    let id = c.args.id in
    let value = map string_bytes c.in_ok-read_path.field-0.items in
    let test : is_held (pos 3) 9 id c.args.kind ≡ true = sym (rw (to_z-of_z w16 id c.ranges.id) at c.is_held.ensures) ∙ c.if-is_held.true in
    let now = meta_kept c.args.self.now in (
      Some (held value),
      (
        held_counts (pos 3) 9 path_at number_meaning id c.args.kind c.args.reader.now.rest value c.read_path.new.reader.rest test c.in_ok-read_path.ensures.0,
        sym
            (meta_grows id (Some (held value)) done ∙ ap (λ (k : MetaFields). record k { path = new_at (pos 3) id value k.path }) (sym seen)
            ∙ ap (λ x. record now { path = x }) (new_is (pos 3) 9 id c.args.kind value now.path test)),
        c.in_ok-read_path.ensures.1,
      ),
    )

pub returns-in-Some : goal.returns-in-Some
returns-in-Some c = λ done seen.
    let id = c.args.id in
    let z = c.in-Some.number in
    let fits : FitsSigned w64 z = search rules in
    let test : is_held (pos 3) 9 id c.args.kind ≡ false = sym (rw (to_z-of_z w16 id c.ranges.id) at c.is_held.ensures) ∙ c.if-is_held.false in
    let read = rw c.in-Some.is at c.in_ok-number.ensures.0 in
    let put = rw (to_z-of_z w16 id c.ranges.id, to_z-of_z w64 z fits) at c.put.ensures in (
      Some (other z),
      (
        other_counts (pos 3) 9 path_at number_meaning id c.args.kind c.args.reader.now.rest (Some z) c.read_number.new.reader.rest test read,
        put ∙ ap (λ k. meta_number id z k) seen ∙ sym (meta_grows id (Some (other z)) done),
        c.in_ok-number.ensures.1,
      ),
    )
