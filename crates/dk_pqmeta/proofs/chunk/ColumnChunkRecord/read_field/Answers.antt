use Rattle.std.proofs.Common.{◌≡◌, true, false, option_map, Some, pos, ap, sym, ◌∙◌, w16}
use Rattle.std.proofs.lemmas.Int.{to_z-of_z}
use Rattle.dk_grammar.specs.Structs.{number_meaning}
use Rattle.dk_grammar.specs.Lists.{held, other, is_held}
use Rattle.dk_pqmodel.specs.Footer.{ChunkFields}
use Rattle.dk_pqmeta.specs.Readings.{meta_at}
use Rattle.dk_pqmeta.specs.Kept.{chunk_kept, meta_kept, new_at}
use Rattle.dk_pqmeta.proofs.Growing.{chunk_grows, chunk_stays}
use Rattle.dk_pqmeta.proofs.Helds.{held_counts, new_is, other_counts}
use Rattle.dk_pqmeta.proofs.chunk.ColumnChunkRecord.read_field.Goals as goal

pub returns-in_ok-read_struct : goal.returns-in_ok-read_struct
returns-in_ok-read_struct c = λ done seen.
    let id = c.args.id in
    let value = meta_kept c.in_ok-read_struct.field-0 in
    let test : is_held (pos 3) 12 id c.args.kind ≡ true = sym (rw (to_z-of_z w16 id c.ranges.id) at c.is_held.ensures) ∙ c.if-is_held.true in
    let now = chunk_kept c.args.self.now in (
      Some (held value),
      (
        held_counts (pos 3) 12 meta_at number_meaning id c.args.kind c.args.reader.now.rest value c.read_struct.new.reader.rest test c.in_ok-read_struct.ensures.0,
        sym
            (chunk_grows id (Some (held value)) done ∙ ap (λ (k : ChunkFields). record k { metadata = new_at (pos 3) id value k.metadata }) (sym seen)
            ∙ ap (λ x. record now { metadata = x }) (new_is (pos 3) 12 id c.args.kind value now.metadata test)),
        c.in_ok-read_struct.ensures.1,
      ),
    )

pub returns-in_ok-read_number : goal.returns-in_ok-read_number
returns-in_ok-read_number c = λ done seen.
    let id = c.args.id in
    let number = c.in_ok-read_number.field-0 in
    let test : is_held (pos 3) 12 id c.args.kind ≡ false = sym (rw (to_z-of_z w16 id c.ranges.id) at c.is_held.ensures) ∙ c.if-is_held.false in (
      option_map other number,
      (
        other_counts (pos 3) 12 meta_at number_meaning id c.args.kind c.args.reader.now.rest number c.read_number.new.reader.rest test c.in_ok-read_number.ensures.0,
        seen ∙ sym (chunk_stays id number done),
        c.in_ok-read_number.ensures.1,
      ),
    )
