use Rattle.std.proofs.Common.{◌∷◌, [], ◌+◌, arith, refl, lit<}
use Rattle.dk_pqwrite.specs.Said.{SpellsGroupSaid}
use Rattle.dk_pqwrite.specs.Chunks.{chunks_size, group_said}
use Rattle.dk_pqwrite.proofs.Structs.{list_held, one_value}
use Rattle.dk_pqwrite.proofs.group.put_groups.Goals as goal

pub returns : goal.returns
returns c =
    let group = group_said c.args.group.now in
    let most = chunks_size c.args.group.now.chunks.items in
    list_held 4 12 1 SpellsGroupSaid (group ∷ []) (30 + most) (36 + most) c.args.writer.now c.field.new.self c.list.new.self c.write_group.new.writer (omega arith) c.in_ok-field.ensures.written c.in_ok-list.ensures.written refl (lit< tt) refl
    (one_value SpellsGroupSaid group (30 + most) c.list.new.self c.write_group.new.writer c.in_ok-write_group.ensures)
