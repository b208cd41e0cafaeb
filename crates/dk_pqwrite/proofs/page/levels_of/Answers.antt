use Rattle.std.proofs.Common.{map, sym, arith}
use Rattle.dk_levels.specs.Borrowed.{borrowed_triple}
use Rattle.dk_pqwrite.specs.AddedLevels.{AddsLevels}
use Rattle.dk_pqwrite.proofs.AddingLevels.{both_levels, no_levels}
use Rattle.dk_pqwrite.proofs.BuildingPages.{definitions_within, repetitions_within}
use Rattle.dk_pqwrite.proofs.page.levels_of.Goals as goal
use Rattle.dk_pqwrite.proofs.page.levels_of.Goals.{then-column-gt0+in_ok-repetitions+in_ok-add_levels, else-column-gt0}

pub add_levels-requires-clause-within : goal.add_levels-requires-clause-within
add_levels-requires-clause-within c =
    rw (c.deref.ensures.value, c.in_ok-repetitions.ensures) (repetitions_within c.args.column (map borrowed_triple c.args.triples.now) c.requires.full)

pub add_levels-requires-2-clause-within : goal.add_levels-requires-2-clause-within
add_levels-requires-2-clause-within c =
    rw (c.deref-2.ensures.value, c.in_ok-definitions.ensures) (definitions_within c.args.column (map borrowed_triple c.args.triples.now) c.requires.full)

pub returns : goal.returns
returns c =
    let entries = map borrowed_triple c.args.triples.now in
    let first : AddsLevels c.args.column.rep (map (λ e. e.repetition) entries) c.new-body.result.items c.if-column-gt0.body.items =
    elim c.if-column-gt0.branch [
      | then-column-gt0+in_ok-repetitions+in_ok-add_levels w ↦ rw (w.body-is, sym w.in_ok-repetitions.ensures, sym w.deref.ensures.value) w.in_ok-add_levels.ensures
      | else-column-gt0 w ↦ rw w.body-is (no_levels c.args.column.rep (map (λ e. e.repetition) entries) c.new-body.result.items (omega arith) (repetitions_within c.args.column entries c.requires.full))
    ] in
    let later : AddsLevels c.args.column.def (map (λ e. e.definition) entries) c.if-column-gt0.body.items c.add_levels-2.new.body.items =
    rw (sym c.in_ok-definitions.ensures, sym c.deref-2.ensures.value) c.in_ok-add_levels-2.ensures in
    both_levels c.args.column entries c.new-body.result.items c.if-column-gt0.body.items c.add_levels-2.new.body.items c.new-body.ensures.items first later
