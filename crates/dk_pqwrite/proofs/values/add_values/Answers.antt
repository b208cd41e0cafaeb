use Rattle.std.proofs.Common.{◌<◌, length, arith}
use Rattle.std.proofs.lemmas.List.{get_or_default}
use Rattle.dk_pqwrite.specs.WrittenColumn.{leaf_of_kind}
use Rattle.dk_pqwrite.proofs.AddingPlain.{fits_there, value_more}
use Rattle.dk_pqwrite.proofs.values.add_values.Goals as goal

pub add_value-requires-clause-fits : goal.add_value-requires-clause-fits
add_value-requires-clause-fits c =
    fits_there (leaf_of_kind c.args.kind) c.args.triples.now c.loop-triple.triple-index _ (omega arith) (get_or_default c.args.triples.now c.loop-triple.triple-index _ _ (omega arith)) c.requires.fit

pub loop-triple-preserved : goal.loop-triple-preserved
loop-triple-preserved c =
    let h : c.loop-triple.triple-index < length c.args.triples.now = omega arith in
    value_more (leaf_of_kind c.args.kind) c.args.triples.now c.loop-triple.triple-index _ h (get_or_default c.args.triples.now c.loop-triple.triple-index _ _ h) _ _ _ c.loop-triple.invariant c.in_ok-add_value.ensures
