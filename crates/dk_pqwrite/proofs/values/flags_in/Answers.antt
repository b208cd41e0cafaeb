use Rattle.std.proofs.Common.{◌<◌, length, refl, arith, append-nil}
use Rattle.std.proofs.lemmas.List.{get_or_default}
use Rattle.dk_pqwrite.proofs.AddingPlain.{flags_more}
use Rattle.dk_pqwrite.proofs.values.flags_in.Goals.{in-Some+in_ok-push, in_default}
use Rattle.dk_pqwrite.proofs.values.flags_in.Goals as goal

pub loop-triple-preserved : goal.loop-triple-preserved
loop-triple-preserved c =
    let h : c.loop-triple.triple-index < length c.args.triples.now = omega arith in
    let one = flags_more c.args.triples.now c.loop-triple.triple-index _ h (get_or_default c.args.triples.now c.loop-triple.triple-index _ _ h) c.flag_of.result c.flag_of.ensures in
    elim c.match-flag_of.branch [
      | in-Some+in_ok-push w ↦ rw (w.flags-is, one, w.in-Some.is, w.in_ok-push.ensures.items, c.loop-triple.invariant) refl
      | in_default w ↦ rw (w.flags-is, one, w.in_default.is, c.loop-triple.invariant, append-nil) refl
    ]
