use Rattle.std.proofs.Common.{◌<◌, length, arith, append-nil}
use Rattle.std.proofs.lemmas.List.{get_or_default}
use Rattle.dk_pqwrite.proofs.Uses.{kept_later, kept_more, texts_more}
use Rattle.dk_pqwrite.proofs.dictionary.dictionary_of.Goals.{in-Some+in_ok-place+in_ok-push, in_default}
use Rattle.dk_pqwrite.proofs.dictionary.dictionary_of.Goals as goal

pub loop-triple-preserved : goal.loop-triple-preserved
loop-triple-preserved c =
    let h : c.loop-triple.triple-index < length c.args.triples.now = omega arith in
    let one = texts_more c.args.triples.now c.loop-triple.triple-index _ h (get_or_default c.args.triples.now c.loop-triple.triple-index _ _ h) _ c.text_of.ensures in
    elim c.match-text_of.branch [
      | in-Some+in_ok-place+in_ok-push w ↦ rw (w.texts-is, w.places-is, one, w.in-Some.is, w.in_ok-push.ensures.items)
          (kept_more c.loop-triple.texts.keys w.insert_full.new.self.keys c.loop-triple.places.items _ c.loop-triple.triple-index w.in_ok-place.place w.in-Some.text c.loop-triple.invariant
          w.in_ok-place.ensures.keys w.in_ok-place.ensures.stored)
      | in_default w ↦ rw (w.texts-is, w.places-is, one, w.in_default.is, append-nil) (kept_later _ _ _ c.loop-triple.triple-index c.loop-triple.invariant)
    ]
