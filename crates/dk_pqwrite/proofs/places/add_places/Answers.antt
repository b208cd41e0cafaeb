use Rattle.dk_pqwrite.proofs.BuildingPages.{by_places}
use Rattle.dk_pqwrite.proofs.Uses.{shown}
use Rattle.dk_pqwrite.proofs.places.add_places.Goals as goal

pub returns : goal.returns
returns c texts =
    by_places (shown c.args.dictionary.now.texts.keys) c.args.dictionary.now.places.items texts c.width-width.result c.in_ok-runs.runs.items _ _ _ c.width-width.ensures.narrow
    (rw c.deref.ensures.value at c.in_ok-runs.ensures.runs) (rw c.deref.ensures.value at c.in_ok-runs.ensures.size) c.in_ok-push.ensures.items
    (rw c.deref-2.ensures.value at c.in_ok-extend_from_slice.ensures.items)
