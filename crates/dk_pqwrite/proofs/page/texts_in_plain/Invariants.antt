use Rattle.std.proofs.Common.{[], map, take}
use Rattle.dk_pqmodel.specs.Datum.{chars}
use Rattle.dk_pqmodel.specs.Shape.{chars as shape_chars}
use Rattle.dk_pqwrite.specs.Adding.{AddsBytes}
use Rattle.dk_pqwrite.specs.PlainValues.{ArePlain, plain_size}
use Rattle.dk_pqwrite.proofs.page.texts_in_plain.Given as goal

abbrev pub invariant-loop-text : goal.invariant-loop-text
invariant-loop-text l =
    AddsBytes (ArePlain shape_chars (map chars (map (λ k. k.now) (take l.text-index l.texts)))) (plain_size (map chars (map (λ k. k.now) (take l.text-index l.texts)))) [] l.out.items
