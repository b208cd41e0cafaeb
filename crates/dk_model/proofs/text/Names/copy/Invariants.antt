use Rattle.std.proofs.Common.{◌≡◌, take}
use Rattle.dk_model.proofs.text.Names.copy.Given as goal

abbrev pub invariant-texts : goal.invariant-texts
invariant-texts l = l.list.items ≡ take l.text-index l.text-items
