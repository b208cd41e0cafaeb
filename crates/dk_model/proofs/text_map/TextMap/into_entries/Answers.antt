use Rattle.std.proofs.Common.{sym, ap, ◌∙◌}
use Rattle.std.specs.FinMap as map
use Rattle.dk_model.specs.Texts.{texts}
use Rattle.dk_model.proofs.TextMaps.{entries_in_order}
use Rattle.dk_model.proofs.text_map.TextMap.into_entries.Goals as goal

pub returns : goal.returns
returns g c = ap texts c.into_iter.ensures.into_iter_gives.0 ∙ sym (entries_in_order c.self.inside.tree.entries c.into_iter.ensures.into_iter_gives.5) ∙ ap map.entries c.self.view_is
