use Rattle.std.proofs.Common.{sym, ap, ◌∙◌}
use Rattle.std.specs.FinMap as map
use Rattle.dk_model.proofs.TextMaps.{same_count}
use Rattle.dk_model.proofs.text_map.TextMap.len.Goals as goal

pub returns : goal.returns
returns g c = c.len.ensures.len ∙ sym (same_count c.self.inside.tree.entries c.len.ensures.ordered) ∙ ap map.len c.self.view_is
