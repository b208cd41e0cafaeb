use Rattle.std.proofs.Common.{sym, ap, subst, ◌∙◌}
use Rattle.dk_pqmodel.specs.NodeView.{field_of}
use Rattle.dk_pqmodel.specs.RowView.{cells_of}
use Rattle.dk_actjson.specs.Faults.{Gives}
use Rattle.dk_actjson.specs.Slots.{all_slots}
use Rattle.dk_rowmap.proofs.RowSteps.{map_pairs}
use Rattle.dk_rowmap.proofs.part.read_map.Goals as goal

pub returns : goal.returns
returns c = subst (Gives c.pairs_of_slots.result) (ap all_slots c.in_ok-slots.ensures ∙ sym (map_pairs (cells_of c.args.cells.now) (field_of c.args.value.now))) c.pairs_of_slots.ensures
