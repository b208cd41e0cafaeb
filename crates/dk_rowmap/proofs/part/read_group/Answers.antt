use Rattle.std.proofs.Common.{sym, ap, subst, ◌∙◌}
use Rattle.dk_pqmodel.specs.NodeView.{fields_of}
use Rattle.dk_pqmodel.specs.RowView.{cells_of}
use Rattle.dk_pqmodel.specs.Object.{members_of}
use Rattle.dk_lawful.specs.CheckpointRows.{each_by}
use Rattle.dk_actjson.specs.Faults.{Gives}
use Rattle.dk_actjson.specs.Slots.{all_slots}
use Rattle.dk_rowmap.specs.Parts.{turned}
use Rattle.dk_rowmap.proofs.RowSteps.{object_pairs}
use Rattle.dk_rowmap.proofs.part.read_group.Goals as goal

pub returns : goal.returns
returns c =
    let fs = fields_of c.args.nodes.now in
    let ms = members_of (each_by (turned c.args.depth) fs (cells_of c.args.cells.now)) fs in
    subst (Gives c.pairs_of_slots.result) (ap all_slots c.in_ok-slots.ensures ∙ sym (object_pairs ms)) c.pairs_of_slots.ensures
