use Rattle.std.proofs.Common.{◌≡◌, ◌+◌, ◌∷◌, drop, sym, ap, ◌∙◌}
use Rattle.std.proofs.lemmas.List.{drop_more}
use Rattle.std.specs.FinMap.{entries}
use Rattle.dk_pqmodel.specs.RowView.{cells_of}
use Rattle.dk_actjson.proofs.Slots.{no_slots}
use Rattle.dk_rowmap.specs.Parts.{after_entries}
use Rattle.dk_rowmap.proofs.part.map_slots.Goals as goal

pub cells-init : goal.cells-init
cells-init c = ap (after_entries (cells_of c.args.cells.now)) (ap entries c.new-slots.ensures ∙ no_slots)

pub cells-preserved : goal.cells-preserved
cells-preserved c =
    let all = c.args.cells.now in
    let i = c.cells.cell-index in
    let cell = c.cell-item.result in
    let more : drop i all ≡ cell ∷ drop (i + 1) all = drop_more all i cell c.cells-test.true ∙ ap (λ x. x ∷ drop (i + 1) all) (sym c.cell-item.is) in
    ap (after_entries (cells_of (drop (i + 1) all))) c.in_ok-more.ensures
    ∙ ap (λ cs. after_entries (cells_of cs) (entries c.cells.slots)) (sym more)
    ∙ c.cells.invariant
