use Rattle.std.proofs.Common.{rules, ◌≡◌, ◌+◌, [], ◌∷◌, ◌++◌, drop, sym, ap, ◌∙◌}
use Rattle.std.proofs.lemmas.List.{drop_more}
use Rattle.dk_pqmodel.specs.NodeView.{shape_of}
use Rattle.dk_pqmodel.specs.Object.{items_of}
use Rattle.dk_pqmodel.specs.RowView.{datum_of, cells_of}
use Rattle.dk_pqmodel.specs.Shape.{element_at}
use Rattle.dk_model.specs.Fields.{texts_of}
use Rattle.dk_rowmap.proofs.RowSteps.{before, names_turn}
use Rattle.dk_rowmap.proofs.part.read_names.Goals as goal

pub cells-preserved : goal.cells-preserved
cells-preserved c =
    let all = c.args.cells.now in
    let i = c.cells.cell-index in
    let cell = c.cell-item.result in
    let f = element_at (shape_of c.args.kind.now) in
    let list = c.cells.list.items in
    let more : drop i all ≡ cell ∷ drop (i + 1) all = drop_more all i cell c.cells-test.true ∙ ap (λ x. x ∷ drop (i + 1) all) (sym c.cell-item.is) in
    let now : c.push.new.self.items ≡ list ++ c.in_ok-text.text ∷ [] = search rules in
    c.cells.invariant
    ∙ ap (λ cs. before list (texts_of (items_of (cells_of cs) f))) more
    ∙ names_turn list (datum_of cell) (cells_of (drop (i + 1) all)) f c.in_ok-text.text c.in_ok-text.ensures
    ∙ ap (λ l. before l (texts_of (items_of (cells_of (drop (i + 1) all)) f))) (sym now)
