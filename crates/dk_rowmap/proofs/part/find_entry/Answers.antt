use Rattle.std.proofs.Common.{◌≡◌, [], option_map, drop, arith, sym, ap, ◌∙◌}
use Rattle.std.proofs.lemmas.List.{drop_all}
use Rattle.dk_pqmodel.specs.NodeView.{field_of}
use Rattle.dk_pqmodel.specs.RowView.{cells_of}
use Rattle.dk_rowmap.specs.Parts.{data_in}
use Rattle.dk_rowmap.proofs.RowSteps.{entries_value, map_field}
use Rattle.dk_rowmap.proofs.part.find_entry.Goals as goal

pub returns : goal.returns
returns c =
    let q = c.args.key.now in
    let f = field_of c.args.value.now in
    let all = c.args.cells.now in
    let none : drop c.cells.place all ≡ [] = drop_all c.cells.place all (omega (arith, c.cells-test.false)) in
    ap (λ cs. entries_value q f (cells_of cs) (option_map data_in c.cells.found)) (sym none) ∙ c.cells.invariant ∙ sym (map_field q f (cells_of all))
