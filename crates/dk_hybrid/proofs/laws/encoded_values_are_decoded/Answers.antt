use Rattle.std.proofs.Common.{◌++◌, length, take, drop, sym, ap, ◌∙◌}
use Rattle.std.proofs.lemmas.List.{take-append-drop, length-take-le}
use Rattle.dk_grammar.proofs.Runs.{first_again}
use Rattle.dk_hybrid.proofs.laws.encoded_values_are_decoded.Goals as goal

pub returns : goal.returns
returns c width values bytes rest found used encoded within decoded =
    let all = bytes ++ rest in
    let same = first_again width (length values) found values (take used all) bytes (drop used all) rest decoded encoded (take-append-drop used all) in
    (same.1, sym (length-take-le used all within) ∙ ap length same.0)
