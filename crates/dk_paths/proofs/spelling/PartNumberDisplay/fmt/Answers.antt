-- The zeros in front and the number are its digits.
use Rattle.std.proofs.Common.{ap, ◌∙◌, arith}
use Rattle.std.specs.Fmt.{styled_decimal}
use Rattle.dk_paths.proofs.Padded.{shown_part}
use Rattle.dk_paths.proofs.spelling.PartNumberDisplay.fmt.Goals as goal

pub returns-clause-writes : goal.returns-clause-writes
returns-clause-writes g c =
    let shown = ap (λ spec. styled_decimal spec c.args.self.now.0) c.laid_out.ensures ∙ shown_part c.args.self.now.0 (omega arith) in
    rw shown at c.write.ensures.writes
