use Rattle.std.proofs.Common.{string_bytes}
use Rattle.dk_pqmodel.specs.FooterBytes.{SpellsName}
use Rattle.dk_pqwrite.specs.FooterSizes.{name_size}
use Rattle.dk_pqwrite.proofs.Structs.{GoesOn}
use Rattle.dk_pqwrite.proofs.chunk.write_names.Given as goal

abbrev pub invariant-loop-name : goal.invariant-loop-name
invariant-loop-name l = GoesOn SpellsName string_bytes (λ name. name_size (string_bytes name)) l.names l.name-index l.fn.writer l.writer
