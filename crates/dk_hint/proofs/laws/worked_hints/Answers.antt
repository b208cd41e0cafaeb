use Rattle.std.proofs.Common.{refl}
use Rattle.std.specs.Str.{chars}
use Rattle.std.specs.Fmt.{digits}
use Rattle.percent_encoding.specs.Percent.{percent_encode, percent_encode_byte}
use Rattle.percent_encoding.specs.AsciiSet.{should_percent_encode}
use Rattle.dk_hint.proofs.laws.worked_hints.Goals as goal

pub returns-clause-canonical : goal.returns-clause-canonical
unfolding chars digits percent_encode percent_encode_byte should_percent_encode
returns-clause-canonical c = refl
