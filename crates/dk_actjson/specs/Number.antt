-- The number that the digits of a JSON text stand for.
use Rattle.serde_json.specs.Data.{Num, unsigned, negative, float}
use Rattle.dk_actjson.specs.declared.number.Number.{Number}
use Rattle.dk_actjson.specs.declared.number.Number.TheVariants as number

abbrev pub num_of : Number → Num
num_of (number.Unsigned n) = unsigned n
num_of (number.Negative z) = negative z
num_of (number.Float x) = float x
