-- Values that are written in the encoding PLAIN.
use Rattle.std.specs.Prelude.{◌≡◌, ◌<◌, ◌+◌, ◌^◌, ℕ, Bool, Option, Some, None, option_and_then, List, sum_by, filter_map, IfSome, IsTrue}
use Rattle.dk_grammar.specs.Plain.{Plain, plain_values}
use Rattle.dk_pqmodel.specs.Shape.{Leaf}
use Rattle.dk_pqmodel.specs.Datum as cell
use Rattle.dk_pqmodel.specs.Datum.{Value, Triple, Column}
use Rattle.dk_pqmodel.specs.Fits.{fits_leaf}
use Rattle.dk_pqmodel.specs.FilePages.{ArePlainOf}
use Rattle.dk_pqmodel.specs.Weight.{text_length}

-- the value, if there is one, can be written at the leaf
abbrev pub FitsEntry : Leaf → Triple → Type 0
FitsEntry kind e = IfSome e.value (λ v. IsTrue (fits_leaf v kind) × (text_length v < 2 ^ 32))

-- the bytes are these numbers or texts, one behind another
abbrev pub ArePlain : Leaf → List Value → List ℕ → Type 0
ArePlain kind values bytes = (plains : List Plain) × (bytes ≡ plain_values plains) × ArePlainOf kind plains values

-- no value has more bytes than eight and its text's
abbrev pub plain_size : List Value → ℕ
plain_size values = sum_by (λ v. 8 + text_length v) values

-- 16 for each entry, and the length of its text
abbrev pub entry_weight : Option Value → ℕ
entry_weight None = 16
entry_weight (Some v) = 16 + text_length v

abbrev pub column_weight : Column → ℕ
column_weight triples = sum_by (λ e. entry_weight e.value) triples

-- the flag, if it is one
abbrev pub flag_value : Value → Option Bool
flag_value (cell.flag b) = Some b
flag_value (cell.int n) = None
flag_value (cell.chars t) = None

abbrev pub flags_in : Column → List Bool
flags_in triples = filter_map (λ e. option_and_then flag_value e.value) triples
