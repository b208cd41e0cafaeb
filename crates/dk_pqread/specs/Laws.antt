-- Laws of plain values.
use Rattle.std.specs.Prelude.{◌≡◌, ◌<◌, ℕ, Some, List, ◌++◌, length, All}
use Rattle.dk_grammar.specs.Plain.{Plain, plain_values}
use Rattle.dk_pqmodel.specs.Shape.{Leaf}
use Rattle.dk_pqmodel.specs.Datum.{Value}
use Rattle.dk_pqmodel.specs.FilePages.{ArePlainOf}
use Rattle.dk_pqread.specs.Values.{plains_at}

-- Plain values of a kind are read, whatever follows them.
abbrev pub PlainValuesAreRead : Type 0
PlainValuesAreRead =
    (kind : Leaf) (plains : List Plain) (values : List Value) (more : List ℕ) → ArePlainOf kind plains values
    → plains_at kind (length values) (plain_values plains ++ more) ≡ Some (values, more)

-- What is read is so many plain values of the kind, which stand in front of the other bytes.
abbrev pub PlainValuesStand : Type 0
PlainValuesStand =
    (kind : Leaf) (count : ℕ) (bytes more : List ℕ) (values : List Value) → All (λ byte. byte < 256) bytes → plains_at kind count bytes ≡ Some (values, more)
    → (plains : List Plain) × ArePlainOf kind plains values × (bytes ≡ plain_values plains ++ more) × (length values ≡ count)
