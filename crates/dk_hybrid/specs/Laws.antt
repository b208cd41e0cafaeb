-- Laws of runs.
use Rattle.std.specs.Prelude.{◌≡◌, ℕ, ◌≤◌, List, ◌++◌, length, take}
use Rattle.dk_grammar.specs.Runs.{AreFirst}

-- Where bytes are runs of the values, all that can be found at the front of these bytes and more are the values, in just these bytes.
abbrev pub EncodedValuesAreDecoded : Type 0
EncodedValuesAreDecoded =
    (width : ℕ) (values bytes rest found : List ℕ) (used : ℕ) → AreFirst width (length values) values bytes
    → used ≤ length (bytes ++ rest) → AreFirst width (length values) found (take used (bytes ++ rest)) → (found ≡ values) × (used ≡ length bytes)
