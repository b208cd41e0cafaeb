-- The text of `show`: a line for the version, then a line for each canonical action of the state.
use Rattle.std.specs.Prelude.{ℕ, ℤ, List, [], ◌∷◌, ◌++◌, Some, codes}
use Rattle.serde_json.specs.Data.{Data, number, unsigned}
use Rattle.serde_json.specs.Written.{compact_text}
use Rattle.dk_model.specs.declared.state.TableState.{TableState}
use Rattle.dk_model.specs.Contents.{canonical, is_later}
use Rattle.dk_model.specs.Shown.{object_with}
use Rattle.dk_model.specs.Written.{text_of}

-- {"snapshot":{"version":V}}
unfoldable pub snapshot_data : ℕ → Data
snapshot_data version = object_with ((codes "snapshot", Some (object_with ((codes "version", Some (number (unsigned version))) ∷ []))) ∷ [])

abbrev pub snapshot_line : ℕ → List ℕ
snapshot_line version = compact_text (snapshot_data version) ++ 10 ∷ []

-- the text of a version with this state, of whose tombstones those are shown that are later than the cut
abbrev pub shown : ℕ → TableState → ℤ → List ℕ
shown version state cut = snapshot_line version ++ text_of (canonical state (is_later cut))
