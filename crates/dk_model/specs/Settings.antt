-- The settings of a table, by their keys (Delta Lake's PROTOCOL.md, "Change Metadata").
use Rattle.std.specs.Prelude.{ℕ, List, [], ◌∷◌, Option, None, if◌then◌else◌}
use Rattle.std.specs.Str.{bytes_eq}
use Rattle.dk_model.specs.declared.action.Metadata.{Metadata}

abbrev pub setting_in : List ℕ → List (List ℕ × Option (List ℕ)) → Option (List ℕ)
setting_in key [] = None
setting_in key (pair ∷ pairs) = if bytes_eq pair.0 key then pair.1 else setting_in key pairs

-- the text of a setting; one that is null isn't set
abbrev pub setting : List ℕ → Metadata → Option (List ℕ)
setting key metadata = setting_in key metadata.configuration
