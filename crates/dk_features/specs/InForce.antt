-- The features that are in force in a table (Delta Lake's PROTOCOL.md, "Table Features", "Supported Features").
use Rattle.std.specs.Prelude.{ℕ, List, [], ◌∷◌, Bool, false, find, ◌&&◌, ◌||◌, ◌==◌, Option, Some, None, nat_le, nat_lt, if◌then◌else◌}
use Rattle.std.specs.Str.{bytes_eq}
use Rattle.dk_model.specs.declared.action.Protocol.{Protocol}
use Rattle.dk_model.specs.NameSets.{is_one_of}
use Rattle.dk_features.specs.Names.{append_only, invariants, check_constraints, change_data_feed, generated_columns, column_mapping, identity_columns}

-- the features that a version of the protocol below 7 stands for, in order: each with the least version of a writer that has it
abbrev pub implied : List (List ℕ × ℕ)
implied = (append_only, 2) ∷ (invariants, 2) ∷ (check_constraints, 3) ∷ (change_data_feed, 4) ∷ (generated_columns, 4) ∷ (column_mapping, 5) ∷ (identity_columns, 6) ∷ []

-- an absent list is empty
abbrev pub listed_features : Option (List (List ℕ)) → List (List ℕ)
listed_features None = []
listed_features (Some names) = names

-- a reader version of 2 stands for column mapping
abbrev pub is_mapped : Protocol → List ℕ → Bool
is_mapped p name = (p.min_reader == 2) && bytes_eq name column_mapping

-- the versions stand for this feature
abbrev pub is_implied : Protocol → List ℕ × ℕ → Bool
is_implied p feature = nat_le feature.1 p.min_writer || is_mapped p feature.0

-- of the feature of this name, where there is one
abbrev pub is_implied_found : Protocol → Option (List ℕ × ℕ) → Bool
is_implied_found p None = false
is_implied_found p (Some feature) = is_implied p feature

abbrev pub is_implied_name : Protocol → List ℕ → Bool
is_implied_name p name = is_implied_found p (find (λ feature. bytes_eq name feature.0) implied)

-- the feature is in force: listed for writers from version 7 on, or one that the versions stand for
abbrev pub is_in_force : Protocol → List ℕ → Bool
is_in_force p name = if nat_lt p.min_writer 7 then is_implied_name p name else (is_one_of (listed_features p.writer_features) name || is_mapped p name)

-- of a table by its protocol, where it has one
unfoldable pub has_feature : Option Protocol → List ℕ → Bool
has_feature None name = false
has_feature (Some p) name = is_in_force p name
