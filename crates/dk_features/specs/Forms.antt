-- The forms of a protocol that is written, and which protocol may follow another (Delta Lake's PROTOCOL.md, "Protocol Evolution",
-- "Table Features", "Writer Version Requirements").
use Rattle.std.specs.Prelude.{ℕ, List, [], ◌∷◌, ◌++◌, Bool, true, false, not, ◌&&◌, ◌||◌, ◌==◌, Option, Some, None, map, nat_le}
use Rattle.std.specs.List.{list_any, list_all}
use Rattle.std.specs.Str.{bytes_eq}
use Rattle.dk_model.specs.declared.action.Protocol.{Protocol}
use Rattle.dk_model.specs.NameSets.{is_one_of}
use Rattle.dk_features.specs.Names.{reader_and_writer}
use Rattle.dk_features.specs.InForce.{implied, is_in_force, listed_features}

-- ---- lists of names

-- no name stands twice
abbrev pub is_each_once : List (List ℕ) → Bool
is_each_once [] = true
is_each_once (name ∷ names) = not (list_any (bytes_eq name) names) && is_each_once names

abbrev pub asks_writers_alone : List ℕ → Bool
asks_writers_alone name = not (is_one_of reader_and_writer name)

-- each name of the list for readers stands in the one for writers, and so does in the one for readers each feature of that for writers
-- that readers must know too
abbrev pub are_matched : List (List ℕ) → List (List ℕ) → Bool
are_matched readers writers = list_all (is_one_of writers) readers && list_all (λ name. asks_writers_alone name || is_one_of readers name) writers

-- ---- the three forms

abbrev pub is_first_reader : ℕ → Bool
is_first_reader version = version == 1 || version == 2

-- versions alone; a list for writers alone; lists for both
abbrev pub has_form_with : ℕ → ℕ → Option (List (List ℕ)) → Option (List (List ℕ)) → Bool
has_form_with reader writer None None = is_first_reader reader && (nat_le 1 writer && nat_le writer 6)
has_form_with reader writer None (Some writers) = (is_first_reader reader && writer == 7) && (is_each_once writers && list_all asks_writers_alone writers)
has_form_with reader writer (Some readers) None = false
has_form_with reader writer (Some readers) (Some writers) =
    (reader == 3 && writer == 7) && ((is_each_once readers && is_each_once writers) && are_matched readers writers)

unfoldable pub has_form : Protocol → Bool
has_form p = has_form_with p.min_reader p.min_writer p.reader_features p.writer_features

-- ---- what stays in force

-- the names of all features that can be in force
abbrev pub nameable : Protocol → List (List ℕ)
nameable p = map (λ feature. feature.0) implied ++ listed_features p.writer_features

-- a feature in force before is in force after
abbrev pub stays_in_force : Protocol → Protocol → List ℕ → Bool
stays_in_force before after name = not (is_in_force before name) || is_in_force after name

-- each that is in force before is in force after
unfoldable pub keeps_features : Protocol → Protocol → Bool
keeps_features before after = list_all (stays_in_force before after) (nameable before)
