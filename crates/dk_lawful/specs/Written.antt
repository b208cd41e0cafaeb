-- The tables that are written, by the features that their protocols ask for (Delta Lake's PROTOCOL.md, "Valid Feature Names in Table
-- Features", "Writer Requirements"). What is built so far refuses some of them by their names (`SoFar`).
use Rattle.std.specs.Prelude.{ℕ, List, [], ◌∷◌, codes, Bool, false, true, not, ◌&&◌, ◌||◌, ◌==◌, Option, Some, None, nat_le, if◌then◌else◌}
use Rattle.std.specs.List.{list_all}
use Rattle.std.specs.Str.{bytes_eq}
use Rattle.dk_model.specs.declared.action.Protocol.{Protocol}
use Rattle.dk_model.specs.declared.action.Metadata.{Metadata}
use Rattle.dk_model.specs.NameSets.{is_one_of}
use Rattle.dk_features.specs.Names.{both, reading_alone, invariants, catalog_managed}
use Rattle.dk_features.specs.InForce.{implied, is_implied, listed_features}
use Rattle.dk_features.specs.Invariants.{uses_invariants}

abbrev pub in_commit_timestamp : List ℕ
in_commit_timestamp = codes "inCommitTimestamp"

-- the features of commits that say their time, and of tables that a catalogue manages
abbrev pub of_commits : List (List ℕ)
of_commits = in_commit_timestamp ∷ catalog_managed ∷ []

-- a table with this feature is read; it is written, but for one with invariants whose schema has some
abbrev pub is_read_with : List ℕ → Bool
is_read_with name = is_one_of of_commits name || (is_one_of both name || is_one_of reading_alone name)

abbrev pub is_written_with : Bool → List ℕ → Bool
is_written_with uses name = is_one_of of_commits name || (is_one_of both name || (bytes_eq name invariants && not uses))

-- so is one by the versions of its protocol, and by the lists that these ask for
abbrev pub is_read_by : Protocol → Bool
is_read_by p = if (p.min_reader == 1) || (p.min_reader == 2) then true else (p.min_reader == 3 && list_all is_read_with (listed_features p.reader_features))

abbrev pub stays_written : Bool → Protocol → List ℕ × ℕ → Bool
stays_written uses p feature = not (is_implied p feature) || is_written_with uses feature.0

abbrev pub is_written_by : Bool → Protocol → Bool
is_written_by uses p =
    if p.min_writer == 1 then true
    else if nat_le 2 p.min_writer && nat_le p.min_writer 6 then list_all (stays_written uses p) implied
    else (p.min_writer == 7 && list_all (is_written_with uses) (listed_features p.writer_features))

abbrev pub is_written_of : Protocol → Metadata → Bool
is_written_of p m = is_read_by p && is_written_by (uses_invariants m.schema_string) p

-- a table that has begun, and is read and written
unfoldable pub is_table_written : Option Protocol → Option Metadata → Bool
is_table_written None metadata = false
is_table_written (Some p) None = false
is_table_written (Some p) (Some m) = is_written_of p m
