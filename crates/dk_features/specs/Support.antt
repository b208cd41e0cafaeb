-- What is in the way of reading a table, and of writing one: the first that isn't supported (Delta Lake's PROTOCOL.md, "Reader
-- Requirements", "Writer Requirements").
use Rattle.std.specs.Prelude.{ℕ, ◌≡◌, ◌==◌, List, [], ◌++◌, map, codes, decimal, Bool, not, ◌&&◌, ◌||◌, Option, Some, None, Result, Ok, Err, get_or, nat_le, option_map, if◌then◌else◌}
use Rattle.std.specs.List.{position_from}
use Rattle.std.specs.Option.{option_or}
use Rattle.std.specs.Str.{bytes_eq}
use Rattle.dk_model.specs.declared.action.Protocol.{Protocol}
use Rattle.dk_model.specs.declared.action.Metadata.{Metadata}
use Rattle.dk_features.specs.declared.fault.FeatureFault.{FeatureFault}
use Rattle.dk_features.specs.declared.fault.FeatureFault.TheVariants as faults
use Rattle.dk_features.specs.declared.fault.FeatureList.{FeatureList}
use Rattle.dk_features.specs.declared.fault.FeatureList.TheVariants as lists
use Rattle.dk_model.specs.NameSets.{is_one_of}
use Rattle.dk_features.specs.Names.{both, reading_alone, invariants}
use Rattle.dk_features.specs.InForce.{implied, is_implied, listed_features}
use Rattle.dk_features.specs.Invariants.{uses_invariants}

abbrev pub answer_of : Option FeatureFault → Result (Unit {0}) FeatureFault
answer_of None = Ok tt
answer_of (Some fault) = Err fault

-- the same, where memory may run out
abbrev pub Answers : Result (Unit {0}) FeatureFault → Option FeatureFault → Type 0
Answers (Ok u) meant = meant ≡ None
Answers (Err faults.OutOfMemory) meant = Unit {0}
Answers (Err fault) meant = meant ≡ Some fault

-- ---- reading

abbrev pub is_read : List ℕ → Bool
is_read name = is_one_of both name || is_one_of reading_alone name

abbrev pub is_unread : List ℕ → Bool
is_unread name = not (is_read name)

abbrev pub unread : Protocol → Option FeatureFault
unread p =
    if (p.min_reader == 1) || (p.min_reader == 2) then None
    else if p.min_reader == 3 then option_map (faults.Feature lists.Reader) (position_from is_unread 0 (listed_features p.reader_features))
    else Some (faults.ReaderVersion p.min_reader)

-- ---- writing

-- a table with this feature is written, where its schema uses invariants or not
abbrev pub is_feature_written : Bool → List ℕ → Bool
is_feature_written uses name = is_one_of both name || (bytes_eq name invariants && not uses)

abbrev pub is_unwritten : Bool → List ℕ → Bool
is_unwritten uses name = not (is_feature_written uses name)

-- what is in the way at a feature of this name
abbrev pub fault_at : FeatureList → List ℕ → ℕ → FeatureFault
fault_at list name place = if bytes_eq name invariants then faults.InvariantsUsed else faults.Feature list place

-- of a list
abbrev pub unwritten_listed : Bool → List (List ℕ) → Option FeatureFault
unwritten_listed uses names =
    option_map (λ place. fault_at lists.Writer (get_or names place []) place) (position_from (is_unwritten uses) 0 names)

-- of the features that the versions stand for
abbrev pub is_in_the_way : Bool → Protocol → List ℕ × ℕ → Bool
is_in_the_way uses p feature = is_implied p feature && is_unwritten uses feature.0

abbrev pub unwritten_implied : Bool → Protocol → Option FeatureFault
unwritten_implied uses p =
    option_map (λ place. fault_at lists.Implied (get_or implied place ([], 0)).0 place) (position_from (is_in_the_way uses p) 0 implied)

abbrev pub unwritten_version : Bool → Protocol → Option FeatureFault
unwritten_version uses p =
    if p.min_writer == 1 then None
    else if nat_le 2 p.min_writer && nat_le p.min_writer 6 then unwritten_implied uses p
    else if p.min_writer == 7 then unwritten_listed uses (listed_features p.writer_features)
    else Some (faults.WriterVersion p.min_writer)

-- what can't be read isn't written either
abbrev pub unwritten : Protocol → Metadata → Option FeatureFault
unwritten p m = option_or (unread p) (unwritten_version (uses_invariants m.schema_string) p)

-- ---- names

-- the names of a list of features
abbrev pub names_of : Protocol → FeatureList → List (List ℕ)
names_of p lists.Reader = listed_features p.reader_features
names_of p lists.Writer = listed_features p.writer_features
names_of p lists.Implied = map (λ feature. feature.0) implied

-- the name of what is in the way, as a refusal tells it; want of memory has none
abbrev pub fault_name : Protocol → FeatureFault → List ℕ
fault_name p (faults.ReaderVersion n) = codes "minReaderVersion " ++ decimal n
fault_name p (faults.WriterVersion n) = codes "minWriterVersion " ++ decimal n
fault_name p (faults.Feature list place) = get_or (names_of p list) place []
fault_name p faults.InvariantsUsed = invariants
fault_name p faults.OutOfMemory = []

-- what is in the way of reading, and of writing, by its name
unfoldable pub unread_name : Protocol → Option (List ℕ)
unread_name p = option_map (fault_name p) (unread p)

unfoldable pub unwritten_name : Protocol → Metadata → Option (List ℕ)
unwritten_name p m = option_map (fault_name p) (unwritten p m)
