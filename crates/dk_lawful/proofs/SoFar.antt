-- What the law reads and writes beyond what is built awaits one of two features, and the rules that are built are the law's where it awaits
-- none.
use Rattle.std.proofs.Common.{◌≡◌, ℕ, ℤ, ◌+◌, ◌≤◌, Bool, true, false, not, ◌&&◌, List, [], ◌∷◌, ◌++◌, Option, Some, None, option_map, if◌then◌else◌, refl, sym, ap, ap₂, ◌∙◌, arith, true≢false}
use Rattle.std.specs.Prelude.{codes, ◌||◌, ◌==◌, is_none, nat_le, nat_lt, find, get_or}
use Rattle.std.specs.List.{list_all, position_from}
use Rattle.std.specs.Option.{option_or}
use Rattle.std.specs.Str.{bytes_eq}
use Rattle.std.proofs.lemmas.Bool.{and_parts, eqb-true, leb-true, ltb-false}
use Rattle.std.proofs.lemmas.Slice.Eq.{bytes_eq-Decides}
use Rattle.dk_model.specs.declared.action.Action.{Action}
use Rattle.dk_model.specs.declared.action.Protocol.{Protocol}
use Rattle.dk_model.specs.declared.action.Metadata.{Metadata}
use Rattle.dk_model.specs.declared.state.TableState.{TableState}
use Rattle.dk_model.specs.State.{steps}
use Rattle.dk_model.specs.Settings.{setting}
use Rattle.dk_features.specs.declared.fault.FeatureFault.{FeatureFault}
use Rattle.dk_features.specs.declared.fault.FeatureFault.TheVariants as faults
use Rattle.dk_features.specs.declared.fault.FeatureList.TheVariants as lists
use Rattle.dk_model.specs.NameSets.{is_one_of}
use Rattle.dk_features.specs.Names.{catalog_managed}
use Rattle.dk_features.specs.InForce.{implied, is_implied, is_implied_name, is_mapped, has_feature, listed_features}
use Rattle.dk_features.specs.Invariants.{uses_invariants}
use Rattle.dk_features.specs.Support as built
use Rattle.dk_lawful.specs.Written.{in_commit_timestamp, of_commits, is_read_with, is_written_with, is_read_by, stays_written, is_written_by, is_table_written}
use Rattle.dk_lawful.specs.Timestamps.{is_set, has_timestamps}
use Rattle.dk_lawful.specs.Rules.{keeps_heads, keeps_kinds, keeps_paths_apart, keeps_names_apart, keeps_protocol, keeps_rows, keeps_domains, keeps_times, begins_unenabled, keeps_management, keeps_adds}
use Rattle.dk_lawful.specs.SoFar.{awaited, is_written_so_far, HasNeither, WrittenHasNeither, RulesSoFar, ReadSoFar}

-- ---- tests that find nothing

none_of_map : {X Y : Type 0} (f : X → Y) (o : Option X) → is_none (option_map f o) ≡ is_none o
none_of_map f None = refl
none_of_map f (Some x) = refl

none_of_both : {X : Type 0} (a b : Option X) → is_none (option_or a b) ≡ (is_none a && is_none b)
none_of_both None b = refl
none_of_both (Some x) b = refl

no_place : {X : Type 0} (good : X → Bool) (i : ℕ) (xs : List X) → is_none (position_from (λ x. not (good x)) i xs) ≡ list_all good xs
no_place good i [] = refl
no_place good i (x ∷ xs) = by (good x) (no_place good (i + 1) xs)
  where
    by : (b : Bool) → is_none (position_from (λ x. not (good x)) (i + 1) xs) ≡ list_all good xs
        → is_none (if not b then Some i else position_from (λ x. not (good x)) (i + 1) xs) ≡ (b && list_all good xs)
    by true rest = rest
    by false rest = refl

none_found : {X : Type 0} (test : X → Bool) (xs ys : List X) → find test (xs ++ ys) ≡ None → (find test xs ≡ None) × (find test ys ≡ None)
none_found test [] ys none = (refl, none)
none_found test (x ∷ xs) ys none = by (test x) none (none_found test xs ys)
  where
    by : (b : Bool) → (if b then Some x else find test (xs ++ ys)) ≡ None → (find test (xs ++ ys) ≡ None → (find test xs ≡ None) × (find test ys ≡ None))
        → ((if b then Some x else find test xs) ≡ None) × (find test ys ≡ None)
    by true none rest = absurd (let no : ◌≡◌ {A = Option _} (Some x) None = none in cc)
    by false none rest = rest none

-- the same test where the names that are found by one are apart
same_all : (one other : List ℕ → Bool) (names : List (List ℕ)) → ((name : List ℕ) → is_one_of of_commits name ≡ false → one name ≡ other name)
    → find (is_one_of of_commits) names ≡ None → list_all one names ≡ list_all other names
same_all one other [] same none = refl
same_all one other (name ∷ names) same none = by (is_one_of of_commits name) refl none (same_all one other names same)
  where
    by : (b : Bool) → is_one_of of_commits name ≡ b → (if b then Some name else find (is_one_of of_commits) names) ≡ None
        → (find (is_one_of of_commits) names ≡ None → list_all one names ≡ list_all other names) → (one name && list_all one names) ≡ (other name && list_all other names)
    by true is none rest = absurd (let no : ◌≡◌ {A = Option (List ℕ)} (Some name) None = none in cc)
    by false is none rest = ap₂ (λ b c. b && c) (same name is) (rest none)

-- ---- reading

abbrev pub reads_by : Protocol → Bool
reads_by p = if (p.min_reader == 1) || (p.min_reader == 2) then true else (p.min_reader == 3 && list_all built.is_read (listed_features p.reader_features))

unread_is : (p : Protocol) → is_none (built.unread p) ≡ reads_by p
unread_is p = by ((p.min_reader == 1) || (p.min_reader == 2)) (p.min_reader == 3)
  where
    by : (low three : Bool) → is_none (if low then None else if three then option_map (faults.Feature lists.Reader) (position_from built.is_unread 0 (listed_features p.reader_features)) else Some (faults.ReaderVersion p.min_reader))
        ≡ (if low then true else (three && list_all built.is_read (listed_features p.reader_features)))
    by true three = refl
    by false true = none_of_map (faults.Feature lists.Reader) (position_from built.is_unread 0 (listed_features p.reader_features)) ∙ no_place built.is_read 0 (listed_features p.reader_features)
    by false false = refl

-- the names of a list that counts
readers_apart : (p : Protocol) → (p.min_reader == 3) ≡ true → awaited (Some p) ≡ None → find (is_one_of of_commits) (listed_features p.reader_features) ≡ None
unfolding awaited
readers_apart p three none =
    ap (λ (b : Bool). find (is_one_of of_commits) (if b then listed_features p.reader_features else [])) (sym three)
    ∙ (none_found (is_one_of of_commits) (if p.min_reader == 3 then listed_features p.reader_features else []) (if p.min_writer == 7 then listed_features p.writer_features else []) none).0

writers_apart : (p : Protocol) → (p.min_writer == 7) ≡ true → awaited (Some p) ≡ None → find (is_one_of of_commits) (listed_features p.writer_features) ≡ None
unfolding awaited
writers_apart p seven none =
    ap (λ (b : Bool). find (is_one_of of_commits) (if b then listed_features p.writer_features else [])) (sym seven)
    ∙ (none_found (is_one_of of_commits) (if p.min_reader == 3 then listed_features p.reader_features else []) (if p.min_writer == 7 then listed_features p.writer_features else []) none).1

same_read : (name : List ℕ) → is_one_of of_commits name ≡ false → is_read_with name ≡ built.is_read name
same_read name apart = ap (λ (b : Bool). b || built.is_read name) apart

read_alike : (p : Protocol) → awaited (Some p) ≡ None → is_read_by p ≡ reads_by p
read_alike p none = by (p.min_reader == 3) refl
  where
    by : (three : Bool) → (p.min_reader == 3) ≡ three → (if (p.min_reader == 1) || (p.min_reader == 2) then true else (three && list_all is_read_with (listed_features p.reader_features)))
        ≡ (if (p.min_reader == 1) || (p.min_reader == 2) then true else (three && list_all built.is_read (listed_features p.reader_features)))
    by true is = ap (λ (b : Bool). if (p.min_reader == 1) || (p.min_reader == 2) then true else b) (same_all is_read_with built.is_read (listed_features p.reader_features) same_read (readers_apart p is none))
    by false is = refl

none_by : {X : Type 0} (o : Option X) → is_none o ≡ true → o ≡ None
none_by None is = refl
none_by (Some x) is = absurd (true≢false (sym is))

by_none : {X : Type 0} (o : Option X) → o ≡ None → is_none o ≡ true
by_none o is = ap (λ (p : Option _). is_none p) is

pub read_so_far : ReadSoFar
read_so_far p reads none = none_by (built.unread p) (unread_is p ∙ sym (read_alike p none) ∙ reads)

-- ---- writing

abbrev pub writes_by : Bool → Protocol → Bool
writes_by uses p =
    if p.min_writer == 1 then true
    else if nat_le 2 p.min_writer && nat_le p.min_writer 6 then list_all (λ feature. not (is_implied p feature) || built.is_feature_written uses feature.0) implied
    else (p.min_writer == 7 && list_all (built.is_feature_written uses) (listed_features p.writer_features))

de_morgan : (a b : Bool) → (a && not b) ≡ not (not a || b)
de_morgan true b = refl
de_morgan false b = refl

way_same : (uses : Bool) (p : Protocol) (i : ℕ) (features : List (List ℕ × ℕ))
    → position_from (built.is_in_the_way uses p) i features ≡ position_from (λ feature. not (not (is_implied p feature) || built.is_feature_written uses feature.0)) i features
way_same uses p i [] = refl
way_same uses p i (feature ∷ features) =
    ap₂ (λ (b : Bool) o. if b then Some i else o) (de_morgan (is_implied p feature) (built.is_feature_written uses feature.0)) (way_same uses p (i + 1) features)

implied_is : (uses : Bool) (p : Protocol) → is_none (built.unwritten_implied uses p) ≡ list_all (λ feature. not (is_implied p feature) || built.is_feature_written uses feature.0) implied
implied_is uses p =
    none_of_map (λ place. built.fault_at lists.Implied (get_or implied place ([], 0)).0 place) (position_from (built.is_in_the_way uses p) 0 implied)
    ∙ ap (λ (o : Option ℕ). is_none o) (way_same uses p 0 implied) ∙ no_place (λ feature. not (is_implied p feature) || built.is_feature_written uses feature.0) 0 implied

listed_is : (uses : Bool) (names : List (List ℕ)) → is_none (built.unwritten_listed uses names) ≡ list_all (built.is_feature_written uses) names
listed_is uses names = none_of_map (λ place. built.fault_at lists.Writer (get_or names place []) place) (position_from (built.is_unwritten uses) 0 names) ∙ no_place (built.is_feature_written uses) 0 names

version_is : (uses : Bool) (p : Protocol) → is_none (built.unwritten_version uses p) ≡ writes_by uses p
version_is uses p = by (p.min_writer == 1) (nat_le 2 p.min_writer && nat_le p.min_writer 6) (p.min_writer == 7)
  where
    by : (one low seven : Bool) → is_none (if one then None else if low then built.unwritten_implied uses p else if seven then built.unwritten_listed uses (listed_features p.writer_features) else Some (faults.WriterVersion p.min_writer))
        ≡ (if one then true else if low then list_all (λ feature. not (is_implied p feature) || built.is_feature_written uses feature.0) implied else (seven && list_all (built.is_feature_written uses) (listed_features p.writer_features)))
    by true low seven = refl
    by false true seven = implied_is uses p
    by false false true = listed_is uses (listed_features p.writer_features)
    by false false false = refl

unwritten_is : (p : Protocol) (m : Metadata) → is_none (built.unwritten p m) ≡ (reads_by p && writes_by (uses_invariants m.schema_string) p)
unwritten_is p m = none_of_both (built.unread p) (built.unwritten_version (uses_invariants m.schema_string) p) ∙ ap₂ (λ b c. b && c) (unread_is p) (version_is (uses_invariants m.schema_string) p)

same_written : (uses : Bool) (name : List ℕ) → is_one_of of_commits name ≡ false → is_written_with uses name ≡ built.is_feature_written uses name
same_written uses name apart = ap (λ (b : Bool). b || built.is_feature_written uses name) apart

written_alike : (uses : Bool) (p : Protocol) → awaited (Some p) ≡ None → is_written_by uses p ≡ writes_by uses p
written_alike uses p none = by (p.min_writer == 7) refl
  where
    by : (seven : Bool) → (p.min_writer == 7) ≡ seven
        → (if p.min_writer == 1 then true else if nat_le 2 p.min_writer && nat_le p.min_writer 6 then list_all (stays_written uses p) implied else (seven && list_all (is_written_with uses) (listed_features p.writer_features)))
        ≡ (if p.min_writer == 1 then true else if nat_le 2 p.min_writer && nat_le p.min_writer 6 then list_all (λ feature. not (is_implied p feature) || built.is_feature_written uses feature.0) implied else (seven && list_all (built.is_feature_written uses) (listed_features p.writer_features)))
    by true is =
        ap (λ (b : Bool). if p.min_writer == 1 then true else if nat_le 2 p.min_writer && nat_le p.min_writer 6 then list_all (stays_written uses p) implied else b)
        (same_all (is_written_with uses) (built.is_feature_written uses) (listed_features p.writer_features) (same_written uses) (writers_apart p is none))
    by false is = refl

-- what awaits no feature is written by the law just where it is written so far
same_of : (p : Protocol) (m : Metadata) → awaited (Some p) ≡ None → is_table_written (Some p) (Some m) ≡ is_written_so_far (Some p) (Some m)
unfolding is_table_written is_written_so_far
same_of p m none = ap₂ (λ b c. b && c) (read_alike p none) (written_alike (uses_invariants m.schema_string) p none) ∙ sym (unwritten_is p m)

pub written_alike_so_far : (protocol : Option Protocol) (metadata : Option Metadata) → awaited protocol ≡ None → is_table_written protocol metadata ≡ is_written_so_far protocol metadata
unfolding is_table_written is_written_so_far
written_alike_so_far None metadata none = refl
written_alike_so_far (Some p) None none = refl
written_alike_so_far (Some p) (Some m) none = same_of p m none

-- ---- a table that is written so far has neither feature

not_listed : (good : List ℕ → Bool) (name : List ℕ) (names : List (List ℕ)) → good name ≡ false → list_all good names ≡ true → is_one_of names name ≡ false
not_listed good name [] bad all = refl
not_listed good name (other ∷ names) bad all =
    let parts = and_parts (good other) (list_all good names) all in
    by (bytes_eq name other) refl parts.0 (not_listed good name names bad parts.1)
  where
    by : (same : Bool) → bytes_eq name other ≡ same → good other ≡ true → is_one_of names name ≡ false → (same || is_one_of names name) ≡ false
    by true is well rest = absurd (true≢false (sym well ∙ ap good (sym ((bytes_eq-Decides name other).0 is)) ∙ bad))
    by false is well rest = rest

and_false : (b : Bool) → (b && false) ≡ false
and_false true = refl
and_false false = refl

seven_lists : (uses : Bool) (p : Protocol) → nat_lt p.min_writer 7 ≡ false → writes_by uses p ≡ true → list_all (built.is_feature_written uses) (listed_features p.writer_features) ≡ true
seven_lists uses p high writes = by (p.min_writer == 1) (nat_le 2 p.min_writer && nat_le p.min_writer 6) (p.min_writer == 7) refl refl writes
  where
    least : 7 ≤ p.min_writer
    least = ltb-false p.min_writer 7 high

    by : (one low seven : Bool) → (p.min_writer == 1) ≡ one → (nat_le 2 p.min_writer && nat_le p.min_writer 6) ≡ low
        → (if one then true else if low then list_all (λ feature. not (is_implied p feature) || built.is_feature_written uses feature.0) implied else (seven && list_all (built.is_feature_written uses) (listed_features p.writer_features))) ≡ true
        → list_all (built.is_feature_written uses) (listed_features p.writer_features) ≡ true
    by true low seven is between writes = let same : p.min_writer ≡ 1 = eqb-true p.min_writer 1 is in let from = least in absurd (omega arith)
    by false true seven is between writes =
        let most : p.min_writer ≤ 6 = leb-true p.min_writer 6 ((and_parts (nat_le 2 p.min_writer) (nat_le p.min_writer 6) between).1) in let from = least in absurd (omega arith)
    by false false true is between writes = writes
    by false false false is between writes = absurd (true≢false (sym writes))

not_in_force : (p : Protocol) (m : Metadata) (name : List ℕ) → built.unwritten p m ≡ None → built.is_feature_written (uses_invariants m.schema_string) name ≡ false → is_implied_name p name ≡ false
    → is_mapped p name ≡ false → has_feature (Some p) name ≡ false
unfolding has_feature
not_in_force p m name none unwritten unimplied unmapped = by (nat_lt p.min_writer 7) refl
  where
    writes : writes_by (uses_invariants m.schema_string) p ≡ true
    writes = (and_parts (reads_by p) (writes_by (uses_invariants m.schema_string) p) (sym (unwritten_is p m) ∙ by_none (built.unwritten p m) none)).1

    by : (low : Bool) → nat_lt p.min_writer 7 ≡ low → (if low then is_implied_name p name else (is_one_of (listed_features p.writer_features) name || is_mapped p name)) ≡ false
    by true is = unimplied
    by false is =
        ap₂ (λ b c. b || c) (not_listed (built.is_feature_written (uses_invariants m.schema_string)) name (listed_features p.writer_features) unwritten (seven_lists (uses_invariants m.schema_string) p is writes)) unmapped

not_built : (uses : Bool) → (built.is_feature_written uses in_commit_timestamp ≡ false) × (built.is_feature_written uses catalog_managed ≡ false)
not_built true = (refl, refl)
not_built false = (refl, refl)

pub written_has_neither : WrittenHasNeither
written_has_neither p m none = record {
  untimed = not_in_force p m in_commit_timestamp none (not_built (uses_invariants m.schema_string)).0 refl (and_false (p.min_reader == 2));
  unmanaged = not_in_force p m catalog_managed none (not_built (uses_invariants m.schema_string)).1 refl (and_false (p.min_reader == 2));
}

pub begun_has_neither : (protocol : Option Protocol) (metadata : Option Metadata) → is_written_so_far protocol metadata ≡ true → HasNeither protocol
unfolding is_written_so_far
begun_has_neither None metadata written = absurd (true≢false (sym written))
begun_has_neither (Some p) None written = absurd (true≢false (sym written))
begun_has_neither (Some p) (Some m) written = written_has_neither p m (none_by {X = FeatureFault} (built.unwritten p m) written)

-- ---- the rules

no_timestamps : (protocol : Option Protocol) (metadata : Option Metadata) → has_feature protocol in_commit_timestamp ≡ false → has_timestamps protocol metadata ≡ false
unfolding has_timestamps
no_timestamps protocol None none = refl
no_timestamps protocol (Some m) none = ap (λ (b : Bool). b && is_set (setting (codes "delta.enableInCommitTimestamps") m)) none

times_so_far : (before : TableState) (last : Option ℤ) (version : ℕ) (actions : List Action) → HasNeither before.protocol → HasNeither (steps before actions).protocol
    → keeps_times before last version actions ≡ begins_unenabled version (steps before actions).metadata
times_so_far before last version actions neither after =
    rw (no_timestamps before.protocol before.metadata neither.untimed) (rw (no_timestamps (steps before actions).protocol (steps before actions).metadata after.untimed) refl)

management_so_far : (before : TableState) (actions : List Action) → HasNeither before.protocol → HasNeither (steps before actions).protocol → keeps_management before actions ≡ true
management_so_far before actions neither after = rw neither.unmanaged (rw after.unmanaged refl)

-- rules up to the sixth, and those behind it
abbrev pub up_to_six : TableState → ℕ → List Action → Bool → Option ℕ → Option ℕ
up_to_six before version actions written rest =
    if not (keeps_heads version actions) then Some 1
    else if not (keeps_kinds actions) then Some 2
    else if not (keeps_paths_apart actions) then Some 3
    else if not (keeps_names_apart actions) then Some 4
    else if not (keeps_protocol before actions) then Some 5
    else if not written then Some 6
    else rest

abbrev pub from_seven : TableState → List Action → Bool → Bool → Option ℕ
from_seven before actions times management =
    if not (keeps_rows before actions) then Some 7
    else if not (keeps_domains before actions) then Some 8
    else if not times then Some 9
    else if not management then Some 10
    else if not (keeps_adds actions) then Some 11
    else None

pub rules_so_far : RulesSoFar
rules_so_far before last version actions neither awaits =
    ap (λ (b : Bool). up_to_six before version actions b (from_seven before actions (keeps_times before last version actions) (keeps_management before actions)))
    (written_alike_so_far (steps before actions).protocol (steps before actions).metadata awaits)
    ∙ by (is_written_so_far (steps before actions).protocol (steps before actions).metadata) refl
  where
    by : (written : Bool) → is_written_so_far (steps before actions).protocol (steps before actions).metadata ≡ written
        → up_to_six before version actions written (from_seven before actions (keeps_times before last version actions) (keeps_management before actions))
        ≡ up_to_six before version actions written (from_seven before actions (begins_unenabled version (steps before actions).metadata) true)
    by true is =
        let after = begun_has_neither (steps before actions).protocol (steps before actions).metadata is in
        ap₂ (λ (times management : Bool). up_to_six before version actions true (from_seven before actions times management)) (times_so_far before last version actions neither after)
        (management_so_far before actions neither after)
    by false is = refl
