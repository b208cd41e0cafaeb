-- A table that is managed isn't written.
use Rattle.std.proofs.Common.{◌≡◌, ℕ, ◌+◌, ◌<◌, ◌≤◌, Bool, true, false, ◌&&◌, List, [], ◌∷◌, Option, Some, None, refl, sym, ap, ◌∙◌, arith, true≢false, option_map}
use Rattle.std.specs.Prelude.{◌||◌, ◌==◌, nat_le, nat_lt, get_or, if◌then◌else◌}
use Rattle.std.specs.List.{position_from}
use Rattle.std.specs.Option.{option_or}
use Rattle.std.specs.Str.{bytes_eq}
use Rattle.std.proofs.lemmas.Bool.{and_parts, eqb-true, leb-true, ltb-false}
use Rattle.std.proofs.lemmas.Slice.Eq.{bytes_eq-Decides}
use Rattle.dk_model.specs.declared.action.Protocol.{Protocol}
use Rattle.dk_model.specs.declared.action.Metadata.{Metadata}
use Rattle.dk_features.specs.declared.fault.FeatureFault.{FeatureFault}
use Rattle.dk_features.specs.declared.fault.FeatureFault.TheVariants as faults
use Rattle.dk_features.specs.declared.fault.FeatureList.TheVariants as lists
use Rattle.dk_model.specs.NameSets.{is_one_of}
use Rattle.dk_features.specs.Names.{catalog_managed}
use Rattle.dk_features.specs.InForce.{is_implied_name, is_in_force, is_mapped, listed_features}
use Rattle.dk_features.specs.Invariants.{uses_invariants}
use Rattle.dk_features.specs.Support.{fault_at, is_unwritten, unread, unwritten, unwritten_implied, unwritten_listed, unwritten_version}

none_second : (a b : Option FeatureFault) → option_or a b ≡ None → b ≡ None
none_second None b is = is
none_second (Some fault) b is = absurd (let no : ◌≡◌ {A = Option FeatureFault} (Some fault) None = is in cc)

equal : (xs ys : List ℕ) → bytes_eq xs ys ≡ true → xs ≡ ys
equal xs ys is = (bytes_eq-Decides xs ys).0 is

managed_is_unwritten : (uses : Bool) → is_unwritten uses catalog_managed ≡ true
managed_is_unwritten true = refl
managed_is_unwritten false = refl

-- a name of a list that isn't written is in the way
place_of_unwritten : (test : List ℕ → Bool) (name : List ℕ) (i : ℕ) (names : List (List ℕ)) → test name ≡ true → is_one_of names name ≡ true → position_from test i names ≡ None → ⊥
place_of_unwritten test name i [] refused one none = true≢false (sym one)
place_of_unwritten test name i (other ∷ names) refused one none = by (place_of_unwritten test name (i + 1) names refused) (bytes_eq name other) (test other) refl refl one none
  where
    by : (is_one_of names name ≡ true → position_from test (i + 1) names ≡ None → ⊥) → (same stops : Bool) → bytes_eq name other ≡ same → test other ≡ stops → (same || is_one_of names name) ≡ true
        → (if stops then Some i else position_from test (i + 1) names) ≡ None → ⊥
    by later same true is stop one none = let no : ◌≡◌ {A = Option ℕ} (Some i) None = none in cc
    by later true false is stop one none = true≢false (sym refused ∙ ap test (equal name other is) ∙ stop)
    by later false false is stop one none = later one none

listed_none : (uses : Bool) (names : List (List ℕ)) → unwritten_listed uses names ≡ None → position_from (is_unwritten uses) 0 names ≡ None
listed_none uses names none = by (position_from (is_unwritten uses) 0 names) none
  where
    by : (place : Option ℕ) → option_map (λ place. fault_at lists.Writer (get_or names place []) place) place ≡ None → place ≡ None
    by None none = refl
    by (Some place) none = absurd (let no : ◌≡◌ {A = Option FeatureFault} (Some (fault_at lists.Writer (get_or names place []) place)) None = none in cc)

-- from version 7 on the list for writers is tested
seven : (uses : Bool) (p : Protocol) → nat_lt p.min_writer 7 ≡ false → unwritten_version uses p ≡ None → unwritten_listed uses (listed_features p.writer_features) ≡ None
seven uses p high none = by (p.min_writer == 1) (nat_le 2 p.min_writer && nat_le p.min_writer 6) (p.min_writer == 7) refl refl none
  where
    least : 7 ≤ p.min_writer
    least = ltb-false p.min_writer 7 high

    by : (one low at : Bool) → (p.min_writer == 1) ≡ one → (nat_le 2 p.min_writer && nat_le p.min_writer 6) ≡ low
        → (if one then None else if low then unwritten_implied uses p else if at then unwritten_listed uses (listed_features p.writer_features) else Some (faults.WriterVersion p.min_writer)) ≡ None
        → unwritten_listed uses (listed_features p.writer_features) ≡ None
    by true low at is between none = let same : p.min_writer ≡ 1 = eqb-true p.min_writer 1 is in let from = least in absurd (omega arith)
    by false true at is between none =
        let most : p.min_writer ≤ 6 = leb-true p.min_writer 6 ((and_parts (nat_le 2 p.min_writer) (nat_le p.min_writer 6) between).1) in let from = least in absurd (omega arith)
    by false false true is between none = none
    by false false false is between none = absurd (let no : ◌≡◌ {A = Option FeatureFault} (Some (faults.WriterVersion p.min_writer)) None = none in cc)

and_false : (b : Bool) → (b && false) ≡ false
and_false true = refl
and_false false = refl

pub unmanaged : (p : Protocol) (m : Metadata) → unwritten p m ≡ None → is_in_force p catalog_managed ≡ false
unmanaged p m none = by (nat_lt p.min_writer 7) refl
  where
    version : unwritten_version (uses_invariants m.schema_string) p ≡ None
    version = none_second (unread p) (unwritten_version (uses_invariants m.schema_string) p) none

    in_list : (has : Bool) → nat_lt p.min_writer 7 ≡ false → is_one_of (listed_features p.writer_features) catalog_managed ≡ has → (has || is_mapped p catalog_managed) ≡ false
    in_list true high one =
        absurd (place_of_unwritten (is_unwritten (uses_invariants m.schema_string)) catalog_managed 0 (listed_features p.writer_features) (managed_is_unwritten (uses_invariants m.schema_string)) one
        (listed_none (uses_invariants m.schema_string) (listed_features p.writer_features) (seven (uses_invariants m.schema_string) p high version)))
    in_list false high one = and_false (p.min_reader == 2)

    by : (low : Bool) → nat_lt p.min_writer 7 ≡ low → (if low then is_implied_name p catalog_managed else (is_one_of (listed_features p.writer_features) catalog_managed || is_mapped p catalog_managed)) ≡ false
    by true is = refl
    by false is = in_list (is_one_of (listed_features p.writer_features) catalog_managed) is refl

-- nor is one of a version below 7 managed
pub low_unmanaged : (p : Protocol) → p.min_writer < 7 → is_in_force p catalog_managed ≡ false
low_unmanaged p less = by (nat_lt p.min_writer 7) refl
  where
    by : (low : Bool) → nat_lt p.min_writer 7 ≡ low → (if low then is_implied_name p catalog_managed else (is_one_of (listed_features p.writer_features) catalog_managed || is_mapped p catalog_managed)) ≡ false
    by true is = refl
    by false is = let least : 7 ≤ p.min_writer = ltb-false p.min_writer 7 is in absurd (omega arith)
