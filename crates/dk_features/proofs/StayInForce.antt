-- A feature in force can be named, and so stays in force where each that can be named does.
use Rattle.std.proofs.Common.{◌≡◌, ℕ, Bool, true, false, not, ◌&&◌, List, [], ◌∷◌, ◌++◌, Some, map, refl, sym, ap, ap₂, ◌∙◌, true≢false}
use Rattle.std.specs.Prelude.{◌||◌, ◌==◌, find, nat_lt, if◌then◌else◌}
use Rattle.std.specs.List.{list_any, list_all}
use Rattle.std.specs.Str.{bytes_eq}
use Rattle.std.proofs.lemmas.Bool.{and_parts}
use Rattle.std.proofs.lemmas.List.Folds.{list_any-append, list_all-append}
use Rattle.std.proofs.lemmas.Slice.Eq.{bytes_eq-Decides}
use Rattle.dk_model.specs.declared.action.Protocol.{Protocol}
use Rattle.dk_model.specs.NameSets.{is_one_of}
use Rattle.dk_features.specs.Names.{append_only, invariants, check_constraints, change_data_feed, generated_columns, column_mapping, identity_columns}
use Rattle.dk_features.specs.InForce.{implied, listed_features, is_implied_found, is_implied_name, is_mapped, is_in_force}
use Rattle.dk_features.specs.Forms.{nameable, stays_in_force, keeps_features}

equal : (xs ys : List ℕ) → bytes_eq xs ys ≡ true → xs ≡ ys
equal xs ys is = (bytes_eq-Decides xs ys).0 is

-- what holds of all names of a list holds of one of them
pub at_name : (test : List ℕ → Bool) (names : List (List ℕ)) (name : List ℕ) → list_all test names ≡ true → is_one_of names name ≡ true → test name ≡ true
at_name test [] name all is = absurd (true≢false (sym is))
at_name test (other ∷ names) name all is =
    let both = and_parts (test other) (list_all test names) all in
    by both.0 (at_name test names name both.1) (bytes_eq name other) refl is
  where
    by : test other ≡ true → (is_one_of names name ≡ true → test name ≡ true) → (same : Bool) → bytes_eq name other ≡ same → (same || is_one_of names name) ≡ true → test name ≡ true
    by first later true same one = ap test (equal name other same) ∙ first
    by first later false same one = later one

any_first : (x y : Bool) → x ≡ true → (x || y) ≡ true
any_first true y is = refl
any_first false y is = absurd (true≢false (sym is))

any_second : (x y : Bool) → y ≡ true → (x || y) ≡ true
any_second true y is = refl
any_second false y is = is

-- ---- what is in force can be named

found_named : (p : Protocol) (name : List ℕ) (features : List (List ℕ × ℕ)) → is_implied_found p (find (λ feature. bytes_eq name feature.0) features) ≡ true
    → list_any (bytes_eq name) (map (λ feature. feature.0) features) ≡ true
found_named p name [] is = absurd (true≢false (sym is))
found_named p name (feature ∷ features) is = by (found_named p name features) (bytes_eq name feature.0) is
  where
    by : (is_implied_found p (find (λ feature. bytes_eq name feature.0) features) ≡ true → list_any (bytes_eq name) (map (λ feature. feature.0) features) ≡ true)
        → (same : Bool) → is_implied_found p (if same then Some feature else find (λ feature. bytes_eq name feature.0) features) ≡ true
        → (same || list_any (bytes_eq name) (map (λ feature. feature.0) features)) ≡ true
    by later true is = refl
    by later false is = later is

in_middle : (test : List ℕ → Bool) (before after : List (List ℕ)) (name : List ℕ) → test name ≡ true → list_any test (before ++ name ∷ after) ≡ true
in_middle test before after name is =
    list_any-append test before (name ∷ after) ∙ any_second (list_any test before) (test name || list_any test after) (any_first (test name) (list_any test after) is)

mapped_named : (p : Protocol) (name : List ℕ) → is_mapped p name ≡ true → list_any (bytes_eq name) (map (λ feature. feature.0) implied) ≡ true
mapped_named p name is =
    in_middle (bytes_eq name) (append_only ∷ invariants ∷ check_constraints ∷ change_data_feed ∷ generated_columns ∷ []) (identity_columns ∷ []) column_mapping
    ((and_parts (p.min_reader == 2) (bytes_eq name column_mapping) is).1)

in_either : (xs ys : List (List ℕ)) (name : List ℕ) → (is_one_of xs name || is_one_of ys name) ≡ true → is_one_of (xs ++ ys) name ≡ true
in_either xs ys name is = list_any-append (bytes_eq name) xs ys ∙ is

in_force_named : (p : Protocol) (name : List ℕ) → is_in_force p name ≡ true → is_one_of (nameable p) name ≡ true
in_force_named p name is = in_either (map (λ feature. feature.0) implied) (listed_features p.writer_features) name (by (nat_lt p.min_writer 7) is)
  where
    either : (writers mapped : Bool) → is_one_of (listed_features p.writer_features) name ≡ writers → is_mapped p name ≡ mapped → (writers || mapped) ≡ true
        → (is_one_of (map (λ feature. feature.0) implied) name || is_one_of (listed_features p.writer_features) name) ≡ true
    either true mapped in_list in_versions one = any_second (is_one_of (map (λ feature. feature.0) implied) name) (is_one_of (listed_features p.writer_features) name) in_list
    either false true in_list in_versions one =
        any_first (is_one_of (map (λ feature. feature.0) implied) name) (is_one_of (listed_features p.writer_features) name) (mapped_named p name in_versions)
    either false false in_list in_versions one = absurd (true≢false (sym one))

    by : (low : Bool) → (if low then is_implied_name p name else (is_one_of (listed_features p.writer_features) name || is_mapped p name)) ≡ true
        → (is_one_of (map (λ feature. feature.0) implied) name || is_one_of (listed_features p.writer_features) name) ≡ true
    by true is = any_first (is_one_of (map (λ feature. feature.0) implied) name) (is_one_of (listed_features p.writer_features) name) (found_named p name implied is)
    by false is = either (is_one_of (listed_features p.writer_features) name) (is_mapped p name) refl refl is

-- ---- what stays

implies : (before after : Bool) → (not before || after) ≡ true → before ≡ true → after ≡ true
implies true after is now = is
implies false after is now = absurd (true≢false (sym now))

pub stays : (before after : Protocol) (name : List ℕ) → keeps_features before after ≡ true → is_in_force before name ≡ true → is_in_force after name ≡ true
unfolding keeps_features
stays before after name keeps now =
    implies (is_in_force before name) (is_in_force after name) (at_name (stays_in_force before after) (nameable before) name keeps (in_force_named before name now)) now

-- by the features that versions stand for, and those of the list
pub keeps_is : (before after b a : Protocol) (implied_stay listed_stay : Bool) → b ≡ before → a ≡ after → implied_stay ≡ list_all (stays_in_force b a) (map (λ feature. feature.0) implied)
    → listed_stay ≡ list_all (stays_in_force b a) (listed_features before.writer_features) → (implied_stay && listed_stay) ≡ keeps_features before after
unfolding keeps_features
keeps_is before after b a implied_stay listed_stay same_before same_after of_versions of_list =
    ap₂ (λ x y. x && y) of_versions of_list
    ∙ ap₂ (λ (p q : Protocol). list_all (stays_in_force p q) (map (λ feature. feature.0) implied) && list_all (stays_in_force p q) (listed_features before.writer_features)) same_before same_after
    ∙ sym (list_all-append (stays_in_force before after) (map (λ feature. feature.0) implied) (listed_features before.writer_features))
