-- The places of what stands.
use Rattle.std.proofs.Common.{◌≡◌, ℕ, ◌⊎◌, inl, inr, Bool, true, false, ◌&&◌, List, [], ◌∷◌, map, Option, Some, None, option_map, refl, sym, ap, ap₂, subst, ◌∙◌, true≢false}
use Rattle.std.specs.Prelude.{◌==◌, ◌||◌, filter, is_some, if◌then◌else◌}
use Rattle.std.specs.Str.{bytes_eq}
use Rattle.std.proofs.lemmas.Bool.{and_parts, eqb-true, eq-eqb}
use Rattle.std.proofs.lemmas.Slice.Eq.{bytes_eq-Decides}
use Rattle.dk_store.specs.Told.{Told, Stored, Made, Over, Deleted, Ratified, Forgotten}
use Rattle.dk_store.specs.Objects.{object}
use Rattle.dk_paths.specs.Places.{Place, Commit_at, Classic, Part, V2, Compacted, Hint, Sidecar, Staged, Other, IsPlace, place_of}
use Rattle.dk_paths.proofs.PlaceLaws.{path_of_place}
use Rattle.dk_lawful.specs.Present.{Present}
use Rattle.dk_lawful.specs.Segments.{is_same_place, is_among}
use Rattle.dk_lawful.specs.Openable.{written_paths, stands, standing_places, StandingPlacesStand}
use Rattle.dk_lawful.proofs.Standing.{same_text, text_refl}

-- ---- the same place

same_number : (m n : ℕ) → (m == n) ≡ true → n ≡ m
same_number m n is = sym (eqb-true m n is)

same_path : (xs ys : List ℕ) → bytes_eq xs ys ≡ true → ys ≡ xs
same_path xs ys is = sym ((bytes_eq-Decides xs ys).0 is)

pub same_place : (place other : Place) → is_same_place place other ≡ true → place ≡ other
same_place (Commit_at version) (Commit_at v) is = ap Commit_at (same_number v version is)
same_place (Classic version) (Classic v) is = ap Classic (same_number v version is)
same_place (Part version part parts) (Part v o p) is =
    let both = and_parts (v == version) ((o == part) && (p == parts)) is in
    let rest = and_parts (o == part) (p == parts) both.1 in
    ap₂ (λ x y. Part x y parts) (same_number v version both.0) (same_number o part rest.0) ∙ ap (Part v o) (same_number p parts rest.1)
same_place (V2 version id true) (V2 v i true) is =
    let both = and_parts (v == version) (i == id) is in ap₂ (λ x y. V2 x y true) (same_number v version both.0) (same_number i id both.1)
same_place (V2 version id false) (V2 v i false) is =
    let both = and_parts (v == version) (i == id) is in ap₂ (λ x y. V2 x y false) (same_number v version both.0) (same_number i id both.1)
same_place (Compacted first last) (Compacted x y) is =
    let both = and_parts (x == first) (y == last) is in ap₂ Compacted (same_number x first both.0) (same_number y last both.1)
same_place Hint Hint is = refl
same_place (Sidecar name) (Sidecar other) is = ap Sidecar (same_path other name is)
same_place (Staged version id) (Staged v i) is =
    let both = and_parts (v == version) (i == id) is in ap₂ Staged (same_number v version both.0) (same_number i id both.1)
same_place (Other path) (Other other) is = ap Other (same_path other path is)
same_place _ _ is = absurd (true≢false (sym is))

both_true : (a b : Bool) → a ≡ true → b ≡ true → (a && b) ≡ true
both_true true b is other = other
both_true false b is other = absurd (true≢false (sym is))

same_n : (n : ℕ) → (n == n) ≡ true
same_n n = eq-eqb n n refl

pub place_itself : (place : Place) → is_same_place place place ≡ true
place_itself (Commit_at version) = same_n version
place_itself (Classic version) = same_n version
place_itself (Part version part parts) = both_true _ _ (same_n version) (both_true _ _ (same_n part) (same_n parts))
place_itself (V2 version id true) = both_true _ _ (same_n version) (same_n id)
place_itself (V2 version id false) = both_true _ _ (same_n version) (same_n id)
place_itself (Compacted first last) = both_true _ _ (same_n first) (same_n last)
place_itself Hint = refl
place_itself (Sidecar name) = text_refl name
place_itself (Staged version id) = both_true _ _ (same_n version) (same_n id)
place_itself (Other path) = text_refl path

-- ---- an element of a list

abbrev pub In : {A : Type 0} → List A → A → Type 0
In [] x = ⊥
In (y ∷ ys) x = (x ≡ y) ⊎ In ys x

or_second : (a b : Bool) → b ≡ true → (a || b) ≡ true
or_second true b is = refl
or_second false b is = is

pub in_is_among : (places : List Place) (place : Place) → In places place → is_among places place ≡ true
in_is_among [] place at = absurd at
in_is_among (p ∷ places) place (inl same) = ap (λ (b : Bool). b || is_among places place) (ap (is_same_place place) (sym same) ∙ place_itself place)
in_is_among (p ∷ places) place (inr at) = or_second (is_same_place place p) (is_among places place) (in_is_among places place at)

pub among_is_in : (places : List Place) (place : Place) → is_among places place ≡ true → In places place
among_is_in [] place is = absurd (true≢false (sym is))
among_is_in (p ∷ places) place is = by (is_same_place place p) refl is (among_is_in places place)
  where
    by : (same : Bool) → is_same_place place p ≡ same → (same || is_among places place) ≡ true → (is_among places place ≡ true → In places place) → In (p ∷ places) place
    by true at is rest = inl (same_place place p at)
    by false at is rest = inr (rest is)

in_map : {A B : Type 0} (f : A → B) (xs : List A) (x : A) → In xs x → In (map f xs) (f x)
in_map f [] x at = absurd at
in_map f (y ∷ ys) x (inl same) = inl (ap f same)
in_map f (y ∷ ys) x (inr at) = inr (in_map f ys x at)

of_map : {A B : Type 0} (f : A → B) (xs : List A) (z : B) → In (map f xs) z → (x : A) × In xs x × (f x ≡ z)
of_map f [] z at = absurd at
of_map f (y ∷ ys) z (inl same) = (y, inl refl, sym same)
of_map f (y ∷ ys) z (inr at) = let (x, there, is) = of_map f ys z at in (x, inr there, is)

pub in_filter : {A : Type 0} (test : A → Bool) (xs : List A) (x : A) → In xs x → test x ≡ true → In (filter test xs) x
in_filter test [] x at is = absurd at
in_filter test (y ∷ ys) x (inl same) is = subst (λ (b : Bool). In (if b then y ∷ filter test ys else filter test ys) x) (sym (ap test (sym same) ∙ is)) (inl same)
in_filter test (y ∷ ys) x (inr at) is = by (test y) (in_filter test ys x at is)
  where
    by : (b : Bool) → In (filter test ys) x → In (if b then y ∷ filter test ys else filter test ys) x
    by true rest = inr rest
    by false rest = rest

pub of_filter : {A : Type 0} (test : A → Bool) (xs : List A) (x : A) → In (filter test xs) x → In xs x × (test x ≡ true)
of_filter test [] x at = absurd at
of_filter test (y ∷ ys) x at = by (test y) refl at (of_filter test ys x)
  where
    by : (b : Bool) → test y ≡ b → In (if b then y ∷ filter test ys else filter test ys) x → (In (filter test ys) x → In ys x × (test x ≡ true)) → In (y ∷ ys) x × (test x ≡ true)
    by true is (inl same) rest = (inl same, ap test same ∙ is)
    by true is (inr at) rest = let found = rest at in (inr found.0, found.1)
    by false is at rest = let found = rest at in (inr found.0, found.1)

-- ---- what stands

-- what stands was written
was_written : (events : List Told) (path : List ℕ) → stands events path ≡ true → In (written_paths events) path
was_written [] path is = absurd (true≢false (sym is))
was_written (Made p bytes stamp ∷ events) path is = by (bytes_eq p path) refl is (was_written events path)
  where
    by : (same : Bool) → bytes_eq p path ≡ same → is_some (if same then Some (record { bytes = bytes; stamp = stamp }) else object events path) ≡ true
        → (stands events path ≡ true → In (written_paths events) path) → In (p ∷ written_paths events) path
    by true at is rest = inl (sym (same_text p path at))
    by false at is rest = inr (rest is)
was_written (Over p bytes stamp ∷ events) path is = by (bytes_eq p path) refl is (was_written events path)
  where
    by : (same : Bool) → bytes_eq p path ≡ same → is_some (if same then Some (record { bytes = bytes; stamp = stamp }) else object events path) ≡ true
        → (stands events path ≡ true → In (written_paths events) path) → In (p ∷ written_paths events) path
    by true at is rest = inl (sym (same_text p path at))
    by false at is rest = inr (rest is)
was_written (Deleted p ∷ events) path is = by (bytes_eq p path) is (was_written events path)
  where
    by : (same : Bool) → is_some (if same then None else object events path) ≡ true → (stands events path ≡ true → In (written_paths events) path) → In (written_paths events) path
    by true is rest = absurd (true≢false (sym is))
    by false is rest = rest is
was_written (Ratified version name ∷ events) path is = was_written events path is
was_written (Forgotten upto ∷ events) path is = was_written events path is

some_stands : (found : Option Stored) (bytes : List ℕ) → option_map (λ (o : Stored). o.bytes) found ≡ Some bytes → is_some found ≡ true
some_stands None bytes is = absurd (let no : ◌≡◌ {A = Option (List ℕ)} None (Some bytes) = is in cc)
some_stands (Some o) bytes is = refl

has_bytes : (found : Option Stored) → is_some found ≡ true → (bytes : List ℕ) × (option_map (λ (o : Stored). o.bytes) found ≡ Some bytes)
has_bytes None is = absurd (true≢false (sym is))
has_bytes (Some o) is = (o.bytes, refl)

pub present_is_in : (events : List Told) (place : Place) → Present events place → In (standing_places events) place
present_is_in events place (bytes, holds) =
    let there : stands events holds.path ≡ true = some_stands (object events holds.path) bytes holds.has_bytes in
    subst (In (standing_places events)) holds.is_place
    (in_map place_of (filter (stands events) (written_paths events)) holds.path (in_filter (stands events) (written_paths events) holds.path (was_written events holds.path there) there))

pub in_is_present : (events : List Told) (place : Place) → In (standing_places events) place → Present events place
in_is_present events place at =
    let (path, found, is) = of_map place_of (filter (stands events) (written_paths events)) place at in
    let there = of_filter (stands events) (written_paths events) path found in
    let (bytes, has) = has_bytes (object events path) there.1 in
    (bytes, record { path = path; is_place = is; has_bytes = has })

-- each of them is a place that a path can be
pub in_is_place : (events : List Told) (place : Place) → In (standing_places events) place → IsPlace place
in_is_place events place at =
    let (path, found, is) = of_map place_of (filter (stands events) (written_paths events)) place at in
    subst IsPlace is (path_of_place path).0

pub standing_places_stand : StandingPlacesStand
standing_places_stand events place =
    ((λ is. in_is_present events place (among_is_in (standing_places events) place is)), (λ at. in_is_among (standing_places events) place (present_is_in events place at)))
