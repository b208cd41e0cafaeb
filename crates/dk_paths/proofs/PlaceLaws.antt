-- The place of a spelling is that place, and a path is the spelling of its place.
use Rattle.std.proofs.Common.{◌≡◌, ℕ, ◌≤◌, List, [], ◌∷◌, ◌++◌, get_or, refl, ap, sym, ◌∙◌, arith, codes, Bool, true, false, true≢false, if◌then◌else◌, Option, Some, None}
use Rattle.std.specs.Prelude.{◌==◌}
use Rattle.std.proofs.lemmas.Bool.Decides.{Decides-eqb}
use Rattle.dk_paths.specs.declared.log_name.LogName.{LogName}
use Rattle.dk_paths.specs.declared.log_name.LogName.TheVariants as names
use Rattle.dk_paths.specs.Numbers.{version_text}
use Rattle.dk_paths.specs.Names.{IsNameOf, IsName, spelling, log_name_of}
use Rattle.dk_paths.specs.Staged.{IsStagedNameOf, staged_name, staged_of}
use Rattle.dk_paths.specs.Places.{Place, Commit_at, Classic, Part, V2, Compacted, Hint, Sidecar, Staged, Other, log_front, sidecar_front, staged_front, is_sidecar_name, place_path, behind_front, staged_place, place_in_folders, place_named, place_behind, place_of, IsPlace, PlaceOfPath, PathOfPlace}
use Rattle.dk_paths.proofs.Spelled.{version_is_digits}
use Rattle.dk_paths.proofs.Meanings.{name_of-spelling, name_of-other, IsNameOf-known}
use Rattle.dk_paths.proofs.StagedNames.{staged_of-staged_name, IsStagedNameOf-staged_of}

-- what follows a front, and the front, are the text
behind_step : (byte first : ℕ) (front text rest : List ℕ) (same : Bool) → (same ≡ true → byte ≡ first) → (behind_front front text ≡ Some rest → front ++ rest ≡ text)
    → (if same then behind_front front text else None) ≡ Some rest → byte ∷ (front ++ rest) ≡ first ∷ text
behind_step byte first front text rest true head tail is =
    let heads : byte ≡ first = head refl in
    let tails : front ++ rest ≡ text = tail is in
    cc
behind_step byte first front text rest false head tail is = cc

pub behind_front-some : (front text rest : List ℕ) → behind_front front text ≡ Some rest → front ++ rest ≡ text
behind_front-some [] text rest is = cc
behind_front-some (byte ∷ front) [] rest is = cc
behind_front-some (byte ∷ front) (first ∷ text) rest is =
    behind_step byte first front text rest (byte == first) (Decides-eqb byte first).0 (behind_front-some front text rest) is

-- a name in the log's own folder begins with a digit, or is the hint
not_a_digit : (version : ℕ) (rest more : List ℕ) → version_text version ++ rest ≡ 95 ∷ (115 ∷ more) → ⊥
not_a_digit version rest more same =
    let digit = version_is_digits version rest (95 ∷ (115 ∷ more)) same in
    let most : 95 ≤ 57 = digit.most in
    absurd (omega arith)

not_the_hint : (l s : ℕ) → l ≡ 108 → s ≡ 115 → l ≡ s → ⊥
not_the_hint l s is_l is_s same = omega arith

no_folder : (more : List ℕ) (name : LogName) → IsName name → spelling name ≡ 95 ∷ (115 ∷ more) → ⊥
no_folder more (names.Commit v) is same = not_a_digit v _ more same
no_folder more (names.Classic v) is same = not_a_digit v _ more same
no_folder more (names.Part v part parts) is same = not_a_digit v _ more same
no_folder more (names.V2Json v id) is same = not_a_digit v _ more same
no_folder more (names.V2Parquet v id) is same = not_a_digit v _ more same
no_folder more (names.Compacted first last) is same = not_a_digit first _ more same
no_folder more names.Hint is same = not_the_hint 108 115 refl refl (ap (λ (text : List ℕ). get_or text 1 0) same)
no_folder more names.Other is same = absurd is

chosen : {X : Type 0} (test : Bool) (found other : X) → test ≡ true → (if test then found else other) ≡ found
chosen true found other is = refl
chosen false found other is = absurd (true≢false (sym is))

-- the place of a name's path is that of the name
pub place_of-named : (name : LogName) (rest : List ℕ) → log_name_of rest ≡ name → place_of (log_front ++ rest) ≡ place_named (log_front ++ rest) rest name
unfolding place_of
place_of-named name rest is = ap (place_named (log_front ++ rest) rest) is

pub place_of_path : PlaceOfPath
place_of_path (Commit_at v) is = place_of-named (names.Commit v) _ (name_of-spelling (names.Commit v) is)
place_of_path (Classic v) is = place_of-named (names.Classic v) _ (name_of-spelling (names.Classic v) is)
place_of_path (Part v part parts) is = place_of-named (names.Part v part parts) _ (name_of-spelling (names.Part v part parts) is)
place_of_path (V2 v id true) is = place_of-named (names.V2Json v id) _ (name_of-spelling (names.V2Json v id) is)
place_of_path (V2 v id false) is = place_of-named (names.V2Parquet v id) _ (name_of-spelling (names.V2Parquet v id) is)
place_of_path (Compacted first last) is = place_of-named (names.Compacted first last) _ (name_of-spelling (names.Compacted first last) is)
place_of_path Hint is = place_of-named names.Hint _ (name_of-spelling names.Hint tt)
place_of_path (Sidecar name) is =
    place_of-named names.Other (sidecar_front ++ name) (name_of-other (sidecar_front ++ name) (no_folder (codes "idecars/" ++ name)))
    ∙ chosen (is_sidecar_name name) (Sidecar name) (Other (log_front ++ (sidecar_front ++ name))) is
place_of_path (Staged v id) is =
    place_of-named names.Other (staged_front ++ staged_name v id) (name_of-other (staged_front ++ staged_name v id) (no_folder (codes "taged_commits/" ++ staged_name v id)))
    ∙ ap (staged_place (log_front ++ (staged_front ++ staged_name v id))) (staged_of-staged_name v id is)
place_of_path (Other path) is = is

-- a place that a path can be, and that is written so
pub record IsPlaceOf (path : List ℕ) (place : Place) : Type 0 where
  pub allowed : IsPlace place
  pub written : place_path place ≡ path

other : (path : List ℕ) → place_of path ≡ Other path → IsPlaceOf path (Other path)
other path is = record { allowed = is; written = refl }

of_sidecar : (path name : List ℕ) (test : Bool) → test ≡ is_sidecar_name name → log_front ++ (sidecar_front ++ name) ≡ path
    → place_of path ≡ (if test then Sidecar name else Other path) → IsPlaceOf path (if test then Sidecar name else Other path)
of_sidecar path name true test split is = record { allowed = sym test; written = split }
of_sidecar path name false test split is = other path is

of_staged : (path name : List ℕ) (found : Option (ℕ × ℕ)) → IsStagedNameOf name found → log_front ++ (staged_front ++ name) ≡ path
    → place_of path ≡ staged_place path found → IsPlaceOf path (staged_place path found)
of_staged path name None says split is = other path is
of_staged path name (Some staged) says split is =
    record { allowed = says.0; written = ap (λ (text : List ℕ). log_front ++ (staged_front ++ text)) says.1 ∙ split }

of_folders : (path rest : List ℕ) (sidecar staged : Option (List ℕ)) → log_front ++ rest ≡ path → behind_front sidecar_front rest ≡ sidecar
    → behind_front staged_front rest ≡ staged → place_of path ≡ place_in_folders path sidecar staged → IsPlaceOf path (place_in_folders path sidecar staged)
of_folders path rest (Some name) staged split sidecars stages is =
    of_sidecar path name (is_sidecar_name name) refl (ap (λ (text : List ℕ). log_front ++ text) (behind_front-some sidecar_front rest name sidecars) ∙ split) is
of_folders path rest None (Some name) split sidecars stages is =
    of_staged path name (staged_of name) (IsStagedNameOf-staged_of name)
    (ap (λ (text : List ℕ). log_front ++ text) (behind_front-some staged_front rest name stages) ∙ split) is
of_folders path rest None None split sidecars stages is = other path is

in_log : (path rest : List ℕ) (name : LogName) → log_front ++ rest ≡ path → spelling name ≡ rest → log_front ++ spelling name ≡ path
in_log path rest name split written = ap (λ (text : List ℕ). log_front ++ text) written ∙ split

of_name : (path rest : List ℕ) (name : LogName) → log_front ++ rest ≡ path → IsNameOf rest name → place_of path ≡ place_named path rest name
    → IsPlaceOf path (place_named path rest name)
of_name path rest (names.Commit v) split says is = record { allowed = says.0; written = in_log path rest (names.Commit v) split says.1 }
of_name path rest (names.Classic v) split says is = record { allowed = says.0; written = in_log path rest (names.Classic v) split says.1 }
of_name path rest (names.Part v part parts) split says is = record { allowed = says.0; written = in_log path rest (names.Part v part parts) split says.1 }
of_name path rest (names.V2Json v id) split says is = record { allowed = says.0; written = in_log path rest (names.V2Json v id) split says.1 }
of_name path rest (names.V2Parquet v id) split says is = record { allowed = says.0; written = in_log path rest (names.V2Parquet v id) split says.1 }
of_name path rest (names.Compacted first last) split says is = record { allowed = says.0; written = in_log path rest (names.Compacted first last) split says.1 }
of_name path rest names.Hint split says is = record { allowed = tt; written = in_log path rest names.Hint split says.1 }
of_name path rest names.Other split says is = of_folders path rest (behind_front sidecar_front rest) (behind_front staged_front rest) split refl refl is

of_rest : (path : List ℕ) (found : Option (List ℕ)) → behind_front log_front path ≡ found → place_of path ≡ place_behind path found
    → IsPlaceOf path (place_behind path found)
of_rest path None split is = other path is
of_rest path (Some rest) split is = of_name path rest (log_name_of rest) (behind_front-some log_front path rest split) (IsNameOf-known rest (log_name_of rest) refl) is

is_place_of : (path : List ℕ) → IsPlaceOf path (place_of path)
unfolding place_of
is_place_of path = of_rest path (behind_front log_front path) refl refl

pub path_of_place : PathOfPlace
path_of_place path = let fact = is_place_of path in (fact.allowed, fact.written)
