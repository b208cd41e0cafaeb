-- Over a told store the listed size of a commit is that of the object that stands there.
use Rattle.std.proofs.Common.{◌≡◌, ℕ, ◌≤◌, ◌++◌, List, [], ◌∷◌, map, refl, ap, ap₂, sym, ◌∙◌, Bool, true, false, cond, arith, codes}
use Rattle.std.specs.Prelude.{Option, Some, None, find, option_map, ◌==◌}
use Rattle.std.specs.Str.{bytes_eq}
use Rattle.std.specs.List.{filter_map, cons_option, list_any}
use Rattle.std.proofs.lemmas.Slice.Eq.{bytes_eq-Decides}
use Rattle.dk_store.specs.Told.{Told, Listed, Stored}
use Rattle.dk_store.specs.Listing.{listing, listed_as, path_in, behind}
use Rattle.dk_store.specs.Objects.{object}
use Rattle.dk_store.proofs.Folders.{find-listing, append_from_behind}
use Rattle.dk_paths.specs.declared.log_name.LogName.{LogName}
use Rattle.dk_paths.specs.Names.{commit_name}
use Rattle.dk_paths.specs.Places.{Commit_at, Staged, place_path, staged_front}
use Rattle.dk_paths.specs.Staged.{IsStaged, staged_name, staged_of}
use Rattle.dk_paths.proofs.Spelled.{version_is_digits}
use Rattle.dk_paths.proofs.StagedNames.{staged_of-spelled}
use Rattle.dk_listing.specs.declared.catalogued.Catalogued.{Catalogued}
use Rattle.dk_listing.specs.Entries.{in_log, in_staged, named_entry, staged_entry}
use Rattle.dk_listing.specs.OfEvents.{IsListingOf}
use Rattle.dk_listing.specs.Sizes.{size_of_name, log_entries, staged_entries, size_in_log, listed_size, size_of_object, stored_size}
use Rattle.dk_listing.proofs.Standing.{no_slash_in_commit, no_slash_in_staged, not_below_empty}

map_twice : {X Y Z : Type 0} (first : X → Y) (second : Y → Z) (xs : List X) → map second (map first xs) ≡ map (λ x. second (first x)) xs
map_twice first second [] = refl
map_twice {Z = Z} first second (x ∷ xs) = ap (λ (rest : List Z). second (first x) ∷ rest) (map_twice first second xs)

map_itself : {X Y : Type 0} (view : X → Y × X) → ((x : X) → (view x).1 ≡ x) → (xs : List X) → map (λ x. (view x).1) xs ≡ xs
map_itself view same [] = refl
map_itself {X} view same (x ∷ xs) = ap₂ (λ (y : X) (rest : List X). y ∷ rest) (same x) (map_itself view same xs)

size_of_found : (name : List ℕ) (found : Option Stored) → option_map (λ (entry : Listed). entry.size) (option_map (λ (s : Stored). listed_as s name) found) ≡ size_of_object found
size_of_found name None = refl
size_of_found name (Some stored) = refl

pub size_in_folder : (events : List Told) (folder name : List ℕ) → list_any (λ (byte : ℕ). byte == 47) name ≡ false → size_of_name (listing events folder []) name ≡ stored_size events (path_in folder name)
size_in_folder events folder name plain =
    ap (λ (o : Option Listed). option_map (λ (entry : Listed). entry.size) o) (find-listing events folder [] name plain (not_below_empty name))
    ∙ size_of_found name (object events (path_in folder name))

-- ---- commits

log_is : (events : List Told) (found : Catalogued) → IsListingOf events found → log_entries found ≡ listing events (codes "_delta_log") []
log_is events found is =
    sym (map_twice named_entry (λ (e : LogName × Listed). e.1) found.log.items)
    ∙ ap (map (λ (e : LogName × Listed). e.1)) is.log
    ∙ map_twice in_log (λ (e : LogName × Listed). e.1) (listing events (codes "_delta_log") [])
    ∙ map_itself in_log (λ entry. refl) (listing events (codes "_delta_log") [])

-- a commit's name begins with a digit
no_front : (version : ℕ) (rest : List ℕ) → staged_front ++ rest ≡ commit_name version → ⊥
no_front version rest same =
    let digit = version_is_digits version (codes ".json") (staged_front ++ rest) (sym same) in
    let most : 95 ≤ 57 = digit.most in
    absurd (omega arith)

not_staged : (version : ℕ) → behind staged_front (commit_name version) ≡ None
not_staged version = by (behind staged_front (commit_name version)) refl
  where
    by : (found : Option (List ℕ)) → behind staged_front (commit_name version) ≡ found → found ≡ None
    by None is = refl
    by (Some rest) is = absurd (no_front version rest (sym (append_from_behind staged_front (commit_name version) rest is)))

pub commit_size : (events : List Told) (found : Catalogued) → IsListingOf events found → (version : ℕ) → listed_size found (place_path (Commit_at version)) ≡ stored_size events (place_path (Commit_at version))
commit_size events found is version =
    ap (size_in_log (log_entries found) (staged_entries found) (commit_name version)) (not_staged version)
    ∙ ap (λ (entries : List Listed). size_of_name entries (commit_name version)) (log_is events found is)
    ∙ size_in_folder events (codes "_delta_log") (commit_name version) (no_slash_in_commit version)

-- ---- staged commits

staged_is : (events : List Told) (found : Catalogued) → IsListingOf events found
    → staged_entries found ≡ map (λ (e : (ℕ × ℕ) × Listed). e.1) (filter_map in_staged (listing events (codes "_delta_log/_staged_commits") []))
staged_is events found is =
    sym (map_twice staged_entry (λ (e : (ℕ × ℕ) × Listed). e.1) found.staged.items) ∙ ap (map (λ (e : (ℕ × ℕ) × Listed). e.1)) is.staged

abbrev has_name : List ℕ → Listed → Bool
has_name name entry = bytes_eq entry.name name

-- entries whose names are no staged commit's are left out, and none of them has the name of one
find_staged : (version id : ℕ) → IsStaged version id → (xs : List Listed)
    → find (has_name (staged_name version id)) (map (λ (e : (ℕ × ℕ) × Listed). e.1) (filter_map in_staged xs)) ≡ find (has_name (staged_name version id)) xs
find_staged version id allowed [] = refl
find_staged version id allowed (x ∷ xs) = by (staged_of x.name) (bytes_eq x.name (staged_name version id)) refl refl (find_staged version id allowed xs)
  where
    name : List ℕ
    name = staged_name version id

    rest : List Listed
    rest = map (λ (e : (ℕ × ℕ) × Listed). e.1) (filter_map in_staged xs)

    by : (found : Option (ℕ × ℕ)) (same : Bool) → staged_of x.name ≡ found → bytes_eq x.name name ≡ same → find (has_name name) rest ≡ find (has_name name) xs
        → find (has_name name) (map (λ (e : (ℕ × ℕ) × Listed). e.1) (cons_option (option_map (λ (staged : ℕ × ℕ). (staged, x)) found) (filter_map in_staged xs))) ≡ cond same (Some x) (find (has_name name) xs)
    by None true reads is later =
        let spelled : staged_of x.name ≡ Some (version, id) = staged_of-spelled x.name version id allowed (sym ((bytes_eq-Decides x.name name).0 is)) in
        let no : ◌≡◌ {A = Option (ℕ × ℕ)} None (Some (version, id)) = sym reads ∙ spelled in
        cc
    by None false reads is later = later
    by (Some staged) same reads is later = ap₂ (λ (t : Bool) (o : Option Listed). cond t (Some x) o) is later

pub staged_size : (events : List Told) (found : Catalogued) → IsListingOf events found → (version id : ℕ) → IsStaged version id
    → listed_size found (place_path (Staged version id)) ≡ stored_size events (place_path (Staged version id))
staged_size events found is version id allowed =
    ap (λ (entries : List Listed). size_of_name entries (staged_name version id)) (staged_is events found is)
    ∙ ap (λ (o : Option Listed). option_map (λ (entry : Listed). entry.size) o) (find_staged version id allowed (listing events (codes "_delta_log/_staged_commits") []))
    ∙ size_in_folder events (codes "_delta_log/_staged_commits") (staged_name version id) (no_slash_in_staged version id)
