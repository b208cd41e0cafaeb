-- What one more event does to the objects at places.
use Rattle.std.proofs.Common.{◌≡◌, ℕ, ℤ, ◌<◌, ◌^◌, Bool, true, false, ◌⊎◌, inl, inr, List, ◌∷◌, Option, Some, None, option_map, if◌then◌else◌, refl, sym, ap, subst, ◌∙◌}
use Rattle.std.specs.Prelude.{IsNone}
use Rattle.std.specs.Str.{bytes_eq}
use Rattle.std.specs.Cmp.Lexicographic.{bytes_decides}
use Rattle.dk_store.specs.Told.{Told, Stored, Made, Over, Deleted, Ratified, Forgotten}
use Rattle.dk_store.specs.Objects.{object, content}
use Rattle.dk_paths.specs.Names.{commit_path}
use Rattle.dk_paths.specs.Places.{Place, Commit_at, place_of, place_path, IsPlace}
use Rattle.dk_paths.proofs.PlaceLaws.{place_of_path, path_of_place}
use Rattle.dk_lawful.specs.Present.{Holds}

pub same_text : (a b : List ℕ) → bytes_eq a b ≡ true → a ≡ b
same_text a b is = (bytes_decides a b).0 is

pub text_refl : (a : List ℕ) → bytes_eq a a ≡ true
text_refl a = (bytes_decides a a).1 refl

-- the commit of a version has its one path
pub commit_place : (version : ℕ) → version < 2 ^ 63 → place_of (commit_path version) ≡ Commit_at version
commit_place version small = place_of_path (Commit_at version) small

pub commit_small : (path : List ℕ) (version : ℕ) → place_of path ≡ Commit_at version → version < 2 ^ 63
commit_small path version is = subst IsPlace is (path_of_place path).0

pub content_none : (events : List Told) (path : List ℕ) → IsNone (object events path) → content events path ≡ None
content_none events path none = by (object events path) none
  where
    by : (o : Option Stored) → IsNone o → option_map (λ o. o.bytes) o ≡ None
    by None none = refl
    by (Some o) none = cc

pub object_none : (events : List Told) (path : List ℕ) → content events path ≡ None → IsNone (object events path)
object_none events path none = by (object events path) none
  where
    by : (o : Option Stored) → option_map (λ o. o.bytes) o ≡ None → IsNone o
    by None none = refl
    by (Some o) none = absurd (let no : ◌≡◌ {A = Option (List ℕ)} (Some o.bytes) None = none in cc)

-- the bytes at a path after an object was made there or elsewhere
content_made : (events : List Told) (path bytes : List ℕ) (stamp : ℤ) (at : List ℕ) (same : Bool) → bytes_eq path at ≡ same
    → content (Made path bytes stamp ∷ events) at ≡ (if same then Some bytes else content events at)
content_made events path bytes stamp at true is = ap (λ (b : Bool). option_map (λ (o : Stored). o.bytes) (if b then Some (record { bytes = bytes; stamp = stamp }) else object events at)) is
content_made events path bytes stamp at false is = ap (λ (b : Bool). option_map (λ (o : Stored). o.bytes) (if b then Some (record { bytes = bytes; stamp = stamp }) else object events at)) is

-- what stands at a place after a Made was made there, or stood before
pub found_made : (events : List Told) (path bytes : List ℕ) (stamp : ℤ) (place : Place) (held : List ℕ) → Holds (Made path bytes stamp ∷ events) place held
    → ((place_of path ≡ place) × (held ≡ bytes)) ⊎ Holds events place held
found_made events path bytes stamp place held holds = by (bytes_eq path holds.path) refl
  where
    by : (same : Bool) → bytes_eq path holds.path ≡ same → ((place_of path ≡ place) × (held ≡ bytes)) ⊎ Holds events place held
    by true is =
        let now : Some bytes ≡ Some held = sym (content_made events path bytes stamp holds.path true is) ∙ holds.has_bytes in
        inl (ap place_of (same_text path holds.path is) ∙ holds.is_place, cc)
    by false is = inr (record { path = holds.path; is_place = holds.is_place; has_bytes = sym (content_made events path bytes stamp holds.path false is) ∙ holds.has_bytes })

pub kept_made : (events : List Told) (path bytes : List ℕ) (stamp : ℤ) (place : Place) (held : List ℕ) → IsNone (object events path)
    → Holds events place held → Holds (Made path bytes stamp ∷ events) place held
kept_made events path bytes stamp place held free holds = by (bytes_eq path holds.path) refl
  where
    by : (same : Bool) → bytes_eq path holds.path ≡ same → Holds (Made path bytes stamp ∷ events) place held
    by true is =
        let none : content events holds.path ≡ None = ap (content events) (sym (same_text path holds.path is)) ∙ content_none events path free in
        absurd (let no : ◌≡◌ {A = Option (List ℕ)} None (Some held) = sym none ∙ holds.has_bytes in cc)
    by false is = record { path = holds.path; is_place = holds.is_place; has_bytes = content_made events path bytes stamp holds.path false is ∙ holds.has_bytes }

pub made_here : (events : List Told) (path bytes : List ℕ) (stamp : ℤ) (place : Place) → place_of path ≡ place → Holds (Made path bytes stamp ∷ events) place bytes
made_here events path bytes stamp place is = record { path = path; is_place = is; has_bytes = content_made events path bytes stamp path true (text_refl path) }

-- the same of an object that was written over
content_over : (events : List Told) (path bytes : List ℕ) (stamp : ℤ) (at : List ℕ) (same : Bool) → bytes_eq path at ≡ same
    → content (Over path bytes stamp ∷ events) at ≡ (if same then Some bytes else content events at)
content_over events path bytes stamp at true is = ap (λ (b : Bool). option_map (λ (o : Stored). o.bytes) (if b then Some (record { bytes = bytes; stamp = stamp }) else object events at)) is
content_over events path bytes stamp at false is = ap (λ (b : Bool). option_map (λ (o : Stored). o.bytes) (if b then Some (record { bytes = bytes; stamp = stamp }) else object events at)) is

pub found_over : (events : List Told) (path bytes : List ℕ) (stamp : ℤ) (place : Place) (held : List ℕ) → (place_of path ≡ place → ⊥)
    → Holds (Over path bytes stamp ∷ events) place held → Holds events place held
found_over events path bytes stamp place held apart holds = by (bytes_eq path holds.path) refl
  where
    by : (same : Bool) → bytes_eq path holds.path ≡ same → Holds events place held
    by true is = absurd (apart (ap place_of (same_text path holds.path is) ∙ holds.is_place))
    by false is = record { path = holds.path; is_place = holds.is_place; has_bytes = sym (content_over events path bytes stamp holds.path false is) ∙ holds.has_bytes }

pub kept_over : (events : List Told) (path bytes : List ℕ) (stamp : ℤ) (place : Place) (held : List ℕ) → (place_of path ≡ place → ⊥)
    → Holds events place held → Holds (Over path bytes stamp ∷ events) place held
kept_over events path bytes stamp place held apart holds = by (bytes_eq path holds.path) refl
  where
    by : (same : Bool) → bytes_eq path holds.path ≡ same → Holds (Over path bytes stamp ∷ events) place held
    by true is = absurd (apart (ap place_of (same_text path holds.path is) ∙ holds.is_place))
    by false is = record { path = holds.path; is_place = holds.is_place; has_bytes = content_over events path bytes stamp holds.path false is ∙ holds.has_bytes }

-- and of one that was deleted
content_deleted : (events : List Told) (path at : List ℕ) (same : Bool) → bytes_eq path at ≡ same → content (Deleted path ∷ events) at ≡ (if same then None else content events at)
content_deleted events path at true is = ap (λ (b : Bool). option_map (λ (o : Stored). o.bytes) (if b then None else object events at)) is
content_deleted events path at false is = ap (λ (b : Bool). option_map (λ (o : Stored). o.bytes) (if b then None else object events at)) is

pub found_deleted : (events : List Told) (path : List ℕ) (place : Place) (held : List ℕ) → Holds (Deleted path ∷ events) place held → Holds events place held
found_deleted events path place held holds = by (bytes_eq path holds.path) refl
  where
    by : (same : Bool) → bytes_eq path holds.path ≡ same → Holds events place held
    by true is = absurd (let no : ◌≡◌ {A = Option (List ℕ)} None (Some held) = sym (content_deleted events path holds.path true is) ∙ holds.has_bytes in cc)
    by false is = record { path = holds.path; is_place = holds.is_place; has_bytes = sym (content_deleted events path holds.path false is) ∙ holds.has_bytes }

pub kept_deleted : (events : List Told) (path : List ℕ) (place : Place) (held : List ℕ) → (place_of path ≡ place → ⊥) → Holds events place held → Holds (Deleted path ∷ events) place held
kept_deleted events path place held apart holds = by (bytes_eq path holds.path) refl
  where
    by : (same : Bool) → bytes_eq path holds.path ≡ same → Holds (Deleted path ∷ events) place held
    by true is = absurd (apart (ap place_of (same_text path holds.path is) ∙ holds.is_place))
    by false is = record { path = holds.path; is_place = holds.is_place; has_bytes = content_deleted events path holds.path false is ∙ holds.has_bytes }

-- ratifying and forgetting leave the objects
pub held_ratified : (events : List Told) (version : ℕ) (name : List ℕ) (place : Place) (held : List ℕ) → Holds events place held → Holds (Ratified version name ∷ events) place held
held_ratified events version name place held holds = record { path = holds.path; is_place = holds.is_place; has_bytes = holds.has_bytes }

pub was_ratified : (events : List Told) (version : ℕ) (name : List ℕ) (place : Place) (held : List ℕ) → Holds (Ratified version name ∷ events) place held → Holds events place held
was_ratified events version name place held holds = record { path = holds.path; is_place = holds.is_place; has_bytes = holds.has_bytes }

pub held_forgotten : (events : List Told) (upto : ℕ) (place : Place) (held : List ℕ) → Holds events place held → Holds (Forgotten upto ∷ events) place held
held_forgotten events upto place held holds = record { path = holds.path; is_place = holds.is_place; has_bytes = holds.has_bytes }

pub was_forgotten : (events : List Told) (upto : ℕ) (place : Place) (held : List ℕ) → Holds (Forgotten upto ∷ events) place held → Holds events place held
was_forgotten events upto place held holds = record { path = holds.path; is_place = holds.is_place; has_bytes = holds.has_bytes }

-- a place has its one path
pub path_at : (path : List ℕ) (place : Place) → place_of path ≡ place → path ≡ place_path place
path_at path place is = sym (path_of_place path).1 ∙ ap place_path is

-- what stands at a place stands at its path, and is one
pub held_at : (events : List Told) (place : Place) (held : List ℕ) → Holds events place held → content events (place_path place) ≡ Some held
held_at events place held holds = ap (content events) (sym (path_at holds.path place holds.is_place)) ∙ holds.has_bytes

pub held_once : (events : List Told) (place : Place) (held other : List ℕ) → Holds events place held → Holds events place other → held ≡ other
held_once events place held other holds holds_other =
    let both : Some held ≡ Some other = sym (held_at events place held holds) ∙ held_at events place other holds_other in cc

-- of the path of an object that stands
pub placed : (events : List Told) (place : Place) (held : List ℕ) → Holds events place held → place_of (place_path place) ≡ place
placed events place held holds = ap place_of (sym (path_at holds.path place holds.is_place)) ∙ holds.is_place
