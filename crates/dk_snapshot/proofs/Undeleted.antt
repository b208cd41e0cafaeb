-- As long as no deletion has taken what a version needs, each version of a lawful log's history is kept.
use Rattle.std.proofs.Common.{◌≡◌, ℕ, ◌+◌, ◌<◌, Bool, true, false, true≢false, List, Option, Some, None, option_and_then, refl, sym, ap, subst, ◌∙◌, arith, inl, inr}
use Rattle.std.specs.Prelude.{option_map, is_some, if◌then◌else◌}
use Rattle.std.specs.Option.{option_or}
use Rattle.std.proofs.lemmas.Bool.{eq-eqb}
use Rattle.dk_store.specs.Told.{Told}
use Rattle.dk_store.specs.Standings.{standing}
use Rattle.dk_paths.specs.Names.{commit_path}
use Rattle.dk_paths.specs.Places.{Place, Commit_at, Staged, IsPlace, place_path}
use Rattle.dk_paths.specs.Staged.{IsStaged, staged_name}
use Rattle.dk_paths.proofs.PlaceLaws.{path_of_place}
use Rattle.dk_paths.proofs.StagedNames.{staged_of-staged_name}
use Rattle.dk_lawful.specs.History.{next_version}
use Rattle.dk_lawful.specs.Present.{Present, Available}
use Rattle.dk_lawful.specs.Segments.{if_present, id_of, id_named, published_at, staged_at, preferred, commit_place}
use Rattle.dk_lawful.proofs.SegmentSteps.{all_there}
use Rattle.dk_lawful.proofs.Standing.{held_at}
use Rattle.dk_lawful.proofs.Stays.{kept_from_floor}
use Rattle.dk_listing.specs.OfEvents.{stands_at}
use Rattle.dk_snapshot.specs.LawfulOpens.{UndeletedIsKept}
use Rattle.dk_snapshot.proofs.LastVersion.{object_there}

first_some : (one other : Option Place) → is_some one ≡ true → is_some (option_or one other) ≡ true
first_some None other none = absurd (true≢false (sym none))
first_some (Some place) other some = refl

second_some : (one other : Option Place) → is_some other ≡ true → is_some (option_or one other) ≡ true
second_some None other some = some
second_some (Some place) other some = refl

-- one of two places is preferred, where either is there
prefers_first : (staged_first : Bool) (staged published : Option Place) → is_some staged ≡ true → is_some (preferred staged_first staged published) ≡ true
prefers_first true staged published some = first_some staged published some
prefers_first false staged published some = second_some published staged some

prefers_second : (staged_first : Bool) (staged published : Option Place) → is_some published ≡ true → is_some (preferred staged_first staged published) ≡ true
prefers_second true staged published some = second_some staged published some
prefers_second false staged published some = first_some published staged some

present_some : (there : Bool) (place : Place) → there ≡ true → is_some (if there then Some place else None) ≡ true
present_some true place is = refl
present_some false place is = absurd (true≢false (sym is))

present_stands : (events : List Told) (place : Place) → Present events place → stands_at events place ≡ true
present_stands events place at = object_there events (place_path place) at.0 (held_at events place at.0 at.1)

-- the name of a staged commit that stands
staged_there : (events : List Told) (version id : ℕ) → standing events version ≡ Some (staged_name version id) → Present events (Staged version id) → is_some (staged_at (stands_at events) (standing events) version) ≡ true
staged_there events version id stands at =
    let allowed : IsStaged version id = subst IsPlace at.1.is_place (path_of_place at.1.path).0 in
    let named : id_named version (staged_name version id) ≡ Some id =
    ap (option_and_then (id_of version)) (staged_of-staged_name version id allowed) ∙ ap (λ (same : Bool). if same then Some id else None) (eq-eqb version version refl) in
    ap (λ (name : Option (List ℕ)). is_some (option_and_then (λ i. if_present (stands_at events) (Staged version i)) (option_and_then (id_named version) name))) stands
    ∙ ap (λ (found : Option ℕ). is_some (option_and_then (λ i. if_present (stands_at events) (Staged version i)) found)) named
    ∙ present_some (stands_at events (Staged version id)) (Staged version id) (present_stands events (Staged version id) at)

pub available_there : (events : List Told) (staged_first : Bool) (version : ℕ) → Available events version → is_some (commit_place (stands_at events) (standing events) staged_first version) ≡ true
available_there events staged_first version (inl at) =
    prefers_second staged_first (staged_at (stands_at events) (standing events) version) (published_at (stands_at events) version)
    (present_some (stands_at events (Commit_at version)) (Commit_at version) (present_stands events (Commit_at version) at))
available_there events staged_first version (inr (id, stands, at)) =
    prefers_first staged_first (staged_at (stands_at events) (standing events) version) (published_at (stands_at events) version) (staged_there events version id stands at)

pub undeleted_is_kept : UndeletedIsKept
undeleted_is_kept events horizon choice version lawful floor below =
    let place_at = commit_place (stands_at events) (standing events) choice.staged_first in
    ap (option_map commit_path) (all_there place_at 0 (version + 1) (λ w less. available_there events choice.staged_first w (readable w (omega arith))))
  where
    readable : (w : ℕ) → w < next_version events → Available events w
    readable w less = elim (kept_from_floor events horizon lawful w 0 less floor) [
      | inl available ↦ available
      | inr (checkpoint, low, high, complete) ↦ absurd (omega arith)
    ]
