-- What can be read of a version has its place, whichever of two places is preferred.
use Rattle.std.proofs.Common.{◌≡◌, ℕ, Bool, true, false, true≢false, List, Option, Some, None, option_and_then, refl, sym, ap, subst, ◌∙◌, inl, inr}
use Rattle.std.specs.Prelude.{is_some, if◌then◌else◌}
use Rattle.std.specs.Option.{option_or}
use Rattle.std.proofs.lemmas.Bool.{eq-eqb}
use Rattle.dk_store.specs.Told.{Told}
use Rattle.dk_store.specs.Standings.{standing}
use Rattle.dk_paths.specs.Places.{Place, Commit_at, Staged, IsPlace}
use Rattle.dk_paths.specs.Staged.{IsStaged, staged_name}
use Rattle.dk_paths.proofs.PlaceLaws.{path_of_place}
use Rattle.dk_paths.proofs.StagedNames.{staged_of-staged_name}
use Rattle.dk_lawful.specs.Present.{Present, Available}
use Rattle.dk_lawful.specs.Segments.{if_present, id_of, id_named, published_at, staged_at, preferred, commit_place}

first_some : (one other : Option Place) → is_some one ≡ true → is_some (option_or one other) ≡ true
first_some None other none = absurd (true≢false (sym none))
first_some (Some place) other some = refl

second_some : (one other : Option Place) → is_some other ≡ true → is_some (option_or one other) ≡ true
second_some None other some = some
second_some (Some place) other some = refl

-- one of two places is preferred, where either is there
pub prefers_first : (staged_first : Bool) (staged published : Option Place) → is_some staged ≡ true → is_some (preferred staged_first staged published) ≡ true
prefers_first true staged published some = first_some staged published some
prefers_first false staged published some = second_some published staged some

pub prefers_second : (staged_first : Bool) (staged published : Option Place) → is_some published ≡ true → is_some (preferred staged_first staged published) ≡ true
prefers_second true staged published some = second_some staged published some
prefers_second false staged published some = first_some published staged some

pub present_some : (there : Bool) (place : Place) → there ≡ true → is_some (if there then Some place else None) ≡ true
present_some true place is = refl
present_some false place is = absurd (true≢false (sym is))

module _ (events : List Told) (present : Place → Bool) (there : (place : Place) → Present events place → present place ≡ true) where
  -- the name of a staged commit that stands
  staged_there : (version id : ℕ) → standing events version ≡ Some (staged_name version id) → Present events (Staged version id) → is_some (staged_at present (standing events) version) ≡ true
  staged_there version id stands at =
      let allowed : IsStaged version id = subst IsPlace at.1.is_place (path_of_place at.1.path).0 in
      let named : id_named version (staged_name version id) ≡ Some id =
      ap (option_and_then (id_of version)) (staged_of-staged_name version id allowed) ∙ ap (λ (same : Bool). if same then Some id else None) (eq-eqb version version refl) in
      ap (λ (name : Option (List ℕ)). is_some (option_and_then (λ i. if_present present (Staged version i)) (option_and_then (id_named version) name))) stands
      ∙ ap (λ (found : Option ℕ). is_some (option_and_then (λ i. if_present present (Staged version i)) found)) named
      ∙ present_some (present (Staged version id)) (Staged version id) (there (Staged version id) at)

  pub available_there : (staged_first : Bool) (version : ℕ) → Available events version → is_some (commit_place present (standing events) staged_first version) ≡ true
  available_there staged_first version (inl at) =
      prefers_second staged_first (staged_at present (standing events) version) (published_at present version)
      (present_some (present (Commit_at version)) (Commit_at version) (there (Commit_at version) at))
  available_there staged_first version (inr (id, stands, at)) =
      prefers_first staged_first (staged_at present (standing events) version) (published_at present version) (staged_there version id stands at)
