-- On a lawful log what stands where a version's commit is read from means the history's commit of the version, whichever of two places
-- the choice prefers.
use Rattle.std.proofs.Common.{◌≡◌, ℕ, ℤ, ◌<◌, ◌^◌, Bool, true, false, List, Option, Some, None, option_and_then, slice_get, if◌then◌else◌, refl, sym, ap, subst, ◌∙◌, arith, inl, inr}
use Rattle.std.specs.Prelude.{IfSome}
use Rattle.std.specs.Option.{option_or}
use Rattle.std.proofs.lemmas.Bool.Decides.{eqb_tells}
use Rattle.dk_model.specs.CommitText.{commit_of}
use Rattle.dk_store.specs.Told.{Told}
use Rattle.dk_store.specs.Objects.{content}
use Rattle.dk_store.specs.Standings.{standing}
use Rattle.dk_paths.specs.Names.{commit_path}
use Rattle.dk_paths.specs.Places.{Place, Commit_at, Staged, IsPlace, place_of, place_path}
use Rattle.dk_paths.specs.Staged.{IsStagedNameOf, staged_of}
use Rattle.dk_paths.proofs.PlaceLaws.{place_of_path, path_of_place}
use Rattle.dk_paths.proofs.StagedNames.{IsStagedNameOf-staged_of}
use Rattle.dk_lawful.specs.Present.{Available}
use Rattle.dk_lawful.specs.History.{history, next_version, commits_of}
use Rattle.dk_lawful.specs.Lawful.{Lawful}
use Rattle.dk_lawful.specs.Segments.{if_present, id_of, id_named, published_at, staged_at, preferred, commit_place}
use Rattle.dk_lawful.proofs.Standing.{commit_place as placed_commit, commit_small}
use Rattle.dk_lawful.proofs.Stays.{standing_commit_is_history, staged_commit_is_history, needed_stays, complete_is_published}

-- ---- versions

staged_small : (path : List ℕ) (version id : ℕ) → place_of path ≡ Staged version id → version < 2 ^ 63
staged_small path version id is = (subst IsPlace is (path_of_place path).0).version_small

-- a version whose commit can be read is one that a table can have
pub available_small : (events : List Told) (version : ℕ) → Available events version → version < 2 ^ 63
available_small events version (inl at) = commit_small at.1.path version at.1.is_place
available_small events version (inr (id, stands, at)) = staged_small at.1.path version id at.1.is_place

-- so is each version of the history
pub history_small : (events : List Told) (horizon : ℤ) → Lawful events horizon → (version : ℕ) → version < next_version events → version < 2 ^ 63
history_small events horizon lawful version below = elim (needed_stays events horizon lawful version below) [
  | inl readable ↦ available_small events version readable
  | inr (checkpoint, above, complete) ↦
      let (last, most, at) = complete_is_published events horizon lawful checkpoint complete in
      let small = commit_small at.1.path last at.1.is_place in
      omega arith
]

-- ---- the place of a version's commit

module _ (events : List Told) (horizon : ℤ) (lawful : Lawful events horizon) (present : Place → Bool) where
  -- the place is there, and what stands at it means the history's commit of the version
  abbrev IsHistory : ℕ → Option Place → Type 0
  IsHistory version place =
      IfSome place (λ p. (present p ≡ true) × ((bytes : List ℕ) → content events (place_path p) ≡ Some bytes → commit_of bytes ≡ slice_get (commits_of (history events)) version))

  present_is : (version : ℕ) (place : Place) → ((bytes : List ℕ) → content events (place_path place) ≡ Some bytes → commit_of bytes ≡ slice_get (commits_of (history events)) version)
      → IsHistory version (if_present present place)
  present_is version place means = by (present place) refl
    where
      by : (there : Bool) → present place ≡ there → IsHistory version (if there then Some place else None)
      by true is = (is, means)
      by false is = tt

  published_is : (version : ℕ) → version < 2 ^ 63 → IsHistory version (published_at present version)
  published_is version small = present_is version (Commit_at version)
      (λ bytes held. standing_commit_is_history events horizon lawful version bytes (record { path = commit_path version; is_place = placed_commit version small; has_bytes = held }))

  staged_is : (version : ℕ) → IsHistory version (staged_at present (standing events) version)
  staged_is version = by_name (standing events version) refl
    where
      by_found : (name : List ℕ) (found : Option (ℕ × ℕ)) → standing events version ≡ Some name → IsStagedNameOf name found
          → IsHistory version (option_and_then (λ id. if_present present (Staged version id)) (option_and_then (id_of version) found))
      by_found name None stands names = tt
      by_found name (Some staged) stands names = elim (eqb_tells staged.0 version) [
        | inl t ↦
            let allowed = subst (λ (v : ℕ). IsStagedNameOf name (Some (v, staged.1))) t.1 names in
            rw t.0
            (present_is version (Staged version staged.1) (λ bytes held. staged_commit_is_history events horizon lawful version staged.1 bytes (stands ∙ ap Some (sym allowed.1))
            (record { path = place_path (Staged version staged.1); is_place = place_of_path (Staged version staged.1) allowed.0; has_bytes = held })))
        | inr f ↦ rw f.0 tt
      ]

      by_name : (name : Option (List ℕ)) → standing events version ≡ name → IsHistory version (option_and_then (λ id. if_present present (Staged version id)) (option_and_then (id_named version) name))
      by_name None stands = tt
      by_name (Some name) stands = by_found name (staged_of name) stands (IsStagedNameOf-staged_of name)

  either_is : (version : ℕ) (one other : Option Place) → IsHistory version one → IsHistory version other → IsHistory version (option_or one other)
  either_is version None other first second = second
  either_is version (Some place) other first second = first

  preferred_is : (version : ℕ) (staged_first : Bool) (staged published : Option Place) → IsHistory version staged → IsHistory version published → IsHistory version (preferred staged_first staged published)
  preferred_is version true staged published first second = either_is version staged published first second
  preferred_is version false staged published first second = either_is version published staged second first

  pub place_is_history : (staged_first : Bool) (version : ℕ) → version < 2 ^ 63 → IsHistory version (commit_place present (standing events) staged_first version)
  place_is_history staged_first version small =
      preferred_is version staged_first (staged_at present (standing events) version) (published_at present version) (staged_is version) (published_is version small)

  -- what stands at the place that a version's commit is read from means the history's commit of the version
  pub placed_commit_is_history : (staged_first : Bool) (version : ℕ) (place : Place) (bytes : List ℕ) → version < 2 ^ 63
      → commit_place present (standing events) staged_first version ≡ Some place → content events (place_path place) ≡ Some bytes
      → commit_of bytes ≡ slice_get (commits_of (history events)) version
  placed_commit_is_history staged_first version place bytes small is held =
      (subst (IsHistory version) is (place_is_history staged_first version small)).1 bytes held

  -- where each place that is there has an object, the commit is there and means it
  pub placed_commit_means : ((place : Place) → present place ≡ true → (bytes : List ℕ) × (content events (place_path place) ≡ Some bytes))
      → (staged_first : Bool) (version : ℕ) (place : Place) → version < 2 ^ 63 → commit_place present (standing events) staged_first version ≡ Some place
      → option_and_then commit_of (content events (place_path place)) ≡ slice_get (commits_of (history events)) version
  placed_commit_means holds staged_first version place small is =
      let here = subst (IsHistory version) is (place_is_history staged_first version small) in
      let held = holds place here.0 in
      ap (option_and_then commit_of) held.1 ∙ here.1 held.0 held.1
