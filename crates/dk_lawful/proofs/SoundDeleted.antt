-- A permitted Deleted keeps what holds of each lawful log.
use Rattle.std.proofs.Common.{◌≡◌, ℕ, ℤ, ◌⊎◌, inl, inr, List, ◌∷◌, Option, Some, None, refl, sym, ap, ap₂, subst, ◌∙◌, arith}
use Rattle.std.proofs.lemmas.Bool.{cases_eq}
use Rattle.dk_store.specs.Told.{Told, Deleted}
use Rattle.dk_store.specs.Standings.{standing}
use Rattle.dk_paths.specs.Places.{Place, Commit_at, Classic, Part, V2, Compacted, Hint, Sidecar, Staged, Other, place_of}
use Rattle.dk_paths.specs.Staged.{staged_name}
use Rattle.dk_lawful.specs.Present.{Holds, Present, Available, Complete}
use Rattle.dk_lawful.specs.Floor.{HasBetween, FromFloor, IsBelow}
use Rattle.dk_lawful.specs.Checkpoints.{IsTopOf, NamesSidecar}
use Rattle.dk_lawful.specs.Permits.{MayDelete}
use Rattle.dk_lawful.proofs.Standing.{found_deleted, kept_deleted}
use Rattle.dk_lawful.proofs.Structure.{grows_by_one}
use Rattle.dk_lawful.proofs.Sound.{StandsFine, Sound, Onward, Step, KeepsSides, StandsFine_on, goes_on, Complete-published}

-- the place is of no checkpoint of this version
abbrev pub IsApart : Place → ℕ → Type 0
IsApart (Classic v) version = v ≡ version → ⊥
IsApart (V2 v id json) version = v ≡ version → ⊥
IsApart (Part v part parts) version = v ≡ version → ⊥
IsApart (Commit_at v) version = Unit {0}
IsApart (Compacted first last) version = Unit {0}
IsApart (Staged v id) version = Unit {0}
IsApart (Sidecar name) version = Unit {0}
IsApart Hint version = Unit {0}
IsApart (Other path) version = Unit {0}

module _ (es : List Told) (path : List ℕ) where
  keep : (place : Place) → (place_of path ≡ place → ⊥) → Present es place → Present (Deleted path ∷ es) place
  keep place apart (held, holds) = (held, kept_deleted es path place held apart holds)

  was : (place : Place) → Present (Deleted path ∷ es) place → Present es place
  was place (held, holds) = (held, found_deleted es path place held holds)

  pub Complete_deleted : (version : ℕ) → IsApart (place_of path) version → Complete es version → Complete (Deleted path ∷ es) version
  Complete_deleted version apart (inl at) = inl (keep (Classic version) (λ is. subst (λ place. IsApart place version) is apart refl) at)
  Complete_deleted version apart (inr (inl (id, (json, at)))) =
      inr (inl (id, (json, keep (V2 version id json) (λ is. subst (λ place. IsApart place version) is apart refl) at)))
  Complete_deleted version apart (inr (inr (parts, some, all))) =
      inr (inr (parts, some, λ part low high. keep (Part version part parts) (λ is. subst (λ place. IsApart place version) is apart refl) (all part low high)))

  step_deleted : (horizon : ℤ) → ((place : Place) (version : ℕ) → IsTopOf place version → (bytes : List ℕ) → Holds es place bytes → KeepsSides es (Deleted path ∷ es) place bytes)
      → Step es (Deleted path ∷ es) horizon
  step_deleted horizon sides = record {
    commits = λ version held holds. inl (found_deleted es path (Commit_at version) held holds);
    tops = λ place version is held holds. inl (found_deleted es path place held holds);
    parts = λ version part parts held holds. inl (found_deleted es path (Part version part parts) held holds);
    compacts = λ first last held holds. inl (found_deleted es path (Compacted first last) held holds);
    sides = sides;
  }

  -- no sidecar goes
  sides_stay : ((name : List ℕ) → place_of path ≡ Sidecar name → ⊥) → (place : Place) (version : ℕ) → IsTopOf place version → (bytes : List ℕ) → Holds es place bytes
      → KeepsSides es (Deleted path ∷ es) place bytes
  sides_stay none place version is bytes holds name names side holds_side = kept_deleted es path (Sidecar name) side (none name) holds_side

  -- no commit goes
  on_deleted : ((version : ℕ) → place_of path ≡ Commit_at version → ⊥) → Onward es (Deleted path ∷ es)
  on_deleted none = record { grown = grows_by_one (Deleted path) es; published = λ version (last, most, at). (last, most, keep (Commit_at last) (none last) at) }

  -- no commit and no staged commit goes: what stood ratified is as before, and so is what can be read
  stands_deleted : (on : Onward es (Deleted path ∷ es)) → ((version : ℕ) → place_of path ≡ Commit_at version → ⊥) → ((version id : ℕ) → place_of path ≡ Staged version id → ⊥)
      → (version : ℕ) (name : List ℕ) → StandsFine es version name → StandsFine (Deleted path ∷ es) version name
  stands_deleted on none none_staged version name fine = StandsFine_on es (Deleted path ∷ es) on version name
      (λ id held holds. found_deleted es path (Staged version id) held holds)
      (λ id named there. elim there [
        | inl at ↦ inl (keep (Commit_at version) (none version) at)
        | inr (above, at) ↦ inr ((λ other held. above other (was (Commit_at other) held)), keep (Staged version id) (none_staged version id) at)
      ])
      fine

  available_deleted : ((version : ℕ) → place_of path ≡ Commit_at version → ⊥) → ((version id : ℕ) → place_of path ≡ Staged version id → ⊥)
      → (version : ℕ) → Available es version → Available (Deleted path ∷ es) version
  available_deleted none none_staged version (inl at) = inl (keep (Commit_at version) (none version) at)
  available_deleted none none_staged version (inr (id, stands, at)) = inr (id, stands, keep (Staged version id) (none_staged version id) at)

  -- Where neither commits nor staged commits go, what is left is that each version that a checkpoint covered still is.
  others_go : (horizon : ℤ) → ((version : ℕ) → place_of path ≡ Commit_at version → ⊥) → ((version id : ℕ) → place_of path ≡ Staged version id → ⊥)
      → ((place : Place) (version : ℕ) → IsTopOf place version → (bytes : List ℕ) → Holds es place bytes → KeepsSides es (Deleted path ∷ es) place bytes)
      → ((version limit : ℕ) → HasBetween es version limit → FromFloor (Deleted path ∷ es) limit → HasBetween (Deleted path ∷ es) version limit)
      → Sound es horizon → Sound (Deleted path ∷ es) horizon
  others_go horizon none none_staged sides covers sound =
      goes_on es (Deleted path ∷ es) horizon (on_deleted none) (step_deleted horizon sides) sound
      (λ version name stands. stands_deleted (on_deleted none) none none_staged version name (sound.standings version name stands))
      sound.unmanaged
      (λ version limit below floor. elim (sound.covered version limit below floor.1) [
        | inl readable ↦ inl (available_deleted none none_staged version readable)
        | inr between ↦ inr (covers version limit between floor)
      ])

-- a place of a checkpoint of this version
abbrev pub IsCheckpointOf : Place → ℕ → Type 0
IsCheckpointOf (Classic v) version = v ≡ version
IsCheckpointOf (V2 v id json) version = v ≡ version
IsCheckpointOf (Part v part parts) version = v ≡ version
IsCheckpointOf _ version = ⊥

apart_from : (place : Place) (version other : ℕ) → IsCheckpointOf place version → (other ≡ version → ⊥) → IsApart place other
apart_from (Classic v) version other is apart = λ same. apart (sym same ∙ is)
apart_from (V2 v id json) version other is apart = λ same. apart (sym same ∙ is)
apart_from (Part v part parts) version other is apart = λ same. apart (sym same ∙ is)
apart_from (Commit_at v) version other is apart = absurd is
apart_from (Compacted first last) version other is apart = absurd is
apart_from (Staged v id) version other is apart = absurd is
apart_from (Sidecar name) version other is apart = absurd is
apart_from Hint version other is apart = absurd is
apart_from (Other path) version other is apart = absurd is

below_of : (es : List Told) (place : Place) (version limit : ℕ) → IsCheckpointOf place version → IsBelow es place limit → HasBetween es version limit
below_of es (Classic v) version limit is below = subst (λ n. HasBetween es n limit) is below
below_of es (V2 v id json) version limit is below = subst (λ n. HasBetween es n limit) is below
below_of es (Part v part parts) version limit is below = subst (λ n. HasBetween es n limit) is below
below_of es (Commit_at v) version limit is below = absurd is
below_of es (Compacted first last) version limit is below = absurd is
below_of es (Staged v id) version limit is below = absurd is
below_of es (Sidecar name) version limit is below = absurd is
below_of es Hint version limit is below = absurd is
below_of es (Other path) version limit is below = absurd is

-- an object of a checkpoint goes: the complete one above it takes its place
checkpoint_goes : (es : List Told) (path : List ℕ) (gone : ℕ) (horizon : ℤ) → IsCheckpointOf (place_of path) gone → Sound es horizon → Sound (Deleted path ∷ es) horizon
checkpoint_goes es path gone horizon is sound =
    others_go es path horizon
    (λ version at. let no : ⊥ = subst (λ place. IsCheckpointOf place gone) at is in no)
    (λ version id at. let no : ⊥ = subst (λ place. IsCheckpointOf place gone) at is in no)
    (sides_stay es path (λ name at. let no : ⊥ = subst (λ place. IsCheckpointOf place gone) at is in no))
    (λ version limit (checkpoint, low, high, complete) floor. elim (cases_eq checkpoint gone) [
      | inl same ↦
          let (other, low', high', complete') = below_of es (place_of path) gone limit is floor.0 in
          (other, (omega arith), high', Complete_deleted es path other (apart_from (place_of path) gone other is (λ e. omega arith)) complete')
      | inr apart ↦ (checkpoint, low, high, Complete_deleted es path checkpoint (apart_from (place_of path) gone checkpoint is apart) complete)
    ])
    sound

-- an object goes that is no commit, no staged commit, no checkpoint's, and no sidecar
abbrev pub IsUnread : Place → Type 0
IsUnread (Compacted first last) = Unit {0}
IsUnread Hint = Unit {0}
IsUnread (Other path) = Unit {0}
IsUnread _ = ⊥

unread_apart : (place : Place) (version : ℕ) → IsUnread place → IsApart place version
unread_apart (Compacted first last) version unread = tt
unread_apart Hint version unread = tt
unread_apart (Other path) version unread = tt
unread_apart (Classic v) version unread = absurd unread
unread_apart (V2 v id json) version unread = absurd unread
unread_apart (Part v part parts) version unread = absurd unread
unread_apart (Commit_at v) version unread = absurd unread
unread_apart (Staged v id) version unread = absurd unread
unread_apart (Sidecar name) version unread = absurd unread

unread_goes : (es : List Told) (path : List ℕ) (horizon : ℤ) → IsUnread (place_of path) → Sound es horizon → Sound (Deleted path ∷ es) horizon
unread_goes es path horizon unread sound =
    others_go es path horizon
    (λ version at. let no : ⊥ = subst IsUnread at unread in no)
    (λ version id at. let no : ⊥ = subst IsUnread at unread in no)
    (sides_stay es path (λ name at. let no : ⊥ = subst IsUnread at unread in no))
    (λ version limit (checkpoint, low, high, complete) floor.
    (checkpoint, low, high, Complete_deleted es path checkpoint (unread_apart (place_of path) checkpoint unread) complete))
    sound

-- a sidecar goes that nothing names
sidecar_goes : (es : List Told) (path name : List ℕ) (horizon : ℤ) → place_of path ≡ Sidecar name → MayDelete es (Sidecar name) → Sound es horizon → Sound (Deleted path ∷ es) horizon
sidecar_goes es path name horizon is unnamed sound =
    others_go es path horizon
    (λ version at. let no : Sidecar name ≡ Commit_at version = sym is ∙ at in cc)
    (λ version id at. let no : Sidecar name ≡ Staged version id = sym is ∙ at in cc)
    (λ place version top bytes holds other names side holds_side. kept_deleted es path (Sidecar other) side
    (λ at. let places : Sidecar name ≡ Sidecar other = sym is ∙ at in let same : other ≡ name = cc in
    unnamed place (version, top, (bytes, holds, subst (NamesSidecar place bytes) same names)))
    holds_side)
    (λ version limit (checkpoint, low, high, complete) floor.
    (checkpoint, low, high, Complete_deleted es path checkpoint (subst (λ place. IsApart place checkpoint) (sym is) tt) complete))
    sound

commit_onward : (es : List Told) (path : List ℕ) (gone : ℕ) (horizon : ℤ) → place_of path ≡ Commit_at gone → MayDelete es (Commit_at gone) → Sound es horizon → Onward es (Deleted path ∷ es)
commit_onward es path gone horizon is ((above, over, complete), unratified) sound =
    let other : (version : ℕ) → (gone ≡ version → ⊥) → place_of path ≡ Commit_at version → ⊥ =
    λ version no at. (let places : Commit_at gone ≡ Commit_at version = sym is ∙ at in let same : gone ≡ version = cc in no same) in
    let (top, most, at_top) = Complete-published es horizon sound above complete in
    record {
      grown = grows_by_one (Deleted path) es;
      published = λ version (last, below, at). elim (cases_eq gone last) [
        | inl same ↦ (top, (omega arith), keep es path (Commit_at top) (other top (λ e. omega arith)) at_top)
        | inr differs ↦ (last, below, keep es path (Commit_at last) (other last differs) at)
      ];
    }

-- a commit goes below a complete checkpoint: the greatest published one stays, as that checkpoint's version is published
commit_goes : (es : List Told) (path : List ℕ) (gone : ℕ) (horizon : ℤ) → place_of path ≡ Commit_at gone → MayDelete es (Commit_at gone) → Sound es horizon → Sound (Deleted path ∷ es) horizon
commit_goes es path gone horizon is ((above, over, complete), unratified) sound =
    let other : (version : ℕ) → (gone ≡ version → ⊥) → place_of path ≡ Commit_at version → ⊥ =
    λ version no at. (let places : Commit_at gone ≡ Commit_at version = sym is ∙ at in let same : gone ≡ version = cc in no same) in
    let staged : (version id : ℕ) → place_of path ≡ Staged version id → ⊥ = λ version id at. (let no : Commit_at gone ≡ Staged version id = sym is ∙ at in cc) in
    let on = commit_onward es path gone horizon is ((above, over, complete), unratified) sound in
    goes_on es (Deleted path ∷ es) horizon on
    (step_deleted es path horizon (sides_stay es path (λ name at. let no : Commit_at gone ≡ Sidecar name = sym is ∙ at in cc))) sound
    (λ version name stands. StandsFine_on es (Deleted path ∷ es) on version name
    (λ id held holds. found_deleted es path (Staged version id) held holds)
    (λ id named there. elim there [
      | inl at ↦ inl (keep es path (Commit_at version) (other version (λ e. let no : ◌≡◌ {A = Option (List ℕ)} None (Some name) = sym unratified ∙ ap (standing es) e ∙ stands in cc)) at)
      | inr (high, at) ↦ inr ((λ third held. high third (was es path (Commit_at third) held)), keep es path (Staged version id) (staged version id) at)
    ])
    (sound.standings version name stands))
    sound.unmanaged
    (λ version limit below floor. elim (sound.covered version limit below floor.1) [
      | inl readable ↦ elim readable [
        | inl at ↦ elim (cases_eq gone version) [
          | inl same ↦
              let (checkpoint, low, high, whole) = subst (λ place. IsBelow es place limit) is floor.0 in
              inr (checkpoint, (omega arith), high, Complete_deleted es path checkpoint (subst (λ place. IsApart place checkpoint) (sym is) tt) whole)
          | inr differs ↦ inl (inl (keep es path (Commit_at version) (other version differs) at))
        ]
        | inr (id, stands, at) ↦ inl (inr (id, stands, keep es path (Staged version id) (staged version id) at))
      ]
      | inr (checkpoint, low, high, whole) ↦ inr (checkpoint, low, high, Complete_deleted es path checkpoint (subst (λ place. IsApart place checkpoint) (sym is) tt) whole)
    ])

same_names : (v w i j : ℕ) → v ≡ w → i ≡ j → staged_name v i ≡ staged_name w j
same_names v w i j versions ids = ap₂ staged_name versions ids

-- a staged commit goes that isn't ratified, or that is published
staged_goes : (es : List Told) (path : List ℕ) (gone id : ℕ) (horizon : ℤ) → place_of path ≡ Staged gone id → MayDelete es (Staged gone id) → Sound es horizon → Sound (Deleted path ∷ es) horizon
staged_goes es path gone id horizon is may sound =
    let none : (version : ℕ) → place_of path ≡ Commit_at version → ⊥ = λ version at. (let no : Staged gone id ≡ Commit_at version = sym is ∙ at in cc) in
    let on = on_deleted es path none in
    -- a standing ratification of this very object has its commit in the log
    let in_log : (version other : ℕ) (name : List ℕ) → standing es version ≡ Some name → name ≡ staged_name version other → place_of path ≡ Staged version other → Present es (Commit_at version) =
    λ version other name stands named at. (
    let places : Staged gone id ≡ Staged version other = sym is ∙ at in
    let versions : gone ≡ version = cc in
    let ids : id ≡ other = cc in
    let fine = sound.standings version name stands in
    elim may [
      | inl unnamed ↦ absurd (unnamed version (stands ∙ ap Some (named ∙ sym (same_names gone version id other versions ids))))
      | inr (last, most, at_last) ↦ elim (fine.there) [ inl there ↦ there | inr (above, staged) ↦ absurd (let past = above last at_last in omega arith) ]
    ]) in
    goes_on es (Deleted path ∷ es) horizon on
    (step_deleted es path horizon (sides_stay es path (λ name at. let no : Staged gone id ≡ Sidecar name = sym is ∙ at in cc))) sound
    (λ version name stands. StandsFine_on es (Deleted path ∷ es) on version name
    (λ other held holds. found_deleted es path (Staged version other) held holds)
    (λ other named there. elim there [
      | inl at ↦ inl (keep es path (Commit_at version) (none version) at)
      | inr (above, at) ↦ elim (same_staged gone id version other) [
        | inl same ↦ inl (keep es path (Commit_at version) (none version) (in_log version other name stands named (is ∙ same)))
        | inr apart ↦ inr ((λ third held. above third (was es path (Commit_at third) held)), keep es path (Staged version other) (λ here. apart (sym is ∙ here)) at)
      ]
    ])
    (sound.standings version name stands))
    sound.unmanaged
    (λ version limit below floor. elim (sound.covered version limit below floor.1) [
      | inl readable ↦ elim readable [
        | inl at ↦ inl (inl (keep es path (Commit_at version) (none version) at))
        | inr (other, stands, at) ↦ elim (same_staged gone id version other) [
          | inl same ↦ inl (inl (keep es path (Commit_at version) (none version) (in_log version other (staged_name version other) stands refl (is ∙ same))))
          | inr apart ↦ inl (inr (other, stands, keep es path (Staged version other) (λ here. apart (sym is ∙ here)) at))
        ]
      ]
      | inr (checkpoint, low, high, whole) ↦ inr (checkpoint, low, high, Complete_deleted es path checkpoint (subst (λ place. IsApart place checkpoint) (sym is) tt) whole)
    ])
  where
    same_staged : (v i w j : ℕ) → (Staged v i ≡ Staged w j) ⊎ (Staged v i ≡ Staged w j → ⊥)
    same_staged v i w j = elim (cases_eq v w) [
      | inl versions ↦ elim (cases_eq i j) [
        | inl ids ↦ inl (ap₂ Staged versions ids)
        | inr differs ↦ inr (λ same. differs (let ids : i ≡ j = cc in ids))
      ]
      | inr differs ↦ inr (λ same. differs (let versions : v ≡ w = cc in versions))
    ]

by_place : (es : List Told) (path : List ℕ) (horizon : ℤ) (place : Place) → place_of path ≡ place → MayDelete es place → Sound es horizon → Sound (Deleted path ∷ es) horizon
by_place es path horizon (Commit_at version) is may sound = commit_goes es path version horizon is may sound
by_place es path horizon (Classic version) is may sound = checkpoint_goes es path version horizon (subst (λ place. IsCheckpointOf place version) (sym is) refl) sound
by_place es path horizon (V2 version id json) is may sound = checkpoint_goes es path version horizon (subst (λ place. IsCheckpointOf place version) (sym is) refl) sound
by_place es path horizon (Part version part parts) is may sound = checkpoint_goes es path version horizon (subst (λ place. IsCheckpointOf place version) (sym is) refl) sound
by_place es path horizon (Compacted first last) is may sound = unread_goes es path horizon (subst IsUnread (sym is) tt) sound
by_place es path horizon (Staged version id) is may sound = staged_goes es path version id horizon is may sound
by_place es path horizon (Sidecar name) is may sound = sidecar_goes es path name horizon is may sound
by_place es path horizon Hint is may sound = unread_goes es path horizon (subst IsUnread (sym is) tt) sound
by_place es path horizon (Other other) is may sound = unread_goes es path horizon (subst IsUnread (sym is) tt) sound

pub Sound-Deleted : (es : List Told) (path : List ℕ) (horizon : ℤ) → MayDelete es (place_of path) → Sound es horizon → Sound (Deleted path ∷ es) horizon
Sound-Deleted es path horizon may sound = by_place es path horizon (place_of path) refl may sound

pub onward_deleted : (es : List Told) (path : List ℕ) (horizon : ℤ) (place : Place) → place_of path ≡ place → MayDelete es place → Sound es horizon → Onward es (Deleted path ∷ es)
onward_deleted es path horizon (Commit_at version) is may sound = commit_onward es path version horizon is may sound
onward_deleted es path horizon (Classic v) is may sound = on_deleted es path (λ version at. let no : Classic v ≡ Commit_at version = sym is ∙ at in cc)
onward_deleted es path horizon (V2 v id json) is may sound = on_deleted es path (λ version at. let no : V2 v id json ≡ Commit_at version = sym is ∙ at in cc)
onward_deleted es path horizon (Part v part parts) is may sound = on_deleted es path (λ version at. let no : Part v part parts ≡ Commit_at version = sym is ∙ at in cc)
onward_deleted es path horizon (Compacted first last) is may sound = on_deleted es path (λ version at. let no : Compacted first last ≡ Commit_at version = sym is ∙ at in cc)
onward_deleted es path horizon (Staged v id) is may sound = on_deleted es path (λ version at. let no : Staged v id ≡ Commit_at version = sym is ∙ at in cc)
onward_deleted es path horizon (Sidecar name) is may sound = on_deleted es path (λ version at. let no : Sidecar name ≡ Commit_at version = sym is ∙ at in cc)
onward_deleted es path horizon Hint is may sound = on_deleted es path (λ version at. let no : Hint ≡ Commit_at version = sym is ∙ at in cc)
onward_deleted es path horizon (Other other) is may sound = on_deleted es path (λ version at. let no : Other other ≡ Commit_at version = sym is ∙ at in cc)
