-- The other permitted events keep what holds of each lawful log, so that it holds of each.
use Rattle.std.proofs.Common.{◌≡◌, ℕ, ℤ, ◌+◌, ◌<◌, Bool, true, false, inl, inr, length, take, List, [], ◌∷◌, ◌++◌, Option, Some, None, option_and_then, nat_le, slice_get, if◌then◌else◌, refl, sym, ap, subst, ◌∙◌, arith, length-append, true≢false}
use Rattle.std.proofs.lemmas.Bool.{cases_lt, cases_eq, eq-eqb, ne_eqb, lt-leb}
use Rattle.std.proofs.lemmas.List.{map-append, take-append-le}
use Rattle.std.proofs.lemmas.Option.{slice_get_within}
use Rattle.std.proofs.Math.Seq.{take-length}
use Rattle.dk_model.specs.CommitText.{commit_of}
use Rattle.dk_model.specs.State.{fold}
use Rattle.dk_store.specs.Told.{Told, Made, Over, Deleted, Ratified, Forgotten}
use Rattle.dk_store.specs.Standings.{standing}
use Rattle.dk_paths.specs.Places.{Place, Commit_at, Classic, Part, V2, Compacted, Sidecar, Staged, place_of}
use Rattle.dk_paths.specs.Staged.{staged_name}
use Rattle.dk_lawful.specs.Present.{Holds, Present, AtMostPublished, Complete, staged_bytes}
use Rattle.dk_lawful.specs.Managed.{is_managed}
use Rattle.dk_lawful.specs.Timestamps.{last_timestamp}
use Rattle.dk_lawful.specs.History.{By_catalogue, RatifiedCommit, by_catalogue, history, next_version, commits_of, state_of, table, table_before, staged_commit}
use Rattle.dk_lawful.specs.Floor.{HasBetween}
use Rattle.dk_lawful.specs.Checkpoints.{IsTopOf}
use Rattle.dk_lawful.specs.Permits.{Permits, MayOver, RatifiesCommit}
use Rattle.dk_lawful.specs.Lawful.{Lawful}
use Rattle.dk_lawful.proofs.Lists.{slice_get-end}
use Rattle.dk_lawful.proofs.Standing.{found_over, kept_over, held_ratified, was_ratified, held_forgotten, was_forgotten, held_at, held_once, placed}
use Rattle.dk_lawful.proofs.Structure.{grows_by_one, longer_is}
use Rattle.dk_lawful.proofs.Management.{management_stays}
use Rattle.dk_lawful.proofs.Heads.{state_after}
use Rattle.dk_lawful.proofs.Sound.{IsAbovePublished, StandsFine, Sound, Sound-none, Onward, Step, StandsFine_on, goes_on, length_commits}
use Rattle.dk_lawful.proofs.SoundMade.{Sound-Made, on_made}
use Rattle.dk_lawful.proofs.SoundDeleted.{Sound-Deleted, onward_deleted}

-- a later list that has the same objects
pub record SameObjects (es later : List Told) : Type 0 where
  pub keep : (place : Place) (held : List ℕ) → Holds es place held → Holds later place held
  pub was : (place : Place) (held : List ℕ) → Holds later place held → Holds es place held

module _ (es later : List Told) (same : SameObjects es later) where
  here : (place : Place) → Present es place → Present later place
  here place (held, holds) = (held, same.keep place held holds)

  pub Complete_same : (version : ℕ) → Complete es version → Complete later version
  Complete_same version (inl at) = inl (here (Classic version) at)
  Complete_same version (inr (inl (id, (json, at)))) = inr (inl (id, (json, here (V2 version id json) at)))
  Complete_same version (inr (inr (parts, some, all))) = inr (inr (parts, some, λ part low high. here (Part version part parts) (all part low high)))

  between_same : (version limit : ℕ) → HasBetween es version limit → HasBetween later version limit
  between_same version limit (checkpoint, low, high, complete) = (checkpoint, low, high, Complete_same checkpoint complete)

  published_same : (version : ℕ) → AtMostPublished es version → AtMostPublished later version
  published_same version (last, most, at) = (last, most, here (Commit_at last) at)

  step_same : (horizon : ℤ) → Step es later horizon
  step_same horizon = record {
    commits = λ version held holds. inl (same.was (Commit_at version) held holds);
    tops = λ place version is held holds. inl (same.was place held holds);
    parts = λ version part parts held holds. inl (same.was (Part version part parts) held holds);
    compacts = λ first last held holds. inl (same.was (Compacted first last) held holds);
    sides = λ place version is held holds name names side holds_side. same.keep (Sidecar name) side holds_side;
  }

  stands_same : (on : Onward es later) → (version : ℕ) (name : List ℕ) → StandsFine es version name → StandsFine later version name
  stands_same on version name fine = StandsFine_on es later on version name
      (λ id held holds. same.was (Staged version id) held holds)
      (λ id named there. elim there [
        | inl at ↦ inl (here (Commit_at version) at)
        | inr (above, at) ↦ inr ((λ other (held, holds). above other (held, same.was (Commit_at other) held holds)), here (Staged version id) at)
      ])
      fine

ratified_same : (es : List Told) (version : ℕ) (name : List ℕ) → SameObjects es (Ratified version name ∷ es)
ratified_same es version name = record { keep = λ place held holds. held_ratified es version name place held holds; was = λ place held holds. was_ratified es version name place held holds }

pub forgotten_same : (es : List Told) (upto : ℕ) → SameObjects es (Forgotten upto ∷ es)
forgotten_same es upto = record { keep = λ place held holds. held_forgotten es upto place held holds; was = λ place held holds. was_forgotten es upto place held holds }

-- a ratification of the next version adds its staged commit to the history
pub ratifies_itself : (es : List Told) (version : ℕ) (name : List ℕ) → (may : RatifiesCommit es version name) → history (Ratified version name ∷ es) ≡ history es ++ by_catalogue may.actions ∷ []
ratifies_itself es version name may =
    let bytes : staged_bytes es name ≡ Some may.bytes = ap (staged_bytes es) may.is_name ∙ held_at es (Staged version may.id) may.bytes may.staged in
    longer_is (history es) By_catalogue version (staged_commit es name) may.actions (ap (option_and_then commit_of) bytes ∙ may.means)
    (eq-eqb version (length (history es)) may.next) may.by_catalogue

ratify : (es : List Told) (version : ℕ) (name : List ℕ) (horizon : ℤ) → RatifiesCommit es version name → Sound es horizon → Sound (Ratified version name ∷ es) horizon
ratify es version name horizon may sound =
    let later = Ratified version name ∷ es in
    let same = ratified_same es version name in
    let now = ratifies_itself es version name may in
    let on : Onward es (Ratified version name ∷ es) = record { grown = grows_by_one (Ratified version name) es; published = published_same es (Ratified version name ∷ es) same } in
    let commit = by_catalogue may.actions in
    let long : length (history (Ratified version name ∷ es)) ≡ length (history es) + 1 = ap length now ∙ length-append (history es) (by_catalogue may.actions ∷ []) in
    let stands : slice_get (history (Ratified version name ∷ es)) version ≡ Some (by_catalogue may.actions) =
    ap (λ h. slice_get h version) now ∙ ap (slice_get (history es ++ by_catalogue may.actions ∷ [])) may.next ∙ slice_get-end (history es) (by_catalogue may.actions) in
    let above : IsAbovePublished es version = λ other (held, holds).
    (let fine = sound.commits other held holds in
    let below : other < length (history es) = slice_get_within (history es) other fine.commit fine.stands in
    let next = may.next in omega arith) in
    let before : table_before (Ratified version name ∷ es) version ≡ table es =
    ap (λ h. fold (take version (commits_of h))) now
    ∙ ap (λ cs. fold (take version cs)) (map-append (λ (c : RatifiedCommit). c.actions) (history es) (by_catalogue may.actions ∷ []))
    ∙ ap fold (take-append-le version (commits_of (history es)) (may.actions ∷ []) (let many = length_commits (history es) in let next = may.next in omega arith)
    ∙ ap (λ n. take n (commits_of (history es))) (let many = length_commits (history es) in let next = may.next in let e : version ≡ length (commits_of (history es)) = omega arith in e)
    ∙ take-length (commits_of (history es))) in
    let new : StandsFine (Ratified version name ∷ es) version name = record {
      id = may.id;
      is_name = may.is_name;
      placed = placed es (Staged version may.id) may.bytes may.staged;
      within = (let next = may.next in omega arith);
      managed_before = ap is_managed before ∙ may.by_catalogue;
      content = λ held holds. record {
        commit = by_catalogue may.actions;
        stands = stands;
        means = ap commit_of (held_once es (Staged version may.id) held may.bytes (was_ratified es version name (Staged version may.id) held holds) may.staged) ∙ may.means;
      };
      there = inr (
        (λ other (held, holds). above other (held, was_ratified es version name (Commit_at other) held holds)),
        (may.bytes, held_ratified es version name (Staged version may.id) may.bytes may.staged),
      );
    } in
    goes_on es (Ratified version name ∷ es) horizon on (step_same es (Ratified version name ∷ es) same horizon) sound
    (λ other given is. elim (cases_eq version other) [
      | inl e ↦
          let both : Some name ≡ Some given = sym (ap (λ (b : Bool). if b then Some name else standing es other) (eq-eqb version other e)) ∙ is in
          let names : name ≡ given = cc in
          subst (λ n. StandsFine (Ratified version name ∷ es) other n) names (subst (λ v. StandsFine (Ratified version name ∷ es) v name) e new)
      | inr apart ↦
          stands_same es (Ratified version name ∷ es) same on other given
          (sound.standings other given (sym (ap (λ (b : Bool). if b then Some name else standing es other) (ne_eqb version other apart)) ∙ is))
    ])
    (λ none. absurd (true≢false (sym (management_stays (table es) (last_timestamp (commits_of (history es))) (length (commits_of (history es))) may.actions may.valid may.by_catalogue)
    ∙ sym (ap is_managed (ap state_of now ∙ state_after (history es) (by_catalogue may.actions))) ∙ none)))
    (λ other limit below floor. elim (cases_lt other (next_version es)) [
      | inl less ↦ elim (sound.covered other limit less floor) [
        | inl readable ↦ inl (elim readable [
          | inl at ↦ inl (here es (Ratified version name ∷ es) same (Commit_at other) at)
          | inr (id, stood, at) ↦ inr (
            id,
            ap (λ (b : Bool). if b then Some name else standing es other) (ne_eqb version other (let next = may.next in λ e. omega arith)) ∙ stood,
            here es (Ratified version name ∷ es) same (Staged other id) at,
          )
        ])
        | inr between ↦ inr (between_same es (Ratified version name ∷ es) same other limit between)
      ]
      | inr at_least ↦
          let e : version ≡ other = (let next = may.next in omega arith) in
          inl (inr (
            may.id,
            ap (λ (b : Bool). if b then Some name else standing es other) (eq-eqb version other e) ∙ ap Some (may.is_name ∙ ap (λ v. staged_name v may.id) e),
            subst (λ v. Present (Ratified version name ∷ es) (Staged v may.id)) e (may.bytes, held_ratified es version name (Staged version may.id) may.bytes may.staged),
          ))
    ])

stood_before : (b : Bool) (found : Option (List ℕ)) (name : List ℕ) → (if b then None else found) ≡ Some name → found ≡ Some name
stood_before true found name is = absurd (let no : ◌≡◌ {A = Option (List ℕ)} None (Some name) = is in cc)
stood_before false found name is = is

none_stands : (b : Bool) (found : Option (List ℕ)) → found ≡ None → (if b then None else found) ≡ None
none_stands true found is = refl
none_stands false found is = is

forget : (es : List Told) (upto : ℕ) (horizon : ℤ) → AtMostPublished es upto → Sound es horizon → Sound (Forgotten upto ∷ es) horizon
forget es upto horizon published sound =
    let same = forgotten_same es upto in
    let on : Onward es (Forgotten upto ∷ es) = record { grown = grows_by_one (Forgotten upto) es; published = published_same es (Forgotten upto ∷ es) same } in
    goes_on es (Forgotten upto ∷ es) horizon on (step_same es (Forgotten upto ∷ es) same horizon) sound
    (λ version name is. stands_same es (Forgotten upto ∷ es) same on version name (sound.standings version name (stood_before (nat_le version upto) (standing es version) name is)))
    (λ none version. none_stands (nat_le version upto) (standing es version) (sound.unmanaged none version))
    (λ version limit below floor. elim (sound.covered version limit below floor) [
      | inl readable ↦ inl (elim readable [
        | inl at ↦ inl (here es (Forgotten upto ∷ es) same (Commit_at version) at)
        | inr (id, stands, at) ↦ elim (cases_lt upto version) [
          | inl less ↦ inr (id, ap (λ (b : Bool). if b then None else standing es version) (lt-leb version upto less) ∙ stands, here es (Forgotten upto ∷ es) same (Staged version id) at)
          | inr at_most ↦ inl (here es (Forgotten upto ∷ es) same (Commit_at version) (elim ((sound.standings version (staged_name version id) stands).there) [
            | inl there ↦ there
            | inr (above, staged) ↦ absurd (let past = above published.0 published.2 in let most = published.1 in omega arith)
          ]))
        ]
      ])
      | inr between ↦ inr (between_same es (Forgotten upto ∷ es) same version limit between)
    ])

over_onward : (es : List Told) (path bytes : List ℕ) (stamp : ℤ) → MayOver (place_of path) → Onward es (Over path bytes stamp ∷ es)
over_onward es path bytes stamp may = record {
  grown = grows_by_one (Over path bytes stamp) es;
  published = λ version (last, most, (held, holds)). (last, most, (held, kept_over es path bytes stamp (Commit_at last) held (λ is. let no : ⊥ = subst MayOver is may in no) holds));
}

-- The hint, and paths without a meaning, are written over: all else is as before.
over_free : (es : List Told) (path bytes : List ℕ) (stamp horizon : ℤ) → MayOver (place_of path) → Sound es horizon → Sound (Over path bytes stamp ∷ es) horizon
over_free es path bytes stamp horizon may sound =
    let no : (place : Place) → (MayOver place → ⊥) → place_of path ≡ place → ⊥ = λ place none is. none (subst MayOver is may) in
    let keep : (place : Place) → (MayOver place → ⊥) → Present es place → Present (Over path bytes stamp ∷ es) place =
    λ place none (held, holds). (held, kept_over es path bytes stamp place held (no place none) holds) in
    let was : (place : Place) (held : List ℕ) → (MayOver place → ⊥) → Holds (Over path bytes stamp ∷ es) place held → Holds es place held =
    λ place held none holds. found_over es path bytes stamp place held (no place none) holds in
    let complete : (version : ℕ) → Complete es version → Complete (Over path bytes stamp ∷ es) version = λ version whole. elim whole [
      | inl at ↦ inl (keep (Classic version) (λ x. x) at)
      | inr rest ↦ elim rest [
        | inl (id, (json, at)) ↦ inr (inl (id, (json, keep (V2 version id json) (λ x. x) at)))
        | inr (parts, some, all) ↦ inr (inr (parts, some, λ part low high. keep (Part version part parts) (λ x. x) (all part low high)))
      ]
    ] in
    let on = over_onward es path bytes stamp may in
    goes_on es (Over path bytes stamp ∷ es) horizon on
    (record {
      commits = λ version held holds. inl (was (Commit_at version) held (λ x. x) holds);
      tops = λ place version is held holds. inl (was place held (top_stays place version is) holds);
      parts = λ version part parts held holds. inl (was (Part version part parts) held (λ x. x) holds);
      compacts = λ first last held holds. inl (was (Compacted first last) held (λ x. x) holds);
      sides = λ place version is held holds name names side holds_side. kept_over es path bytes stamp (Sidecar name) side (no (Sidecar name) (λ x. x)) holds_side;
    })
    sound
    (λ version name stands. StandsFine_on es (Over path bytes stamp ∷ es) on version name
    (λ id held holds. was (Staged version id) held (λ x. x) holds)
    (λ id named there. elim there [
      | inl at ↦ inl (keep (Commit_at version) (λ x. x) at)
      | inr (above, at) ↦ inr ((λ other (held, holds). above other (held, was (Commit_at other) held (λ x. x) holds)), keep (Staged version id) (λ x. x) at)
    ])
    (sound.standings version name stands))
    sound.unmanaged
    (λ version limit below floor. elim (sound.covered version limit below floor) [
      | inl readable ↦ inl (elim readable [
        | inl at ↦ inl (keep (Commit_at version) (λ x. x) at)
        | inr (id, stands, at) ↦ inr (id, stands, keep (Staged version id) (λ x. x) at)
      ])
      | inr (checkpoint, low, high, whole) ↦ inr (checkpoint, low, high, complete checkpoint whole)
    ])
  where
    top_stays : (place : Place) (version : ℕ) → IsTopOf place version → MayOver place → ⊥
    top_stays (Classic v) version is may = may
    top_stays (V2 v id json) version is may = may
    top_stays _ version is may = is

pub sound_after : (es : List Told) (event : Told) (horizon : ℤ) → Permits es event horizon → Sound es horizon → Sound (event ∷ es) horizon
sound_after es (Made path bytes stamp) horizon may sound = Sound-Made es path bytes stamp horizon may.0 may.1 sound
sound_after es (Over path bytes stamp) horizon may sound = over_free es path bytes stamp horizon may sound
sound_after es (Deleted path) horizon may sound = Sound-Deleted es path horizon may sound
sound_after es (Ratified version name) horizon may sound = ratify es version name horizon may sound
sound_after es (Forgotten upto) horizon may sound = forget es upto horizon may sound

pub onward : (es : List Told) (event : Told) (horizon : ℤ) → Permits es event horizon → Sound es horizon → Onward es (event ∷ es)
onward es (Made path bytes stamp) horizon may sound = on_made es path bytes stamp may.0
onward es (Over path bytes stamp) horizon may sound = over_onward es path bytes stamp may
onward es (Deleted path) horizon may sound = onward_deleted es path horizon (place_of path) refl may sound
onward es (Ratified version name) horizon may sound =
    record { grown = grows_by_one (Ratified version name) es; published = published_same es (Ratified version name ∷ es) (ratified_same es version name) }
onward es (Forgotten upto) horizon may sound =
    record { grown = grows_by_one (Forgotten upto) es; published = published_same es (Forgotten upto ∷ es) (forgotten_same es upto) }

pub lawful_is_sound : (es : List Told) (horizon : ℤ) → Lawful es horizon → Sound es horizon
lawful_is_sound [] horizon lawful = Sound-none horizon
lawful_is_sound (event ∷ es) horizon lawful = sound_after es event horizon lawful.0 (lawful_is_sound es horizon lawful.1)
