-- A permitted Made keeps what holds of each lawful log.
use Rattle.std.proofs.Common.{◌≡◌, ℕ, ℤ, ◌+◌, ◌<◌, ◌≤◌, Bool, not, ◌&&◌, ◌⊎◌, inl, inr, length, List, [], ◌∷◌, ◌++◌, Option, Some, None, slice_get, if◌then◌else◌, refl, sym, ap, subst, ◌∙◌, arith, length-append}
use Rattle.std.specs.Prelude.{IsNone}
use Rattle.std.proofs.lemmas.Bool.{eq-eqb, ne_eqb, cases_lt}
use Rattle.dk_model.specs.declared.action.Action.{Action}
use Rattle.dk_model.specs.CommitText.{commit_of}
use Rattle.dk_store.specs.Told.{Told, Made}
use Rattle.dk_store.specs.Objects.{object}
use Rattle.dk_paths.specs.Places.{Place, Commit_at, Classic, Part, V2, Compacted, Hint, Sidecar, Staged, Other, place_of}
use Rattle.dk_lawful.specs.Present.{Holds, Present, Available, Complete, staged_bytes}
use Rattle.dk_lawful.specs.Managed.{is_managed}
use Rattle.dk_lawful.specs.History.{Way, By_file, RatifiedCommit, by_file, goes_on_by, state_of, longer, after_made, history, next_version}
use Rattle.dk_lawful.specs.Floor.{HasBetween}
use Rattle.dk_lawful.specs.Checkpoints.{IsTopOf}
use Rattle.dk_lawful.specs.Permits.{MayMake, AddsCommit, Backfills, MakesTop}
use Rattle.dk_lawful.proofs.Lists.{slice_get-end}
use Rattle.dk_lawful.proofs.Standing.{found_made, kept_made, made_here, held_at}
use Rattle.dk_lawful.proofs.Structure.{grows_by_one, longer_is}
use Rattle.dk_lawful.proofs.Sound.{IsCommitOf, TopFine, PartFine, CompactedFine, Sound, Onward, Step, IsCommitOf_on, StandsFine_on, TopFine_on, PartFine_on, CompactedFine_on, goes_on, published_within}

-- what the new object owes at its place
abbrev pub Owes : List Told → List ℕ → ℤ → Place → Type 0
Owes later bytes horizon (Commit_at version) = IsCommitOf (history later) version bytes
Owes later bytes horizon (Classic version) = TopFine later (Classic version) version bytes horizon
Owes later bytes horizon (V2 version id json) = TopFine later (V2 version id json) version bytes horizon
Owes later bytes horizon (Part version part parts) = PartFine later version part parts bytes horizon
Owes later bytes horizon (Compacted first last) = CompactedFine later first last bytes
Owes later bytes horizon (Staged version id) = Unit {0}
Owes later bytes horizon (Sidecar name) = Unit {0}
Owes later bytes horizon Hint = Unit {0}
Owes later bytes horizon (Other path) = Unit {0}

top_owed : (later : List Told) (bytes : List ℕ) (horizon : ℤ) (place : Place) (version : ℕ) → IsTopOf place version → Owes later bytes horizon place → TopFine later place version bytes horizon
top_owed later bytes horizon (Classic v) version is owes = subst (λ n. TopFine later (Classic v) n bytes horizon) is owes
top_owed later bytes horizon (V2 v id json) version is owes = subst (λ n. TopFine later (V2 v id json) n bytes horizon) is owes
top_owed later bytes horizon (Commit_at v) version is owes = absurd is
top_owed later bytes horizon (Part v part parts) version is owes = absurd is
top_owed later bytes horizon (Compacted first last) version is owes = absurd is
top_owed later bytes horizon (Staged v id) version is owes = absurd is
top_owed later bytes horizon (Sidecar name) version is owes = absurd is
top_owed later bytes horizon Hint version is owes = absurd is
top_owed later bytes horizon (Other path) version is owes = absurd is

module _ (es : List Told) (path bytes : List ℕ) (stamp : ℤ) (free : IsNone (object es path)) where
  kept : (place : Place) → Present es place → Present (Made path bytes stamp ∷ es) place
  kept place (held, holds) = (held, kept_made es path bytes stamp place held free holds)

  pub on_made : Onward es (Made path bytes stamp ∷ es)
  on_made = record { grown = grows_by_one (Made path bytes stamp) es; published = λ version (last, most, at). (last, most, kept (Commit_at last) at) }

  Complete_made : (version : ℕ) → Complete es version → Complete (Made path bytes stamp ∷ es) version
  Complete_made version (inl at) = inl (kept (Classic version) at)
  Complete_made version (inr (inl (id, (json, at)))) = inr (inl (id, (json, kept (V2 version id json) at)))
  Complete_made version (inr (inr (parts, some, all))) = inr (inr (parts, some, λ part low high. kept (Part version part parts) (all part low high)))

  covered_made : (version limit : ℕ) → Available es version ⊎ HasBetween es version limit
      → Available (Made path bytes stamp ∷ es) version ⊎ HasBetween (Made path bytes stamp ∷ es) version limit
  covered_made version limit (inl (inl at)) = inl (inl (kept (Commit_at version) at))
  covered_made version limit (inl (inr (id, stands, at))) = inl (inr (id, stands, kept (Staged version id) at))
  covered_made version limit (inr (checkpoint, low, high, complete)) = inr (checkpoint, low, high, Complete_made checkpoint complete)

  -- where the object that is found is the new one, it has what that owes
  new_at : (horizon : ℤ) (place : Place) (held : List ℕ) → Owes (Made path bytes stamp ∷ es) bytes horizon (place_of path) → Holds (Made path bytes stamp ∷ es) place held
      → Holds es place held ⊎ Owes (Made path bytes stamp ∷ es) held horizon place
  new_at horizon place held owes holds = elim (found_made es path bytes stamp place held holds) [
    | inl (here, same) ↦ inr (subst (λ b. Owes (Made path bytes stamp ∷ es) b horizon place) (sym same) (subst (Owes (Made path bytes stamp ∷ es) bytes horizon) here owes))
    | inr before ↦ inl before
  ]

  step_made : (horizon : ℤ) → Owes (Made path bytes stamp ∷ es) bytes horizon (place_of path) → Step es (Made path bytes stamp ∷ es) horizon
  step_made horizon owes = record {
    commits = λ version held holds. new_at horizon (Commit_at version) held owes holds;
    tops = λ place version is held holds. elim (new_at horizon place held owes holds) [
      | inl before ↦ inl before
      | inr new ↦ inr (top_owed (Made path bytes stamp ∷ es) held horizon place version is new)
    ];
    parts = λ version part parts held holds. new_at horizon (Part version part parts) held owes holds;
    compacts = λ first last held holds. new_at horizon (Compacted first last) held owes holds;
    sides = λ place version is held holds name names side holds_side. kept_made es path bytes stamp (Sidecar name) side free holds_side;
  }

-- a place that is no commit's, and that of a staged commit only from the next version on
abbrev pub IsQuiet : ℕ → Place → Type 0
IsQuiet next (Commit_at version) = ⊥
IsQuiet next (Staged version id) = next ≤ version
IsQuiet next (Classic version) = Unit {0}
IsQuiet next (V2 version id json) = Unit {0}
IsQuiet next (Part version part parts) = Unit {0}
IsQuiet next (Compacted first last) = Unit {0}
IsQuiet next (Sidecar name) = Unit {0}
IsQuiet next Hint = Unit {0}
IsQuiet next (Other path) = Unit {0}

pub quiet_adds : (h : List RatifiedCommit) (next : ℕ) (place : Place) (bytes : List ℕ) → IsQuiet next place → after_made h place bytes ≡ h
quiet_adds h next (Commit_at version) bytes quiet = absurd quiet
quiet_adds h next (Staged version id) bytes quiet = refl
quiet_adds h next (Classic version) bytes quiet = refl
quiet_adds h next (V2 version id json) bytes quiet = refl
quiet_adds h next (Part version part parts) bytes quiet = refl
quiet_adds h next (Compacted first last) bytes quiet = refl
quiet_adds h next (Sidecar name) bytes quiet = refl
quiet_adds h next Hint bytes quiet = refl
quiet_adds h next (Other path) bytes quiet = refl

quiet_made : (es : List Told) (path bytes : List ℕ) (stamp horizon : ℤ) → IsNone (object es path) → IsQuiet (next_version es) (place_of path)
    → Owes (Made path bytes stamp ∷ es) bytes horizon (place_of path) → Sound es horizon → Sound (Made path bytes stamp ∷ es) horizon
quiet_made es path bytes stamp horizon free quiet owes sound =
    let same : history (Made path bytes stamp ∷ es) ≡ history es = quiet_adds (history es) (next_version es) (place_of path) bytes quiet in
    let on = on_made es path bytes stamp free in
    goes_on es (Made path bytes stamp ∷ es) horizon on (step_made es path bytes stamp free horizon owes) sound
    (λ version name stands.
    let fine = sound.standings version name stands in
    StandsFine_on es (Made path bytes stamp ∷ es) on version name
    (λ id held holds. elim (found_made es path bytes stamp (Staged version id) held holds) [
      | inl (here, is) ↦ absurd (let high : next_version es ≤ version = subst (IsQuiet (next_version es)) here quiet in let below = fine.within in omega arith)
      | inr before ↦ before
    ])
    (λ id named there. elim there [
      | inl at ↦ inl (kept es path bytes stamp free (Commit_at version) at)
      | inr (above, at) ↦ inr (
        (λ other (held, holds). elim (found_made es path bytes stamp (Commit_at other) held holds) [
          | inl (here, is) ↦ absurd (let no : ⊥ = subst (IsQuiet (next_version es)) here quiet in no)
          | inr before ↦ above other (held, before)
        ]),
        kept es path bytes stamp free (Staged version id) at,
      )
    ])
    fine)
    (λ none. sound.unmanaged (ap (λ h. is_managed (state_of h)) (sym same) ∙ none))
    (λ version limit below floor. covered_made es path bytes stamp free version limit (sound.covered version limit (subst (λ h. version < length h) same below) floor))

-- a commit of the next version adds itself to the history
pub adds_itself : (es : List Told) (path bytes : List ℕ) (stamp : ℤ) (version : ℕ) → place_of path ≡ Commit_at version → (adds : AddsCommit es version bytes)
    → history (Made path bytes stamp ∷ es) ≡ history es ++ by_file adds.0 ∷ []
adds_itself es path bytes stamp version is adds =
    ap (λ (place : Place). after_made (history es) place bytes) is
    ∙ longer_is (history es) By_file version (commit_of bytes) adds.0 adds.1 (eq-eqb version (length (history es)) adds.2.next) (ap not adds.2.by_file)

-- the commit at the end of a history
last_commit : (h old : List RatifiedCommit) (commit : RatifiedCommit) (version : ℕ) (bytes : List ℕ) → h ≡ old ++ commit ∷ [] → version ≡ length old
    → commit_of bytes ≡ Some commit.actions → IsCommitOf h version bytes
last_commit h old commit version bytes is next means = record {
  commit = commit;
  stands = ap (λ l. slice_get l version) is ∙ ap (slice_get (old ++ commit ∷ [])) next ∙ slice_get-end old commit;
  means = means;
}

adds_soundly : (es : List Told) (path bytes : List ℕ) (stamp horizon : ℤ) (version : ℕ) → place_of path ≡ Commit_at version → IsNone (object es path)
    → AddsCommit es version bytes → Sound es horizon → Sound (Made path bytes stamp ∷ es) horizon
adds_soundly es path bytes stamp horizon version is free adds sound =
    let now = adds_itself es path bytes stamp version is adds in
    let fine : IsCommitOf (history (Made path bytes stamp ∷ es)) version bytes =
    last_commit (history (Made path bytes stamp ∷ es)) (history es) (by_file adds.0) version bytes now adds.2.next adds.1 in
    goes_on es (Made path bytes stamp ∷ es) horizon (on_made es path bytes stamp free)
    (step_made es path bytes stamp free horizon (subst (Owes (Made path bytes stamp ∷ es) bytes horizon) (sym is) fine)) sound
    (λ other name stands. absurd (let no : ◌≡◌ {A = Option (List ℕ)} None (Some name) = sym (sound.unmanaged adds.2.by_file other) ∙ stands in cc))
    (λ none. sound.unmanaged adds.2.by_file)
    (λ other limit below floor. elim (cases_lt other (next_version es)) [
      | inl less ↦ covered_made es path bytes stamp free other limit (sound.covered other limit less floor)
      | inr at_least ↦
          let long : length (history (Made path bytes stamp ∷ es)) ≡ length (history es) + 1 = ap length now ∙ length-append (history es) (by_file adds.0 ∷ []) in
          let next = adds.2.next in
          let same : version ≡ other = omega arith in
          inl (inl (bytes, made_here es path bytes stamp (Commit_at other) (is ∙ ap Commit_at same)))
    ])

-- of a version that isn't the next one nothing is added
not_next : (h : List RatifiedCommit) (way : Way) (version : ℕ) (found : Option (List Action)) → (version ≡ length h → ⊥) → longer h way version found ≡ h
not_next h way version None other = refl
not_next h way version (Some actions) other =
    ap (λ (test : Bool). if test && goes_on_by way (state_of h) then h ++ record { way = way; actions = actions } ∷ [] else h) (ne_eqb version (length h) other)

-- a version that stands ratified is in the history already
pub backfill_adds : (es : List Told) (path bytes : List ℕ) (stamp horizon : ℤ) (version : ℕ) → place_of path ≡ Commit_at version → Backfills es version bytes → Sound es horizon
    → history (Made path bytes stamp ∷ es) ≡ history es
backfill_adds es path bytes stamp horizon version is fills sound =
    let stood = sound.standings version fills.name fills.stands in
    ap (λ (place : Place). after_made (history es) place bytes) is
    ∙ not_next (history es) By_file version (commit_of bytes) (λ next. let below = stood.within in omega arith)

backfills : (es : List Told) (path bytes : List ℕ) (stamp horizon : ℤ) (version : ℕ) → place_of path ≡ Commit_at version → IsNone (object es path)
    → Backfills es version bytes → Sound es horizon → Sound (Made path bytes stamp ∷ es) horizon
backfills es path bytes stamp horizon version is free fills sound =
    let stood = sound.standings version fills.name fills.stands in
    let same = backfill_adds es path bytes stamp horizon version is fills sound in
    let staged : Present es (Staged version stood.id) = (elim (stood.there) [
      | inl at ↦ absurd (let most = fills.published.1 version at in let next = fills.next in omega arith)
      | inr (above, at) ↦ at
    ]) in
    let same_bytes : staged.0 ≡ bytes = (
    let both : Some staged.0 ≡ Some bytes =
    sym (held_at es (Staged version stood.id) staged.0 staged.1) ∙ ap (staged_bytes es) (sym stood.is_name) ∙ fills.staged in cc) in
    let fine : IsCommitOf (history es) version bytes = subst (IsCommitOf (history es) version) same_bytes (stood.content staged.0 staged.1) in
    let on = on_made es path bytes stamp free in
    let here : Present (Made path bytes stamp ∷ es) (Commit_at version) = (bytes, made_here es path bytes stamp (Commit_at version) is) in
    goes_on es (Made path bytes stamp ∷ es) horizon on
    (step_made es path bytes stamp free horizon (subst (Owes (Made path bytes stamp ∷ es) bytes horizon) (sym is) (IsCommitOf_on es (Made path bytes stamp ∷ es) on version bytes fine))) sound
    (λ other name stands. StandsFine_on es (Made path bytes stamp ∷ es) on other name
    (λ id held holds. elim (found_made es path bytes stamp (Staged other id) held holds) [
      | inl (at, is_bytes) ↦ absurd (let no : Commit_at version ≡ Staged other id = sym is ∙ at in cc)
      | inr before ↦ before
    ])
    (λ id named there. elim there [
      | inl at ↦ inl (kept es path bytes stamp free (Commit_at other) at)
      | inr (above, at) ↦ elim (cases_lt version other) [
        | inl less ↦ inr (
          (λ third (held, holds). elim (found_made es path bytes stamp (Commit_at third) held holds) [
            | inl (place, is_bytes) ↦ let places : Commit_at version ≡ Commit_at third = sym is ∙ place in let versions : version ≡ third = cc in (omega arith)
            | inr before ↦ above third (held, before)
          ]),
          kept es path bytes stamp free (Staged other id) at,
        )
        | inr at_most ↦ inl (subst (λ v. Present (Made path bytes stamp ∷ es) (Commit_at v))
            (let past : fills.last < other = above fills.last fills.published.0 in let next = fills.next in let e : version ≡ other = omega arith in e) here)
      ]
    ])
    (sound.standings other name stands))
    (λ none. sound.unmanaged (ap (λ h. is_managed (state_of h)) (sym same) ∙ none))
    (λ other limit below floor. covered_made es path bytes stamp free other limit (sound.covered other limit (subst (λ h. other < length h) same below) floor))

top_made : (es : List Told) (path bytes : List ℕ) (stamp horizon : ℤ) (place : Place) (version : ℕ) → IsNone (object es path) → Sound es horizon
    → MakesTop es place version bytes horizon → TopFine (Made path bytes stamp ∷ es) place version bytes horizon
top_made es path bytes stamp horizon place version free sound makes =
    TopFine_on es (Made path bytes stamp ∷ es) (on_made es path bytes stamp free) place version bytes horizon
    (λ name names side holds. kept_made es path bytes stamp (Sidecar name) side free holds)
    (record {
      published = makes.published;
      within = published_within es horizon sound version makes.published;
      top = makes.top;
      means = makes.means;
      sides = makes.sides;
      sides_mean = makes.sides_mean;
      stands = makes.stands;
      named = makes.named;
    })

by_place : (es : List Told) (path bytes : List ℕ) (stamp horizon : ℤ) (place : Place) → place_of path ≡ place → IsNone (object es path)
    → MayMake es place bytes horizon → Sound es horizon → Sound (Made path bytes stamp ∷ es) horizon
by_place es path bytes stamp horizon (Commit_at version) is free (inl adds) sound = adds_soundly es path bytes stamp horizon version is free adds sound
by_place es path bytes stamp horizon (Commit_at version) is free (inr fills) sound = backfills es path bytes stamp horizon version is free fills sound
by_place es path bytes stamp horizon (Classic version) is free may sound =
    quiet_made es path bytes stamp horizon free (subst (IsQuiet (next_version es)) (sym is) tt)
    (subst (Owes (Made path bytes stamp ∷ es) bytes horizon) (sym is) (top_made es path bytes stamp horizon (Classic version) version free sound may)) sound
by_place es path bytes stamp horizon (V2 version id json) is free may sound =
    quiet_made es path bytes stamp horizon free (subst (IsQuiet (next_version es)) (sym is) tt)
    (subst (Owes (Made path bytes stamp ∷ es) bytes horizon) (sym is) (top_made es path bytes stamp horizon (V2 version id json) version free sound may)) sound
by_place es path bytes stamp horizon (Part version part parts) is free may sound =
    quiet_made es path bytes stamp horizon free (subst (IsQuiet (next_version es)) (sym is) tt)
    (subst (Owes (Made path bytes stamp ∷ es) bytes horizon) (sym is) (PartFine_on es (Made path bytes stamp ∷ es) (on_made es path bytes stamp free) version part parts bytes horizon
    (record { published = may.published; within = published_within es horizon sound version may.published; share = may.share }))) sound
by_place es path bytes stamp horizon (Compacted first last) is free may sound =
    quiet_made es path bytes stamp horizon free (subst (IsQuiet (next_version es)) (sym is) tt)
    (subst (Owes (Made path bytes stamp ∷ es) bytes horizon) (sym is) (CompactedFine_on es (Made path bytes stamp ∷ es) (on_made es path bytes stamp free) first last bytes
    (record { longer = may.longer; within = published_within es horizon sound last may.published; actions = may.actions; means = may.means; sums = may.sums }))) sound
by_place es path bytes stamp horizon (Staged version id) is free may sound =
    quiet_made es path bytes stamp horizon free (subst (IsQuiet (next_version es)) (sym is) may) (subst (Owes (Made path bytes stamp ∷ es) bytes horizon) (sym is) tt) sound
by_place es path bytes stamp horizon (Sidecar name) is free may sound =
    quiet_made es path bytes stamp horizon free (subst (IsQuiet (next_version es)) (sym is) tt) (subst (Owes (Made path bytes stamp ∷ es) bytes horizon) (sym is) tt) sound
by_place es path bytes stamp horizon Hint is free may sound =
    quiet_made es path bytes stamp horizon free (subst (IsQuiet (next_version es)) (sym is) tt) (subst (Owes (Made path bytes stamp ∷ es) bytes horizon) (sym is) tt) sound
by_place es path bytes stamp horizon (Other other) is free may sound =
    quiet_made es path bytes stamp horizon free (subst (IsQuiet (next_version es)) (sym is) tt) (subst (Owes (Made path bytes stamp ∷ es) bytes horizon) (sym is) tt) sound

pub Sound-Made : (es : List Told) (path bytes : List ℕ) (stamp horizon : ℤ) → IsNone (object es path) → MayMake es (place_of path) bytes horizon
    → Sound es horizon → Sound (Made path bytes stamp ∷ es) horizon
Sound-Made es path bytes stamp horizon free may sound = by_place es path bytes stamp horizon (place_of path) refl free may sound
