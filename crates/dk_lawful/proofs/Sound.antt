-- What holds of each lawful log, as one record, and how it goes on over an event.
use Rattle.std.proofs.Common.{◌≡◌, ℕ, ℤ, ◌+◌, ◌<◌, ◌≤◌, true, false, ◌⊎◌, inl, inr, length, take, drop, List, [], ◌∷◌, ◌++◌, Option, Some, None, slice_get, refl, sym, ap, subst, ◌∙◌, arith, length-append}
use Rattle.std.proofs.lemmas.List.{length-map, map-append, take-append-le}
use Rattle.std.proofs.lemmas.Option.{slice_get_within}
use Rattle.dk_model.specs.declared.action.Action.{Action}
use Rattle.dk_model.specs.CommitText.{commit_of}
use Rattle.dk_model.specs.State.{fold}
use Rattle.dk_store.specs.Told.{Told}
use Rattle.dk_store.specs.Standings.{standing}
use Rattle.dk_paths.specs.Places.{Place, Commit_at, Classic, Part, V2, Compacted, Sidecar, Staged, place_of, place_path}
use Rattle.dk_paths.specs.Staged.{staged_name}
use Rattle.dk_lawful.specs.Present.{Holds, Present, AtMostPublished, Available, Complete}
use Rattle.dk_lawful.specs.Managed.{is_managed}
use Rattle.dk_lawful.specs.History.{RatifiedCommit, history, next_version, commits_of, table, table_at, table_before}
use Rattle.dk_lawful.specs.Floor.{HasBetween, FromFloor}
use Rattle.dk_lawful.specs.Agree.{Stands, SumsCommits}
use Rattle.dk_lawful.specs.Checkpoints.{Top, TopMeans, IsTopOf, SidesMean, Among, NamesSidecar, IsShare}
use Rattle.dk_lawful.proofs.Lists.{slice_get-append}
use Rattle.dk_lawful.proofs.Structure.{GrowsByOne}

-- the bytes are those of the history's commit of this version
pub record IsCommitOf (h : List RatifiedCommit) (version : ℕ) (bytes : List ℕ) : Type 0 where
  pub commit : RatifiedCommit
  pub stands : slice_get h version ≡ Some commit
  pub means : commit_of bytes ≡ Some commit.actions

-- the version is above each that is published
abbrev pub IsAbovePublished : List Told → ℕ → Type 0
IsAbovePublished es version = (other : ℕ) → Present es (Commit_at other) → other < version

-- A ratification that stands. Its commit is in the log, or it is above all that are and its staged commit stands.
pub record StandsFine (es : List Told) (version : ℕ) (name : List ℕ) : Type 0 where
  pub id : ℕ
  pub is_name : name ≡ staged_name version id
  pub placed : place_of (place_path (Staged version id)) ≡ Staged version id
  pub within : version < next_version es
  pub managed_before : is_managed (table_before es version) ≡ true
  pub content : (bytes : List ℕ) → Holds es (Staged version id) bytes → IsCommitOf (history es) version bytes
  pub there : Present es (Commit_at version) ⊎ (IsAbovePublished es version × Present es (Staged version id))

pub record TopFine (es : List Told) (place : Place) (version : ℕ) (bytes : List ℕ) (horizon : ℤ) : Type 0 where
  pub published : AtMostPublished es version
  pub within : version < next_version es
  pub top : Top
  pub means : TopMeans place bytes top
  pub sides : List Action
  pub sides_mean : SidesMean es top.sidecars sides
  pub stands : Stands (top.actions ++ sides) (table_at es version) horizon
  pub named : (name : List ℕ) → NamesSidecar place bytes name → Present es (Sidecar name)

pub record PartFine (es : List Told) (version part parts : ℕ) (bytes : List ℕ) (horizon : ℤ) : Type 0 where
  pub published : AtMostPublished es version
  pub within : version < next_version es
  pub share : IsShare bytes (table_at es version) part parts horizon

pub record CompactedFine (es : List Told) (first last : ℕ) (bytes : List ℕ) : Type 0 where
  pub longer : first < last
  pub within : last < next_version es
  pub actions : List Action
  pub means : commit_of bytes ≡ Some actions
  pub sums : SumsCommits actions (drop first (take (last + 1) (commits_of (history es))))

pub record Sound (es : List Told) (horizon : ℤ) : Type 0 where
  pub commits : (version : ℕ) (bytes : List ℕ) → Holds es (Commit_at version) bytes → IsCommitOf (history es) version bytes
  pub standings : (version : ℕ) (name : List ℕ) → standing es version ≡ Some name → StandsFine es version name
  pub unmanaged : is_managed (table es) ≡ false → (version : ℕ) → standing es version ≡ None
  pub covered : (version kept : ℕ) → version < next_version es → FromFloor es kept → Available es version ⊎ HasBetween es version kept
  pub tops : (place : Place) (version : ℕ) → IsTopOf place version → (bytes : List ℕ) → Holds es place bytes → TopFine es place version bytes horizon
  pub parts : (version part parts : ℕ) (bytes : List ℕ) → Holds es (Part version part parts) bytes → PartFine es version part parts bytes horizon
  pub compacts : (first last : ℕ) (bytes : List ℕ) → Holds es (Compacted first last) bytes → CompactedFine es first last bytes

-- ---- the history has more at its end

-- what an event keeps
pub record Onward (es later : List Told) : Type 0 where
  pub grown : GrowsByOne (history es) (history later)
  pub published : (version : ℕ) → AtMostPublished es version → AtMostPublished later version

pub length_commits : (h : List RatifiedCommit) → length (commits_of h) ≡ length h
length_commits h = length-map h (λ (c : RatifiedCommit). c.actions)

pub longer_length : (es later : List Told) (on : Onward es later) (version : ℕ) → version < next_version es → version < next_version later
longer_length es later on version below =
    let long : length (history later) ≡ length (history es) + length on.grown.more = ap length on.grown.is ∙ length-append (history es) on.grown.more in
    omega arith

pub same_front : (es later : List Told) (on : Onward es later) (count : ℕ) → count ≤ next_version es
    → take count (commits_of (history later)) ≡ take count (commits_of (history es))
same_front es later on count within =
    ap (λ h. take count (commits_of h)) on.grown.is
    ∙ ap (take count) (map-append (λ (c : RatifiedCommit). c.actions) (history es) on.grown.more)
    ∙ take-append-le count (commits_of (history es)) (commits_of on.grown.more) (let long = length_commits (history es) in omega arith)

pub IsCommitOf_on : (es later : List Told) (on : Onward es later) (version : ℕ) (bytes : List ℕ) → IsCommitOf (history es) version bytes → IsCommitOf (history later) version bytes
IsCommitOf_on es later on version bytes fine = record {
  commit = fine.commit;
  stands = ap (λ h. slice_get h version) on.grown.is ∙ slice_get-append (history es) on.grown.more version fine.commit fine.stands;
  means = fine.means;
}

-- ---- what stood before

-- the sidecars of these names stay
abbrev pub KeepsSides : List Told → List Told → Place → List ℕ → Type 0
KeepsSides es later place bytes = (name : List ℕ) → NamesSidecar place bytes name → (side : List ℕ) → Holds es (Sidecar name) side → Holds later (Sidecar name) side

SidesMean_on : (es later : List Told) (names : List (List ℕ)) (actions : List Action)
    → ((name : List ℕ) → Among name names → (side : List ℕ) → Holds es (Sidecar name) side → Holds later (Sidecar name) side) → SidesMean es names actions → SidesMean later names actions
SidesMean_on es later [] actions keep mean = mean
SidesMean_on es later (name ∷ names) actions keep mean =
    (mean.0, mean.1, mean.2, keep name (inl refl) mean.0 mean.3, mean.4, SidesMean_on es later names mean.2 (λ other among. keep other (inr among)) mean.5, mean.6)

pub TopFine_on : (es later : List Told) (on : Onward es later) (place : Place) (version : ℕ) (bytes : List ℕ) (horizon : ℤ) → KeepsSides es later place bytes
    → TopFine es place version bytes horizon → TopFine later place version bytes horizon
TopFine_on es later on place version bytes horizon keep fine = record {
  published = on.published version fine.published;
  within = longer_length es later on version fine.within;
  top = fine.top;
  means = fine.means;
  sides = fine.sides;
  sides_mean = SidesMean_on es later fine.top.sidecars fine.sides (λ name among. keep name (fine.top, fine.means, among)) fine.sides_mean;
  stands = subst (λ cs. Stands (fine.top.actions ++ fine.sides) (fold cs) horizon) (sym (same_front es later on (version + 1) (let below = fine.within in omega arith))) fine.stands;
  named = λ name names. let side = fine.named name names in (side.0, keep name names side.0 side.1);
}

pub PartFine_on : (es later : List Told) (on : Onward es later) (version part parts : ℕ) (bytes : List ℕ) (horizon : ℤ)
    → PartFine es version part parts bytes horizon → PartFine later version part parts bytes horizon
PartFine_on es later on version part parts bytes horizon fine = record {
  published = on.published version fine.published;
  within = longer_length es later on version fine.within;
  share = subst (λ cs. IsShare bytes (fold cs) part parts horizon) (sym (same_front es later on (version + 1) (let below = fine.within in omega arith))) fine.share;
}

pub CompactedFine_on : (es later : List Told) (on : Onward es later) (first last : ℕ) (bytes : List ℕ) → CompactedFine es first last bytes → CompactedFine later first last bytes
CompactedFine_on es later on first last bytes fine = record {
  longer = fine.longer;
  within = longer_length es later on last fine.within;
  actions = fine.actions;
  means = fine.means;
  sums = subst (λ cs. SumsCommits fine.actions (drop first cs)) (sym (same_front es later on (last + 1) (let below = fine.within in omega arith))) fine.sums;
}

-- a ratification that stood: its staged commit is no other now, and where it was needed it is there
pub StandsFine_on : (es later : List Told) (on : Onward es later) (version : ℕ) (name : List ℕ)
    → ((id : ℕ) (bytes : List ℕ) → Holds later (Staged version id) bytes → Holds es (Staged version id) bytes)
    → ((id : ℕ) → name ≡ staged_name version id → Present es (Commit_at version) ⊎ (IsAbovePublished es version × Present es (Staged version id))
    → Present later (Commit_at version) ⊎ (IsAbovePublished later version × Present later (Staged version id)))
    → StandsFine es version name → StandsFine later version name
StandsFine_on es later on version name back there fine = record {
  id = fine.id;
  is_name = fine.is_name;
  placed = fine.placed;
  within = longer_length es later on version fine.within;
  managed_before = ap (λ cs. is_managed (fold cs)) (same_front es later on version (let below = fine.within in omega arith)) ∙ fine.managed_before;
  content = λ bytes holds. IsCommitOf_on es later on version bytes (fine.content bytes (back fine.id bytes holds));
  there = there fine.id fine.is_name fine.there;
}

-- what an event changes of the objects: each stood before, or is new and fine
pub record Step (es later : List Told) (horizon : ℤ) : Type 0 where
  pub commits : (version : ℕ) (bytes : List ℕ) → Holds later (Commit_at version) bytes → Holds es (Commit_at version) bytes ⊎ IsCommitOf (history later) version bytes
  pub tops : (place : Place) (version : ℕ) → IsTopOf place version → (bytes : List ℕ) → Holds later place bytes → Holds es place bytes ⊎ TopFine later place version bytes horizon
  pub parts : (version part parts : ℕ) (bytes : List ℕ) → Holds later (Part version part parts) bytes
      → Holds es (Part version part parts) bytes ⊎ PartFine later version part parts bytes horizon
  pub compacts : (first last : ℕ) (bytes : List ℕ) → Holds later (Compacted first last) bytes → Holds es (Compacted first last) bytes ⊎ CompactedFine later first last bytes
  pub sides : (place : Place) (version : ℕ) → IsTopOf place version → (bytes : List ℕ) → Holds es place bytes → KeepsSides es later place bytes

module _ (es later : List Told) (horizon : ℤ) (on : Onward es later) (step : Step es later horizon) (sound : Sound es horizon) where
  commits_on : (version : ℕ) (bytes : List ℕ) → Holds later (Commit_at version) bytes → IsCommitOf (history later) version bytes
  commits_on version bytes holds = elim (step.commits version bytes holds) [
    | inl before ↦ IsCommitOf_on es later on version bytes (sound.commits version bytes before)
    | inr new ↦ new
  ]

  tops_on : (place : Place) (version : ℕ) → IsTopOf place version → (bytes : List ℕ) → Holds later place bytes → TopFine later place version bytes horizon
  tops_on place version is bytes holds = elim (step.tops place version is bytes holds) [
    | inl before ↦ TopFine_on es later on place version bytes horizon (step.sides place version is bytes before) (sound.tops place version is bytes before)
    | inr new ↦ new
  ]

  parts_on : (version part parts : ℕ) (bytes : List ℕ) → Holds later (Part version part parts) bytes → PartFine later version part parts bytes horizon
  parts_on version part parts bytes holds = elim (step.parts version part parts bytes holds) [
    | inl before ↦ PartFine_on es later on version part parts bytes horizon (sound.parts version part parts bytes before)
    | inr new ↦ new
  ]

  compacts_on : (first last : ℕ) (bytes : List ℕ) → Holds later (Compacted first last) bytes → CompactedFine later first last bytes
  compacts_on first last bytes holds = elim (step.compacts first last bytes holds) [
    | inl before ↦ CompactedFine_on es later on first last bytes (sound.compacts first last bytes before)
    | inr new ↦ new
  ]

  pub goes_on : ((version : ℕ) (name : List ℕ) → standing later version ≡ Some name → StandsFine later version name)
      → (is_managed (table later) ≡ false → (version : ℕ) → standing later version ≡ None)
      → ((version kept : ℕ) → version < next_version later → FromFloor later kept → Available later version ⊎ HasBetween later version kept)
      → Sound later horizon
  goes_on standings unmanaged covered = record {
    commits = commits_on;
    standings = standings;
    unmanaged = unmanaged;
    covered = covered;
    tops = tops_on;
    parts = parts_on;
    compacts = compacts_on;
  }

-- ---- what follows of each lawful log

-- of a complete checkpoint some object stands, so its version is published
pub Complete-published : (es : List Told) (horizon : ℤ) → Sound es horizon → (version : ℕ) → Complete es version → AtMostPublished es version
Complete-published es horizon sound version (inl at) = (sound.tops (Classic version) version refl at.0 at.1).published
Complete-published es horizon sound version (inr (inl at)) = (sound.tops (V2 version at.0 at.1.0) version refl at.1.1.0 at.1.1.1).published
Complete-published es horizon sound version (inr (inr at)) =
    let one = at.2 1 (omega arith) at.1 in
    (sound.parts version 1 at.0 one.0 one.1).published

pub published_within : (es : List Told) (horizon : ℤ) → Sound es horizon → (version : ℕ) → AtMostPublished es version → version < next_version es
published_within es horizon sound version (last, most, at) =
    let fine = sound.commits last at.0 at.1 in
    let below : last < length (history es) = slice_get_within (history es) last fine.commit fine.stands in
    omega arith

nothing_held : (place : Place) (bytes : List ℕ) → Holds [] place bytes → ⊥
nothing_held place bytes holds = let no : ◌≡◌ {A = Option (List ℕ)} None (Some bytes) = holds.has_bytes in cc

pub Sound-none : (horizon : ℤ) → Sound [] horizon
Sound-none horizon = record {
  commits = λ version bytes holds. absurd (nothing_held (Commit_at version) bytes holds);
  standings = λ version name stands. absurd (let no : ◌≡◌ {A = Option (List ℕ)} None (Some name) = stands in cc);
  unmanaged = λ none version. refl;
  covered = λ version kept below floor. absurd (omega arith);
  tops = λ place version is bytes holds. absurd (nothing_held place bytes holds);
  parts = λ version part parts bytes holds. absurd (nothing_held (Part version part parts) bytes holds);
  compacts = λ first last bytes holds. absurd (nothing_held (Compacted first last) bytes holds);
}
