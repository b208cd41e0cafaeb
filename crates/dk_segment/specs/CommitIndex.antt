-- A listing as sets and a map of versions.
use Rattle.std.specs.Prelude.{ℕ, ◌≡◌, Bool, false, Option, List, option_map, map}
use Rattle.std.specs.Borrow.{Bor}
use Rattle.std.specs.Ordering.{nat_cmp, ordering_then}
use Rattle.std.specs.declared.cmp.Ordering.{Ordering}
use Rattle.std.specs.BTreeSet.{BTreeSet, contains}
use Rattle.std.specs.BTreeMap.{BTreeMap, get}
use Rattle.dk_store.specs.declared.event.Ratification.{Ratification}
use Rattle.dk_store.specs.Views.{ratification}
use Rattle.dk_paths.specs.Places.{Place, Commit_at, Staged}
use Rattle.dk_listing.specs.declared.catalogued.Catalogued.{Catalogued}
use Rattle.dk_listing.specs.declared.named.Named.{Named}
use Rattle.dk_listing.specs.declared.named.Staged as entries
use Rattle.dk_listing.specs.Presence.{lists_in_log, lists_staged, name_at}
use Rattle.dk_segment.specs.declared.commit_index.CommitIndex.{CommitIndex}

-- by version, then by UUID
abbrev pub staged_cmp : ℕ × ℕ → ℕ × ℕ → Ordering
staged_cmp x y = ordering_then (nat_cmp x.0 y.0) (nat_cmp x.1 y.1)

-- the set has the versions whose commits are listed
abbrev pub HasCommits : BTreeSet ℕ → List Named → Type 0
HasCommits set log = (version : ℕ) → contains nat_cmp set version ≡ lists_in_log log (Commit_at version)

-- the set has the staged commits that are listed
abbrev pub HasStagedCommits : BTreeSet (ℕ × ℕ) → List entries.Staged → Type 0
HasStagedCommits set staged = (version id : ℕ) → contains staged_cmp set (version, id) ≡ lists_staged staged version id

-- the name that a map has at a version
abbrev pub name_for_version : BTreeMap ℕ (Bor (List ℕ)) → ℕ → Option (List ℕ)
name_for_version names version = option_map (λ name. name.now) (get nat_cmp names version)

-- the map has the name under which each version stands ratified
abbrev pub HasRatifiedNames : BTreeMap ℕ (Bor (List ℕ)) → List Ratification → Type 0
HasRatifiedNames names ratified = (version : ℕ) → name_for_version names version ≡ name_at (map ratification ratified) version

-- the places that are listed with an object
abbrev pub has_place : CommitIndex → Place → Bool
has_place commits (Commit_at version) = contains nat_cmp commits.published version
has_place commits (Staged version id) = contains staged_cmp commits.staged (version, id)
has_place commits _ = false

abbrev pub name_ratified_for : CommitIndex → ℕ → Option (List ℕ)
name_ratified_for commits version = name_for_version commits.ratified version

-- all of it is that of the listing
pub record IsIndexOf (commits : CommitIndex) (listing : Catalogued) : Type 0 where
  pub published : HasCommits commits.published listing.log.items
  pub staged : HasStagedCommits commits.staged listing.staged.items
  pub ratified : HasRatifiedNames commits.ratified listing.ratified.items
