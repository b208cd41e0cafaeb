-- Whoever has read a whole log that leads to a table that isn't managed has read the history, whatever was deleted.
use Rattle.std.proofs.Common.{◌≡◌, ℕ, ℤ, ◌<◌, ◌≤◌, ◌^◌, inl, inr, length, take, List, Option, Some, None, option_and_then, slice_get, refl, sym, ap, ◌∙◌, arith, true≢false}
use Rattle.std.proofs.lemmas.Bool.{cases_lt}
use Rattle.std.proofs.lemmas.Option.{slice_get_within, slice_get_past}
use Rattle.std.proofs.Math.Seq.{take-length}
use Rattle.dk_model.specs.declared.action.Action.{Action}
use Rattle.dk_model.specs.CommitText.{commit_of}
use Rattle.dk_model.specs.State.{fold}
use Rattle.dk_store.specs.Told.{Told}
use Rattle.dk_store.specs.Objects.{content}
use Rattle.dk_paths.specs.Names.{commit_path}
use Rattle.dk_paths.specs.Places.{Commit_at}
use Rattle.dk_paths.specs.Staged.{staged_name}
use Rattle.dk_lawful.specs.Present.{Present}
use Rattle.dk_lawful.specs.Managed.{is_managed}
use Rattle.dk_lawful.specs.History.{history, next_version, commits_of}
use Rattle.dk_lawful.specs.Lawful.{Lawful}
use Rattle.dk_lawful.specs.Laws.{IsWholeLog, ReadLogIsHistory}
use Rattle.dk_lawful.proofs.Lists.{same_elements, slice_get-within, slice_get-take, length-take-most}
use Rattle.dk_lawful.proofs.Standing.{commit_place, commit_small, held_at}
use Rattle.dk_lawful.proofs.Sound.{length_commits}
use Rattle.dk_lawful.proofs.Stays.{standing_commit_is_history, needed_stays, complete_is_published, ratified_is_managed}

some_bytes : (found : Option (List ℕ)) (commit : List Action) → option_and_then commit_of found ≡ Some commit → (bytes : List ℕ) × (found ≡ Some bytes) × (commit_of bytes ≡ Some commit)
some_bytes None commit is = absurd (let no : ◌≡◌ {A = Option (List Action)} None (Some commit) = is in cc)
some_bytes (Some bytes) commit is = (bytes, refl, is)

-- each commit that was read is the history's
each_read : (events : List Told) (horizon : ℤ) (log : List (List Action)) → Lawful events horizon → IsWholeLog events log → (version : ℕ) → version < length log
    → slice_get log version ≡ slice_get (commits_of (history events)) version
each_read events horizon log lawful is version below =
    let commit = slice_get-within log version below in
    let found = some_bytes (content events (commit_path version)) commit.0 (is.each version below ∙ commit.1) in
    let small : version < 2 ^ 63 = (let most = is.small in omega arith) in
    commit.1 ∙ sym found.2
    ∙ standing_commit_is_history events horizon lawful version found.0 (record { path = commit_path version; is_place = commit_place version small; has_bytes = found.1 })

-- what was read is a front of the history
read_front : (events : List Told) (horizon : ℤ) (log : List (List Action)) → Lawful events horizon → IsWholeLog events log → log ≡ take (length log) (commits_of (history events))
read_front events horizon log lawful is = same_elements log (take (length log) (commits_of (history events))) at
  where
    at : (version : ℕ) → slice_get log version ≡ slice_get (take (length log) (commits_of (history events))) version
    at version = elim (cases_lt version (length log)) [
      | inl less ↦ each_read events horizon log lawful is version less ∙ sym (slice_get-take (length log) (commits_of (history events)) version less)
      | inr past ↦ slice_get_past log version past
          ∙ sym (slice_get_past (take (length log) (commits_of (history events))) version (let most = length-take-most (length log) (commits_of (history events)) in omega arith))
    ]

-- no more can have been read than the history has
read_most : (events : List Told) (horizon : ℤ) (log : List (List Action)) → Lawful events horizon → IsWholeLog events log → length log ≤ next_version events
read_most events horizon log lawful is = elim (cases_lt (next_version events) (length log)) [
  | inl less ↦
      let commit = slice_get-within log (next_version events) less in
      let in_history : slice_get (commits_of (history events)) (next_version events) ≡ Some commit.0 =
      sym (each_read events horizon log lawful is (next_version events) less) ∙ commit.1 in
      let within = slice_get_within (commits_of (history events)) (next_version events) commit.0 in_history in
      let long = length_commits (history events) in
      absurd (omega arith)
  | inr most ↦ most
]

-- no version from the end of the log on stands
not_read : (events : List Told) (log : List (List Action)) → IsWholeLog events log → (version : ℕ) → length log ≤ version → Present events (Commit_at version) → ⊥
not_read events log is version past (held, holds) =
    let small = commit_small holds.path version holds.is_place in
    let none = is.last version past small in
    let no : ◌≡◌ {A = Option (List ℕ)} None (Some held) = sym none ∙ held_at events (Commit_at version) held holds in cc

-- were there more, the next would stand, be ratified, or lie below a version that stands
pub read_log_is_history : ReadLogIsHistory
read_log_is_history events horizon log lawful is unmanaged = elim (cases_lt (length log) (next_version events)) [
  | inl less ↦ elim (needed_stays events horizon lawful (length log) less) [
    | inl readable ↦ elim readable [
      | inl at ↦ absurd (not_read events log is (length log) (omega arith) at)
      | inr (id, stands, at) ↦ absurd (true≢false
          (sym (ratified_is_managed events horizon lawful (length log) (staged_name (length log) id) stands)
          ∙ ap (λ cs. is_managed (fold cs)) (sym (read_front events horizon log lawful is)) ∙ unmanaged))
    ]
    | inr (checkpoint, above, complete) ↦
        let published = complete_is_published events horizon lawful checkpoint complete in
        let past = published.1 in
        absurd (not_read events log is published.0 (omega arith) published.2)
  ]
  | inr at_least ↦
      let most = read_most events horizon log lawful is in
      let long = length_commits (history events) in
      let same : length log ≡ length (commits_of (history events)) = omega arith in
      read_front events horizon log lawful is ∙ ap (λ n. take n (commits_of (history events))) same ∙ take-length (commits_of (history events))
]
