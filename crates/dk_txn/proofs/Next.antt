-- What a commit comes after is the latest version, so the commit is the next one of the history.
use Rattle.std.proofs.Common.{◌≡◌, ℕ, zero, suc, ℤ, ◌+◌, ◌<◌, ◌^◌, Bool, true, false, List, [], ◌∷◌, length, refl, ap, ap₂, sym, subst, ◌∙◌, arith}
use Rattle.std.specs.Prelude.{Option, Some, None, Result, Ok, Err, IsNone, ◌==◌, if◌then◌else◌}
use Rattle.std.proofs.lemmas.List.{take_all}
use Rattle.dk_store.specs.Told.{Told}
use Rattle.dk_store.specs.Objects.{object}
use Rattle.dk_model.specs.declared.action.Action.{Action}
use Rattle.dk_model.specs.declared.state.TableState.{TableState}
use Rattle.dk_model.specs.State.{empty_state, steps, fold}
use Rattle.dk_paths.specs.Names.{commit_path}
use Rattle.dk_paths.specs.Numbers.{id_text}
use Rattle.dk_engine.specs.declared.limits.Limits.{Limits}
use Rattle.dk_engine.specs.declared.limits.Which.TheVariants as which
use Rattle.dk_engine.specs.declared.refusal.Refusal.{Refusal}
use Rattle.dk_engine.specs.declared.refusal.Refusal.TheVariants as refusals
use Rattle.dk_lawful.specs.Managed.{is_managed}
use Rattle.dk_lawful.specs.History.{RatifiedCommit, commits_of, history, next_version, state_of, table, table_at}
use Rattle.dk_lawful.specs.Lawful.{Lawful}
use Rattle.dk_lawful.specs.Rules.{first_broken}
use Rattle.dk_lawful.specs.SoFar.{HasNeither, first_broken_so_far}
use Rattle.dk_lawful.specs.Timestamps.{last_timestamp}
use Rattle.dk_lawful.specs.Transacted.{transacted}
use Rattle.dk_lawful.proofs.Sound.{length_commits}
use Rattle.dk_lawful.proofs.Transacted.{transacted_plainly}
use Rattle.dk_listing.specs.OfEvents.{latest}
use Rattle.dk_snapshot.specs.declared.table.Snapshot.{Snapshot}
use Rattle.dk_snapshot.specs.Opening.{usual_choice, opened}
use Rattle.dk_snapshot.specs.LawfulOpens.{last_of}
use Rattle.dk_snapshot.specs.Steps.{fits, if_fits}
use Rattle.dk_snapshot.proofs.KeptVersions.{last_read}
use Rattle.dk_snapshot.proofs.LastVersion.{latest_is_last}
use Rattle.dk_snapshot.proofs.LawfulOpens.{opened_is_asked, opened_is_table}
use Rattle.dk_txn.specs.declared.start.Start.{Start}
use Rattle.dk_txn.specs.Attempt.{last_version, after_snapshot, start_after, start, unbuilt, unsupported, verdict, own_commit, commit_text, Writing, written_after, if_allowed, if_within, attempt_from, attempt}
use Rattle.dk_txn.specs.Commits.{ComesNext}
use Rattle.dk_txn.specs.FitLaws.{AttemptsAreTransacted}
use Rattle.dk_txn.proofs.Headed.{opened_headed}
use Rattle.dk_txn.proofs.NotAbove.{free_above}
use Rattle.dk_txn.proofs.RulesOfLaw.{none_has_neither, supported_has_neither, is_supported, keeps_law, kept_has_neither, says_no_times}

-- ---- what a commit comes after

-- nothing stands at its path, and on a lawful log it is the whole history
record Started (events : List Told) (from : Start) : Type 0 where
  free : IsNone (object events (commit_path from.version))
  next : (horizon : ℤ) → Lawful events horizon → from.version ≡ next_version events
  before : (horizon : ℤ) → Lawful events horizon → from.before ≡ table events
  neither : unsupported from.before ≡ None → HasNeither from.before.protocol

-- the table at the last version of the history is the table
table_there : (events : List Told) (version : ℕ) → version + 1 ≡ next_version events → table_at events version ≡ table events
table_there events version last =
    let long = length_commits (history events) in
    ap fold (take_all (version + 1) (commits_of (history events)) (omega (arith, last, long)))

none_begun : (count : ℕ) → last_of count ≡ None → count ≡ 0
none_begun zero none = refl
none_begun (suc version) some = absurd (let no : ◌≡◌ {A = Option ℕ} (Some version) None = some in cc)

pub no_commits : (h : List RatifiedCommit) → length h ≡ 0 → empty_state ≡ state_of h
no_commits [] none = refl
no_commits (c ∷ h) none = absurd (omega (arith, none))

started : (events : List Told) (limits : Limits) (now : ℤ) (from : Start) → start events limits now ≡ Ok from → from.version < 2 ^ 63 → Started events from
started events limits now from is small = by (latest events) refl is
  where
    after : (last : ℕ) (snapshot : Result Snapshot Refusal) → latest events ≡ Some last → opened events limits None usual_choice now ≡ snapshot → after_snapshot snapshot ≡ Ok from → Started events from
    after last (Err refusal) top opens starts = cc
    after last (Ok snapshot) top opens starts =
        let next : from.version ≡ snapshot.version + 1 = cc in
        let state : from.before ≡ snapshot.state = cc in
        let at : last ≡ snapshot.version = last_read events limits usual_choice now last snapshot top opens in
        let asks : (horizon : ℤ) → Lawful events horizon → snapshot.version + 1 ≡ next_version events =
        λ horizon lawful. (opened_is_asked events horizon limits None usual_choice now snapshot lawful opens).0 in
        record {
          free = free_above events (Some last) from.version top small (λ most. omega (arith, next, at));
          next = λ horizon lawful. next ∙ asks horizon lawful;
          before = λ horizon lawful. state ∙ opened_is_table events horizon limits None usual_choice now snapshot lawful opens ∙ table_there events snapshot.version (asks horizon lawful);
          neither = subst (λ (s : TableState). unsupported s ≡ None → HasNeither s.protocol) (sym state)
              (supported_has_neither [] snapshot.state (opened_headed events limits now last snapshot [] top opens));
        }

    at_last : (last : ℕ) (test : Bool) → latest events ≡ Some last → (if test then Err (refusals.Limit which.Version last_version) else after_snapshot (opened events limits None usual_choice now)) ≡ Ok from → Started events from
    at_last last true top starts = cc
    at_last last false top starts = after last (opened events limits None usual_choice now) top refl starts

    by : (last : Option ℕ) → latest events ≡ last → start_after events limits now last ≡ Ok from → Started events from
    by None top starts =
        let first : 0 ≡ from.version = cc in
        let empty : empty_state ≡ from.before = cc in
        let none : (horizon : ℤ) → Lawful events horizon → next_version events ≡ 0 = λ horizon lawful. none_begun (next_version events) (sym (latest_is_last events horizon lawful) ∙ top) in
        record {
          free = free_above events None from.version top small (λ most. most);
          next = λ horizon lawful. sym first ∙ sym (none horizon lawful);
          before = λ horizon lawful. sym empty ∙ no_commits (history events) (none horizon lawful);
          neither = subst (λ (s : TableState). unsupported s ≡ None → HasNeither s.protocol) empty (λ none. none_has_neither);
        }
    by (Some last) top starts = at_last last (last == last_version) top starts

-- ---- the commit comes next

comes_next : (events : List Told) (from : Start) (actions : List Action) (id : ℕ) → Started events from → unbuilt from.before actions ≡ None
    → first_broken_so_far from.before from.version (own_commit id actions) ≡ None → ComesNext from.version (own_commit id actions) events
comes_next events from actions id begun none rules horizon lawful =
    let state : from.before ≡ table events = begun.before horizon lawful in
    let neither : HasNeither from.before.protocol = begun.neither (is_supported from.before actions none) in
    let commits : List (List Action) = commits_of (history events) in
    let count : from.version ≡ length commits = begun.next horizon lawful ∙ sym (length_commits (history events)) in
    record {
      next = begun.next horizon lawful;
      by_file = ap (λ s. is_managed s) (sym state) ∙ neither.unmanaged;
      valid = ap₂ (λ (s : TableState) (v : ℕ). first_broken s (last_timestamp commits) v (own_commit id actions)) (sym state) (sym count)
          ∙ keeps_law from.before (last_timestamp commits) from.version actions id neither none rules;
    }

-- what an attempt is to write goes to a free path and comes next
pub record Next (events : List Told) (actions : List Action) (id : ℕ) (writing : Writing) : Type 0 where
  pub free : IsNone (object events (commit_path writing.version))
  pub comes : ComesNext writing.version (own_commit id actions) events
  pub law : (moment horizon : ℤ) → Lawful events horizon → transacted (commits_of (history events)) moment (id_text id) actions ≡ own_commit id actions

pub within_is : (fit : Result (Unit {0}) Refusal) (meant writing : Writing) → if_fits fit (Ok meant) ≡ Ok writing → meant ≡ writing
within_is (Ok u) meant writing is = cc
within_is (Err refusal) meant writing is = cc

pub attempt_next : (events : List Told) (limits : Limits) (actions : List Action) (now : ℤ) (id : ℕ) (writing : Writing) → writing.version < 2 ^ 63 → attempt events limits actions now id ≡ Ok writing → Next events actions id writing
attempt_next events limits actions now id writing small is = by (start events limits now) refl is
  where
    by_verdict : (from : Start) (name : Option (List ℕ)) (broken : Option ℕ) → start events limits now ≡ Ok from → unbuilt from.before actions ≡ name
        → first_broken_so_far from.before from.version (own_commit id actions) ≡ broken → if_allowed (verdict name broken) (if_within limits.object (written_after from (commit_text id now actions))) ≡ Ok writing → Next events actions id writing
    by_verdict from (Some name) broken starts supports rules meant = cc
    by_verdict from None (Some rule) starts supports rules meant = cc
    by_verdict from None None starts supports rules meant =
        let same : written_after from (commit_text id now actions) ≡ writing = within_is (fits limits.object (Some (length (commit_text id now actions)))) (written_after from (commit_text id now actions)) writing meant in
        let at : from.version ≡ writing.version = ap (λ (w : Writing). w.version) same in
        let begun : Started events from = started events limits now from starts (omega arith) in
        record {
          free = subst (λ v. IsNone (object events (commit_path v))) at begun.free;
          comes = subst (λ v. ComesNext v (own_commit id actions) events) at (comes_next events from actions id begun supports rules);
          law = λ moment horizon lawful. transacted_plainly (commits_of (history events)) moment (id_text id) actions
              (says_no_times (steps (table events) actions)
              (subst (λ (s : TableState). HasNeither (steps s actions).protocol) (begun.before horizon lawful) (kept_has_neither from.before from.version actions id rules)));
        }

    by : (begun : Result Start Refusal) → start events limits now ≡ begun → attempt_from begun limits actions now id ≡ Ok writing → Next events actions id writing
    by (Err refusal) starts meant = cc
    by (Ok from) starts meant = by_verdict from (unbuilt from.before actions) (first_broken_so_far from.before from.version (own_commit id actions)) starts refl refl meant

pub attempts_are_transacted : AttemptsAreTransacted
attempts_are_transacted events horizon limits actions now id writing lawful small is = (attempt_next events limits actions now id writing small is).law now horizon lawful
