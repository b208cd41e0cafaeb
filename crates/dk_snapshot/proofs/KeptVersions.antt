-- Which versions open.
use Rattle.std.proofs.Common.{◌≡◌, ℕ, ℤ, ◌<◌, ◌≤◌, List, refl, ap, sym, subst, ◌∙◌, Bool}
use Rattle.std.specs.Prelude.{Option, Some, None, Result, Ok, Err, if◌then◌else◌}
use Rattle.std.proofs.lemmas.Bool.{le-leb, lt-leb}
use Rattle.dk_store.specs.Told.{Told}
use Rattle.dk_store.specs.Standings.{standing}
use Rattle.dk_model.specs.declared.state.TableState.{TableState}
use Rattle.dk_lawful.specs.declared.segment.Choice.{Choice}
use Rattle.dk_lawful.specs.declared.segment.Segment.{Segment}
use Rattle.dk_lawful.specs.Segments.{HasAllCommits, commit_gap, commit_segment}
use Rattle.dk_engine.specs.declared.limits.Limits.{Limits}
use Rattle.dk_engine.specs.declared.refusal.Refusal.{Refusal}
use Rattle.dk_engine.specs.declared.refusal.Refusal.TheVariants.{Missing, NoVersion}
use Rattle.dk_listing.specs.OfEvents.{stands_at, latest}
use Rattle.dk_segment.specs.Chosen.{unless_gap}
use Rattle.dk_snapshot.specs.declared.table.Snapshot.{Snapshot}
use Rattle.dk_snapshot.specs.Asked.{version_asked}
use Rattle.dk_snapshot.specs.Opening.{snapshot_with, read_of, opened_chosen, opened_version, opened_asked, opened}
use Rattle.dk_snapshot.proofs.Values.{OpenedIsKept, NotKeptIsMissing}

-- the version of what is answered
pub read_at : (version : ℕ) (segment : Segment) (read : Result (TableState × ℤ) Refusal) (snapshot : Snapshot) → snapshot_with version segment read ≡ Ok snapshot → version ≡ snapshot.version
read_at version segment (Ok read) snapshot is = by (ok_same is)
  where
    made : Snapshot
    made = record { version = version; state = read.0; cut = read.1; segment = segment }

    ok_same : ◌≡◌ {A = Result Snapshot Refusal} (Ok made) (Ok snapshot) → made ≡ snapshot
    ok_same e = cc

    by : made ≡ snapshot → version ≡ snapshot.version
    by e = ap (λ (s : Snapshot). s.version) e
read_at version segment (Err refusal) snapshot is = absurd (let fails : ◌≡◌ {A = Result Snapshot Refusal} (Err refusal) (Ok snapshot) = is in cc)

-- it is the one that was opened, and the latest where none is asked for
pub version_read : (events : List Told) (limits : Limits) (choice : Choice) (now : ℤ) (version : ℕ) (snapshot : Snapshot) → opened_version events limits choice now version ≡ Ok snapshot → version ≡ snapshot.version
version_read events limits choice now version snapshot is = by (commit_gap (stands_at events) (standing events) version choice) is
  where
    segment : Segment
    segment = commit_segment (stands_at events) (standing events) version choice

    by : (gap : Option (List ℕ)) → opened_chosen events limits now version (unless_gap segment gap) ≡ Ok snapshot → version ≡ snapshot.version
    by None opens = read_at version segment (read_of events limits now segment) snapshot opens
    by (Some path) opens = absurd (let fails : ◌≡◌ {A = Result Snapshot Refusal} (Err (Missing path)) (Ok snapshot) = opens in cc)

pub last_read : (events : List Told) (limits : Limits) (choice : Choice) (now : ℤ) (last : ℕ) (snapshot : Snapshot) → latest events ≡ Some last → opened events limits None choice now ≡ Ok snapshot → last ≡ snapshot.version
last_read events limits choice now last snapshot top opens =
    version_read events limits choice now last snapshot (sym (ap (λ (l : Option ℕ). opened_asked events limits choice now (version_asked None l)) top) ∙ opens)

version_kept : (events : List Told) (limits : Limits) (choice : Choice) (now : ℤ) (version : ℕ) (snapshot : Snapshot) (gap : Option (List ℕ)) → commit_gap (stands_at events) (standing events) version choice ≡ gap
    → opened_chosen events limits now version (unless_gap (commit_segment (stands_at events) (standing events) version choice) gap) ≡ Ok snapshot
    → HasAllCommits (stands_at events) (standing events) snapshot.version choice
version_kept events limits choice now version snapshot None none is =
    let segment : Segment = commit_segment (stands_at events) (standing events) version choice in
    subst (λ (v : ℕ). HasAllCommits (stands_at events) (standing events) v choice) (read_at version segment (read_of events limits now segment) snapshot is) none
version_kept events limits choice now version snapshot (Some path) none is = absurd (let fails : ◌≡◌ {A = Result Snapshot Refusal} (Err (Missing path)) (Ok snapshot) = is in cc)

asked_kept : (events : List Told) (limits : Limits) (choice : Choice) (now : ℤ) (asked : Result ℕ Refusal) (snapshot : Snapshot) → opened_asked events limits choice now asked ≡ Ok snapshot
    → HasAllCommits (stands_at events) (standing events) snapshot.version choice
asked_kept events limits choice now (Ok version) snapshot is = version_kept events limits choice now version snapshot (commit_gap (stands_at events) (standing events) version choice) refl is
asked_kept events limits choice now (Err refusal) snapshot is = absurd (let fails : ◌≡◌ {A = Result Snapshot Refusal} (Err refusal) (Ok snapshot) = is in cc)

pub opened_is_kept : OpenedIsKept
opened_is_kept events limits at choice now snapshot is = asked_kept events limits choice now (version_asked at (latest events)) snapshot is

at_most : ℕ → ℕ → Bool → Result ℕ Refusal
at_most version last test = if test then Ok version else Err (NoVersion last)

pub within : (version last : ℕ) → version ≤ last → version_asked (Some version) (Some last) ≡ Ok version
unfolding at_most
within version last most = ap (at_most version last) (le-leb version last most)

pub above : (version last : ℕ) → last < version → version_asked (Some version) (Some last) ≡ Err (NoVersion last)
unfolding at_most
above version last more = ap (at_most version last) (lt-leb version last more)

pub not_kept_is_missing : NotKeptIsMissing
not_kept_is_missing events limits version last choice now path newest most gap =
    ap (opened_asked events limits choice now) (ap (version_asked (Some version)) newest ∙ within version last most)
    ∙ ap (λ (missing : Option (List ℕ)). opened_chosen events limits now version (unless_gap (commit_segment (stands_at events) (standing events) version choice) missing)) gap
