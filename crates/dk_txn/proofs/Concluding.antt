-- What a commit of a transaction did, by what it comes to.
use Rattle.std.proofs.Common.{◌≡◌, ℕ, ℤ, ◌<◌, ◌^◌, Bool, true, false, List, length, nat_lt, refl, ap, sym, subst, ◌∙◌, true≢false, arith, inl, if◌then◌else◌}
use Rattle.std.specs.Prelude.{Option, Some, None, Result, Ok, Err, IfSome, IsNone}
use Rattle.dk_store.specs.Told.{Told}
use Rattle.dk_store.specs.Objects.{object}
use Rattle.dk_paths.specs.Names.{commit_path}
use Rattle.dk_engine.specs.declared.limits.Limits.{Limits}
use Rattle.dk_engine.specs.declared.limits.Which.TheVariants as which
use Rattle.dk_engine.specs.declared.refusal.Refusal.{Refusal}
use Rattle.dk_engine.specs.declared.refusal.Refusal.TheVariants as refusals
use Rattle.dk_engine.specs.Answers.{Refuses}
use Rattle.dk_listing.specs.OfEvents.{latest}
use Rattle.dk_snapshot.specs.Steps.{fits}
use Rattle.dk_txn.specs.declared.attempt.Writing as written
use Rattle.dk_txn.specs.declared.commit.Committed.{Committed}
use Rattle.dk_txn.specs.declared.prepared.Prepared.{Prepared}
use Rattle.dk_txn.specs.declared.prepared.Prepared.TheVariants as prepared
use Rattle.dk_txn.specs.declared.start.Start.{Start}
use Rattle.dk_txn.specs.declared.transaction.Transaction.{Transaction}
use Rattle.dk_lawful.specs.History.{Way, By_file}
use Rattle.dk_txn.specs.Attempt.{last_version, commit_text, Writing, written_after, if_allowed, if_within}
use Rattle.dk_txn.specs.Commits.{Commits, TakenBy, was_taken}
use Rattle.dk_txn.specs.FitLaws.{WrittenByFile}
use Rattle.dk_txn.specs.Transactions.{Reached, At_own, After, may_come, writing_at, Outcome, AlreadyCommitted, ToWrite, to_write, outcome_after, reached_at, next_from, outcome, by_file_writing, prepared_as, IsSmall, Concludes}
use Rattle.dk_txn.proofs.ByFile.{allowed_by_file, may_allowed, written_by}
use Rattle.dk_txn.proofs.NotAbove.{AtMost, free_above}
use Rattle.dk_txn.proofs.Next.{within_is}

-- ---- the version that is written

pub at_version : (may : Result (Unit {0}) Refusal) (limit : ℕ) (from : Start) (text : List ℕ) (writing : Writing) → if_allowed may (if_within limit (written_after from text)) ≡ Ok writing → writing.version ≡ from.version
at_version (Err refusal) limit from text writing is = absurd (let no : ◌≡◌ {A = Result Writing Refusal} (Err refusal) (Ok writing) = is in cc)
at_version (Ok u) limit from text writing is = sym (ap (λ (w : Writing). w.version) (within_is (fits limit (Some (length text))) (written_after from text) writing is))

pub is_written : (meant : Result Writing Refusal) (writing : Writing) → to_write meant ≡ Ok (ToWrite writing) → meant ≡ Ok writing
is_written (Err refusal) writing is = absurd (let no : ◌≡◌ {A = Result Outcome Refusal} (Err refusal) (Ok (ToWrite writing)) = is in cc)
is_written (Ok other) writing is = let same : ◌≡◌ {A = Result Outcome Refusal} (Ok (ToWrite other)) (Ok (ToWrite writing)) = is in cc

-- so far it comes by file
record ComesAs (writing : Writing) (next : ℕ) : Type 0 where
  version : writing.version ≡ next
  by_file : writing.way ≡ By_file

after_next : (t : Transaction) (limits : Limits) (now : ℤ) (next : ℕ) (reached : Result Reached Refusal) (writing : Writing) → outcome_after t limits now next reached ≡ Ok (ToWrite writing) → ComesAs writing next
after_next t limits now next (Err refusal) writing is = absurd (let no : ◌≡◌ {A = Result Outcome Refusal} (Err refusal) (Ok (ToWrite writing)) = is in cc)
after_next t limits now next (Ok (At_own version)) writing is = absurd (let no : ◌≡◌ {A = Result Outcome Refusal} (Ok (AlreadyCommitted version)) (Ok (ToWrite writing)) = is in cc)
after_next t limits now next (Ok (After state conflict)) writing is =
    let from : Start = record { version = next; before = state } in
    let text : List ℕ = commit_text t.id now t.actions.items in
    let meant = is_written (writing_at t limits now from conflict) writing is in
    record {
      version = at_version (may_come t from conflict) limits.object from text writing meant;
      by_file = written_by (may_come t from conflict) from limits.object text writing
          (λ u may. allowed_by_file from t.actions.items t.id u (may_allowed t from conflict u may)) meant;
    }

outcome_next : (events : List Told) (limits : Limits) (t : Transaction) (now : ℤ) (writing : Writing) → outcome events limits t now ≡ Ok (ToWrite writing) → ComesAs writing (next_from t.from.version (latest events))
outcome_next events limits t now writing is = by (nat_lt last_version next) is
  where
    next : ℕ
    next = next_from t.from.version (latest events)

    by : (above : Bool) → (if above then Err (refusals.Limit which.Version last_version) else outcome_after t limits now next (reached_at events limits t next)) ≡ Ok (ToWrite writing) → ComesAs writing next
    by true meant = absurd (let no : ◌≡◌ {A = Result Outcome Refusal} (Err (refusals.Limit which.Version last_version)) (Ok (ToWrite writing)) = meant in cc)
    by false meant = after_next t limits now next (reached_at events limits t next) writing meant

-- it is the one that comes next
pub writes_next : (events : List Told) (limits : Limits) (t : Transaction) (now : ℤ) (writing : Writing) → outcome events limits t now ≡ Ok (ToWrite writing) → writing.version ≡ next_from t.from.version (latest events)
writes_next events limits t now writing is = (outcome_next events limits t now writing is).version

pub written_by_file : WrittenByFile
written_by_file events limits t now writing is = (outcome_next events limits t now writing is).by_file

not_above : (from version : ℕ) (last : Option ℕ) → version ≡ next_from from last → AtMost version last → ⊥
not_above from version None is most = most
not_above from version (Some last) is most = omega (arith, is, most)

-- nothing stands at its path
pub free_next : (events : List Told) (limits : Limits) (t : Transaction) (now : ℤ) (writing : Writing) → writing.version < 2 ^ 63 → outcome events limits t now ≡ Ok (ToWrite writing) → IsNone (object events (commit_path writing.version))
free_next events limits t now writing small is =
    free_above events (latest events) writing.version refl small (not_above t.from.version writing.version (latest events) (writes_next events limits t now writing is))

-- ---- one commit

once_written : (told mid later : Option (List Told)) (limits : Limits) (t : Transaction) (now passed : ℤ) (writing : Writing) (result : Result Committed Refusal) → passed ≡ now → mid ≡ told → writing.version < 2 ^ 63
    → IfSome told (λ events. outcome events limits t passed ≡ Ok (ToWrite writing))
    → IfSome mid (λ events. IsNone (object events (commit_path writing.version)) → Commits (Ok writing) events result later)
    → IfSome told (λ events. Concludes (outcome events limits t now) events result later)
once_written None mid later limits t now passed writing result moment same small means commits = tt
once_written (Some events) mid later limits t now passed writing result moment same small means commits =
    let here : IsNone (object events (commit_path writing.version)) → Commits (Ok writing) events result later = rw same at commits in
    let is : outcome events limits t now ≡ Ok (ToWrite writing) = ap (λ (n : ℤ). outcome events limits t n) (sym moment) ∙ means in
    subst (λ (meant : Result Outcome Refusal). Concludes meant events result later) (sym is) (here (free_next events limits t now writing small is))

-- of what was prepared
pub once_prepared : (told mid later : Option (List Told)) (limits : Limits) (t : Transaction) (now passed : ℤ) (what : Prepared) (writing : written.Writing) (result : Result Committed Refusal) → passed ≡ now → mid ≡ told → what ≡ prepared.Writing writing
    → IsSmall what → IfSome told (λ events. outcome events limits t passed ≡ Ok (prepared_as what))
    → IfSome mid (λ events. IsNone (object events (commit_path writing.version)) → Commits (Ok (by_file_writing writing)) events result later)
    → IfSome told (λ events. Concludes (outcome events limits t now) events result later)
once_prepared told mid later limits t now passed what writing result moment same is small means commits =
    once_written told mid later limits t now passed (by_file_writing writing) result moment same (subst IsSmall is small)
    (subst (λ (p : Prepared). IfSome told (λ events. outcome events limits t passed ≡ Ok (prepared_as p))) is means) commits

concludes_refused : (refusal : Refusal) (meant : Result Outcome Refusal) (events : List Told) (later : Option (List Told)) → later ≡ Some events → Refuses refusal meant → Concludes meant events (Err refusal) later
concludes_refused refusals.Store (Ok (AlreadyCommitted version)) events later same means = (tt, same)
concludes_refused refusals.Store (Ok (ToWrite writing)) events later same means = inl same
concludes_refused refusals.Store (Err refusal) events later same means = inl same
concludes_refused refusals.OutOfMemory (Ok (AlreadyCommitted version)) events later same means = (tt, same)
concludes_refused refusals.OutOfMemory (Ok (ToWrite writing)) events later same means = same
concludes_refused refusals.OutOfMemory (Err refusal) events later same means = same
concludes_refused (refusals.Taken path) meant events later same means = absurd means
concludes_refused refusal meant events later same means =
    let did : Concludes (Err refusal) events (Err refusal) later = (refl, same) in
    subst (λ (m : Result Outcome Refusal). Concludes m events (Err refusal) later) (sym means) did

pub once_refused : (told later : Option (List Told)) (limits : Limits) (t : Transaction) (now passed : ℤ) (refusal : Refusal) → passed ≡ now → later ≡ told
    → IfSome told (λ events. Refuses refusal (outcome events limits t passed))
    → IfSome told (λ events. Concludes (outcome events limits t now) events (Err refusal) later)
once_refused None later limits t now passed refusal moment same means = tt
once_refused (Some events) later limits t now passed refusal moment same means =
    concludes_refused refusal (outcome events limits t now) events later same (subst (λ (n : ℤ). Refuses refusal (outcome events limits t n)) moment means)

-- ---- again after a clash, which comes over no store that tells its events

-- as what is to be written comes by file
never_taken : (meant : Result Outcome Refusal) (events : List Told) (path : List ℕ) (later : Option (List Told)) → ((writing : Writing) → meant ≡ Ok (ToWrite writing) → writing.way ≡ By_file)
    → Concludes meant events (Err (refusals.Taken path)) later → ⊥
never_taken (Ok (AlreadyCommitted version)) events path later way did = did.0
never_taken (Ok (ToWrite writing)) events path later way (found, same, taken) =
    let is : writing ≡ found = (let both : ◌≡◌ {A = Result Writing Refusal} (Ok writing) (Ok found) = same in cc) in
    subst (λ (w : Way). TakenBy w found.version path events later) (ap (λ (w : Writing). w.way) (sym is) ∙ way writing refl) taken
never_taken (Err refusal) events path later way (found, same, taken) = absurd (let no : ◌≡◌ {A = Result Writing Refusal} (Err refusal) (Ok found) = same in cc)

never_clashed : (meant : Result Outcome Refusal) (events : List Told) (result : Result Committed Refusal) (later : Option (List Told)) → ((writing : Writing) → meant ≡ Ok (ToWrite writing) → writing.way ≡ By_file)
    → was_taken result ≡ true → Concludes meant events result later → ⊥
never_clashed meant events (Err (refusals.Taken path)) later way was did = never_taken meant events path later way did
never_clashed meant events (Ok committed) later way was did = true≢false (sym was)
never_clashed meant events (Err _) later way was did = true≢false (sym was)

pub clash_never : (told later : Option (List Told)) (limits : Limits) (t : Transaction) (moment : ℤ) (result : Result Committed Refusal) (fact : List Told → Type 0) → was_taken result ≡ true
    → IfSome told (λ events. Concludes (outcome events limits t moment) events result later) → IfSome told fact
clash_never None later limits t moment result fact was did = tt
clash_never (Some events) later limits t moment result fact was did = absurd (never_clashed (outcome events limits t moment) events result later (written_by_file events limits t moment) was did)
