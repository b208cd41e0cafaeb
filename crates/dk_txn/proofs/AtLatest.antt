-- What a commit of a transaction comes to that began at the latest version, where nothing came since.
use Rattle.std.proofs.Common.{◌≡◌, ℕ, ℤ, ◌+◌, ◌<◌, ◌^◌, Bool, true, false, List, [], ◌++◌, nat_lt, refl, ap, ap₂, sym, subst, ◌∙◌, arith, inr, if◌then◌else◌}
use Rattle.std.specs.Prelude.{Option, Some, None, Result, Ok, Err, IfSome, ◌==◌}
use Rattle.std.proofs.lemmas.Bool.{le-ltb}
use Rattle.dk_store.specs.Told.{Told}
use Rattle.dk_model.specs.declared.action.Action.{Action}
use Rattle.dk_model.specs.declared.state.TableState.{TableState}
use Rattle.dk_conflicts.specs.declared.reads.Reads.{Reads}
use Rattle.dk_engine.specs.declared.limits.Limits.{Limits}
use Rattle.dk_engine.specs.declared.limits.Which.TheVariants as which
use Rattle.dk_engine.specs.declared.refusal.Refusal.{Refusal}
use Rattle.dk_engine.specs.declared.refusal.Refusal.TheVariants as refusals
use Rattle.dk_lawful.specs.History.{history}
use Rattle.dk_lawful.specs.Kept.{IfBoth, KeepsLawful}
use Rattle.dk_listing.specs.OfEvents.{latest}
use Rattle.dk_snapshot.specs.declared.table.Snapshot.{Snapshot}
use Rattle.dk_snapshot.specs.Opening.{usual_choice, opened}
use Rattle.dk_snapshot.proofs.KeptVersions.{last_read}
use Rattle.dk_txn.specs.declared.commit.Committed.{Committed}
use Rattle.dk_txn.specs.declared.start.Start.{Start}
use Rattle.dk_txn.specs.declared.transaction.Transaction.{Transaction}
use Rattle.dk_txn.specs.Attempt.{last_version, after_snapshot, start_after, start, own_commit, commit_text, allowed, Writing, written_after, if_allowed, if_within, attempt_from, attempt}
use Rattle.dk_txn.specs.Commits.{Commits, HistoryAfterCommit, SaysTransacted}
use Rattle.dk_txn.specs.Transactions.{Outcome, if_headed, headed, oldest_of, and_also, rules_keep, may_come, to_write, outcome_after, outcome_at, reached_at, next_from, outcome, Concludes, IsTransacted, Transacts, Comes, ConcludesHistory}
use Rattle.dk_txn.proofs.Concluding.{at_version}
use Rattle.dk_txn.proofs.Headed.{opened_headed}
use Rattle.dk_txn.proofs.Lawfully.{nothing_added, refused_same}
use Rattle.dk_txn.proofs.Next.{Next, attempt_next}
use Rattle.dk_txn.proofs.Preparing.{none_reached}
use Rattle.dk_txn.proofs.Starts.{not_chosen}

-- ---- it comes where it began

-- the version that comes next is the one after the latest, and the table there has begun if there was any
record IsAtLatest (events : List Told) (from : Start) : Type 0 where
  next : next_from from.version (latest events) ≡ from.version
  heads : (path : List ℕ) → headed path from ≡ Ok tt

at_once : (test : Bool) (heads : Result (Unit {0}) Refusal) → heads ≡ Ok tt → (if test then Ok tt else heads) ≡ Ok tt
at_once true heads is = refl
at_once false heads is = is

started_at : (events : List Told) (limits : Limits) (now : ℤ) (from : Start) → start events limits now ≡ Ok from → IsAtLatest events from
started_at events limits now from is = by (latest events) refl is
  where
    after : (last : ℕ) (found : Result Snapshot Refusal) → latest events ≡ Some last → opened events limits None usual_choice now ≡ found → after_snapshot found ≡ Ok from → IsAtLatest events from
    after last (Err refusal) top opens starts = absurd (let no : ◌≡◌ {A = Result Start Refusal} (Err refusal) (Ok from) = starts in cc)
    after last (Ok snapshot) top opens starts =
        let same : ◌≡◌ {A = Result Start Refusal} (Ok (record { version = snapshot.version + 1; before = snapshot.state })) (Ok from) = starts in
        let version : snapshot.version + 1 ≡ from.version = cc in
        let state : snapshot.state ≡ from.before = cc in
        let found : last ≡ snapshot.version = last_read events limits usual_choice now last snapshot top opens in
        let value : last + 1 ≡ from.version = omega (arith, version, found) in
        record {
          next = ap (next_from from.version) top ∙ omega (arith, value);
          heads = λ path. at_once (from.version == 0) (if_headed path from.before.protocol from.before.metadata)
              (subst (λ (s : TableState). if_headed path s.protocol s.metadata ≡ Ok tt) state (opened_headed events limits now last snapshot path top opens));
        }

    at_last : (last : ℕ) (test : Bool) → latest events ≡ Some last → (if test then Err (refusals.Limit which.Version last_version) else after_snapshot (opened events limits None usual_choice now)) ≡ Ok from → IsAtLatest events from
    at_last last true top starts = absurd (let no : ◌≡◌ {A = Result Start Refusal} (Err (refusals.Limit which.Version last_version)) (Ok from) = starts in cc)
    at_last last false top starts = after last (opened events limits None usual_choice now) top refl starts

    by : (last : Option ℕ) → latest events ≡ last → start_after events limits now last ≡ Ok from → IsAtLatest events from
    by None top starts =
        let same : ◌≡◌ {A = Result Start Refusal} (Ok (record { version = 0; before = _ })) (Ok from) = starts in
        let version : 0 ≡ from.version = cc in
        record {
          next = ap (next_from from.version) top;
          heads = λ path. subst (λ (v : ℕ). (if v == 0 then Ok tt else if_headed path from.before.protocol from.before.metadata) ≡ Ok tt) version refl;
        }
    by (Some last) top starts = at_last last (last == last_version) top starts

only_rules : (rules : Result (Unit {0}) Refusal) → and_also rules (Ok tt) ≡ rules
only_rules (Ok u) = refl
only_rules (Err refusal) = refl

-- nothing came since, so what it comes to is the plain attempt
pub at_latest : (events : List Told) (limits : Limits) (t : Transaction) (now : ℤ) → start events limits now ≡ Ok t.from → t.from.version < 2 ^ 63
    → outcome events limits t now ≡ to_write (attempt events limits t.actions.items now t.id)
at_latest events limits t now starts small =
    let at = started_at events limits now t.from starts in
    let fits : nat_lt last_version t.from.version ≡ false = le-ltb last_version t.from.version (omega (arith, small)) in
    let may : may_come t t.from None ≡ allowed t.from t.actions.items t.id =
    ap (λ (heads : Result (Unit {0}) Refusal). and_also heads (rules_keep t t.from None)) (at.heads (oldest_of t.segment)) ∙ only_rules (allowed t.from t.actions.items t.id) in
    ap (outcome_at events limits t now) at.next
    ∙ not_chosen (nat_lt last_version t.from.version) (Err (refusals.Limit which.Version last_version)) (outcome_after t limits now t.from.version (reached_at events limits t t.from.version)) fits
    ∙ ap (outcome_after t limits now t.from.version) (none_reached events limits t t.from.version refl)
    ∙ ap (λ (m : Result (Unit {0}) Refusal). to_write (if_allowed m (if_within limits.object (written_after t.from (commit_text t.id now t.actions.items))))) may
    ∙ ap (λ (s : Result Start Refusal). to_write (attempted s)) (sym starts)
  where
    attempted : Result Start Refusal → Result Writing Refusal
    attempted s = attempt_from s limits t.actions.items now t.id

-- ---- what a commit of it did

module _ (limits : Limits) (now passed : ℤ) (t : Transaction) (own : List Action) (id : ℕ) (moment : passed ≡ now) (own_is : t.actions.items ≡ own) (id_is : t.id ≡ id) where
  abbrev Begun : Option (List Told) → Type 0
  Begun told = IfSome told (λ events. start events limits now ≡ Ok t.from)

  comes_to : (events : List Told) → start events limits now ≡ Ok t.from → t.from.version < 2 ^ 63 → outcome events limits t passed ≡ to_write (attempt events limits own now id)
  comes_to events starts small =
      ap (λ (n : ℤ). outcome events limits t n) moment ∙ at_latest events limits t now starts small
      ∙ ap₂ (λ (o : List Action) (i : ℕ). to_write (attempt events limits o now i)) own_is id_is

  concludes : (meant : Result Writing Refusal) (events : List Told) (result : Result Committed Refusal) (later : Option (List Told)) → Concludes (to_write meant) events result later → Commits meant events result later
  concludes (Ok writing) events result later did = did
  concludes (Err refusal) events result later did = did

  pub begun_commits : (told later : Option (List Told)) (result : Result Committed Refusal) → t.from.version < 2 ^ 63 → IfSome told (λ events. Concludes (outcome events limits t passed) events result later)
      → IfSome told (λ events. start events limits now ≡ Ok t.from → Commits (attempt events limits own now id) events result later)
  begun_commits None later result small did = tt
  begun_commits (Some events) later result small did = λ starts.
      concludes (attempt events limits own now id) events result later (subst (λ (meant : Result Outcome Refusal). Concludes meant events result later) (comes_to events starts small) did)

  -- what it was to write comes next, and is what the law has it commit
  is_next : (events : List Told) → start events limits now ≡ Ok t.from → t.from.version < 2 ^ 63 → (writing : Writing) → attempt events limits own now id ≡ Ok writing → Next events own id writing
  is_next events starts small writing is =
      let from : if_allowed (allowed t.from own id) (if_within limits.object (written_after t.from (commit_text id now own))) ≡ Ok writing =
      ap (λ (s : Result Start Refusal). attempt_from s limits own now id) (sym starts) ∙ is in
      let at = at_version (allowed t.from own id) limits.object t.from (commit_text id now own) writing from in
      attempt_next events limits own now id writing (subst (λ (v : ℕ). v < 2 ^ 63) (sym at) small) is

  comes : (events : List Told) → start events limits now ≡ Ok t.from → t.from.version < 2 ^ 63 → (meant : Result Writing Refusal) → attempt events limits own now id ≡ meant → Comes (to_write meant) (own_commit id own) events
  comes events starts small (Err refusal) is = tt
  comes events starts small (Ok writing) is = (is_next events starts small writing is).comes

  pub begun_comes : (told : Option (List Told)) → t.from.version < 2 ^ 63 → Begun told → IfSome told (λ events. Comes (outcome events limits t passed) (own_commit t.id t.actions.items) events)
  begun_comes None small begun = tt
  begun_comes (Some events) small begun =
      subst (λ (meant : Result Outcome Refusal). Comes meant (own_commit t.id t.actions.items) events) (sym (comes_to events begun small))
      (subst (λ (commit : List Action). Comes (to_write (attempt events limits own now id)) commit events) (sym (ap₂ own_commit id_is own_is)) (comes events begun small (attempt events limits own now id) refl))

  refused : (cause : Refusal) (commit : List Action) (events later : List Told) (result : Result Committed Refusal) → Commits (Err cause) events result (Some later) → HistoryAfterCommit commit result events later
  refused cause commit events later (Ok committed) (writing, is, at, adds) = absurd (let no : ◌≡◌ {A = Result Writing Refusal} (Err cause) (Ok writing) = is in cc)
  refused cause commit events later (Err refusal) did = nothing_added refusal commit events later (ap history (refused_same events later refusal cause did))

  says : (events later : List Told) → start events limits now ≡ Ok t.from → t.from.version < 2 ^ 63 → (meant : Result Writing Refusal) → attempt events limits own now id ≡ meant → (result : Result Committed Refusal)
      → Concludes (to_write meant) events result (Some later) → ConcludesHistory (to_write meant) (own_commit id own) result events later → SaysTransacted now id own result events later
  says events later starts small (Ok writing) is result did said = λ horizon lawful.
      subst (λ (commit : List Action). HistoryAfterCommit commit result events later) (sym ((is_next events starts small writing is).law now horizon lawful)) (said horizon lawful)
  says events later starts small (Err cause) is result did said = λ horizon lawful. refused cause _ events later result did

  pub begun_says : (told later : Option (List Told)) (result : Result Committed Refusal) → t.from.version < 2 ^ 63 → Begun told
      → IfSome told (λ events. Concludes (outcome events limits t passed) events result later)
      → IfBoth told later (λ events after. ConcludesHistory (outcome events limits t passed) (own_commit t.id t.actions.items) result events after)
      → IfBoth told later (SaysTransacted now id own result)
  begun_says None None result small begun did said = tt
  begun_says None (Some later) result small begun did said = absurd said
  begun_says (Some events) None result small begun did said = absurd said
  begun_says (Some events) (Some later) result small begun did said =
      says events later begun small (attempt events limits own now id) refl result
      (subst (λ (meant : Result Outcome Refusal). Concludes meant events result (Some later)) (comes_to events begun small) did)
      (subst (λ (commit : List Action). ConcludesHistory (to_write (attempt events limits own now id)) commit result events later) (ap₂ own_commit id_is own_is)
      (subst (λ (meant : Result Outcome Refusal). ConcludesHistory meant (own_commit t.id t.actions.items) result events later) (comes_to events begun small) said))

-- at the moment that was passed on
pub at_moment : (limits : Limits) (now passed : ℤ) (t : Transaction) (told later : Option (List Told)) (result : Result Committed Refusal) → passed ≡ now
    → IfSome told (λ events. Concludes (outcome events limits t passed) events result later) → IfSome told (λ events. Concludes (outcome events limits t now) events result later)
at_moment limits now passed t told later result moment did = subst (λ (n : ℤ). IfSome told (λ events. Concludes (outcome events limits t n) events result later)) moment did

-- ---- all of it in one call

pub filled_items : (begun filled : Transaction) (own : List Action) → begun.actions.items ≡ [] → filled.actions.items ≡ begun.actions.items ++ own → filled.actions.items ≡ own
filled_items begun filled own none laid = laid ∙ ap (λ (before : List Action). before ++ own) none

module _ (limits : Limits) (now passed : ℤ) (begun filled : Transaction) (own : List Action) (id : ℕ) (moment : passed ≡ now) (from : filled.from ≡ begun.from) (own_is : filled.actions.items ≡ own) (id_is : filled.id ≡ id) where
  abbrev BegunAt : Option (List Told) → Type 0
  BegunAt told = IfSome told (λ events. start events limits passed ≡ Ok begun.from)

  abbrev FilledAt : Option (List Told) → Type 0
  FilledAt told = IfSome told (λ events. start events limits passed ≡ Ok filled.from)

  filled_at : (told mid : Option (List Told)) → mid ≡ told → BegunAt told → FilledAt mid
  filled_at told mid same begins = subst FilledAt (sym same) (here told begins)
    where
      here : (o : Option (List Told)) → BegunAt o → FilledAt o
      here None at = tt
      here (Some events) at = at ∙ ap (λ (f : Start). Ok f) (sym from)

  pub latest_commits : (told mid later : Option (List Told)) (result : Result Committed Refusal) → mid ≡ told → BegunAt told
      → IfSome mid (λ events. start events limits passed ≡ Ok filled.from → Commits (attempt events limits filled.actions.items passed filled.id) events result later)
      → IfSome told (λ events. Commits (attempt events limits own now id) events result later)
  latest_commits told mid later result same begins did =
      go told begins (subst (λ (o : Option (List Told)). IfSome o (λ events. start events limits passed ≡ Ok filled.from → Commits (attempt events limits filled.actions.items passed filled.id) events result later)) same did)
    where
      go : (o : Option (List Told)) → BegunAt o → IfSome o (λ events. start events limits passed ≡ Ok filled.from → Commits (attempt events limits filled.actions.items passed filled.id) events result later)
          → IfSome o (λ events. Commits (attempt events limits own now id) events result later)
      go None at done = tt
      go (Some events) at done =
          subst (λ (meant : Result Writing Refusal). Commits meant events result later)
          (ap₂ (λ (o : List Action) (i : ℕ). attempt events limits o passed i) own_is id_is ∙ ap (λ (n : ℤ). attempt events limits own n id) moment)
          (done (at ∙ ap (λ (f : Start). Ok f) (sym from)))

  pub latest_lawful : (told mid later : Option (List Told)) → mid ≡ told → BegunAt told → (FilledAt mid → KeepsLawful mid later) → KeepsLawful told later
  latest_lawful told mid later same begins keeps = subst (λ (o : Option (List Told)). KeepsLawful o later) same (keeps (filled_at told mid same begins))

  pub latest_says : (told mid later : Option (List Told)) (result : Result Committed Refusal) → mid ≡ told → BegunAt told
      → (FilledAt mid → IfBoth mid later (SaysTransacted passed filled.id filled.actions.items result)) → IfBoth told later (SaysTransacted now id own result)
  latest_says told mid later result same begins says =
      subst (λ (n : ℤ). IfBoth told later (SaysTransacted n id own result)) moment
      (subst (λ (o : List Action). IfBoth told later (SaysTransacted passed id o result)) own_is
      (subst (λ (i : ℕ). IfBoth told later (SaysTransacted passed i filled.actions.items result)) id_is
      (subst (λ (o : Option (List Told)). IfBoth o later (SaysTransacted passed filled.id filled.actions.items result)) same (says (filled_at told mid same begins)))))

  pub latest_transacts : (read : Reads) (told mid later : Option (List Told)) (result : Result Committed Refusal) → filled.reads ≡ read → filled.committed ≡ None → mid ≡ told → BegunAt told
      → IfSome mid (λ events. Concludes (outcome events limits filled passed) events result later) → Transacts limits now read own id told result later
  latest_transacts read told mid later result reads_is fresh same begins did = by result (record {
    transaction = filled;
    whole = record { reads = reads_is; actions = own_is; id = id_is; committed = fresh };
    begins = here told begins;
    concludes = at_moment limits now passed filled told later result moment (subst (λ (o : Option (List Told)). IfSome o (λ events. Concludes (outcome events limits filled passed) events result later)) same did);
  })
    where
      here : (o : Option (List Told)) → BegunAt o → IfSome o (λ events. start events limits now ≡ Ok filled.from)
      here None at = tt
      here (Some events) at = ap (λ (n : ℤ). start events limits n) (sym moment) ∙ at ∙ ap (λ (f : Start). Ok f) (sym from)

      by : (answer : Result Committed Refusal) → IsTransacted limits now read own id told answer later → Transacts limits now read own id told answer later
      by (Ok committed) is = is
      by (Err refusal) is = inr is
