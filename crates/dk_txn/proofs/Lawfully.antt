-- What a commit of a transaction did to a lawful log, where what it was to write may come next.
use Rattle.std.proofs.Common.{◌≡◌, ℕ, ℤ, true, false, List, refl, ap, sym, subst, ◌∙◌, inl, inr}
use Rattle.std.specs.Prelude.{Option, Some, None, Result, Ok, Err, IfSome, is_some}
use Rattle.dk_store.specs.Told.{Told}
use Rattle.dk_model.specs.declared.action.Action.{Action}
use Rattle.dk_model.specs.CommitText.{commit_of}
use Rattle.dk_engine.specs.declared.limits.Limits.{Limits}
use Rattle.dk_engine.specs.declared.refusal.Refusal.{Refusal}
use Rattle.dk_engine.specs.declared.refusal.Refusal.TheVariants as refusals
use Rattle.dk_lawful.specs.Kept.{IfBoth, IsSameHistory, KeepsLawful}
use Rattle.dk_txn.specs.declared.attempt.Writing as written
use Rattle.dk_txn.specs.declared.commit.Committed.{Committed}
use Rattle.dk_txn.specs.declared.prepared.Prepared.{Prepared}
use Rattle.dk_txn.specs.declared.prepared.Prepared.TheVariants as prepared
use Rattle.dk_txn.specs.declared.transaction.Transaction.{Transaction}
use Rattle.dk_txn.specs.Attempt.{Writing, own_commit}
use Rattle.dk_txn.specs.Commits.{CommitRefuses, HistoryAfterRefusal, SaysHistory, ComesNext}
use Rattle.dk_txn.specs.Transactions.{Outcome, AlreadyCommitted, ToWrite, outcome, by_file_writing, prepared_as, ReadsBack, Comes, ConcludesHistory}

-- ---- nothing was added

pub nothing_added : (refusal : Refusal) (commit : List Action) (events later : List Told) → IsSameHistory events later → HistoryAfterRefusal refusal commit events later
nothing_added refusals.Store commit events later same = inl same
nothing_added refusal commit events later same = same

same_told : (events later : List Told) → ◌≡◌ {A = Option (List Told)} (Some later) (Some events) → later ≡ events
same_told events later is = cc

-- where what is meant is a refusal
pub refused_same : (events later : List Told) (refusal cause : Refusal) → CommitRefuses refusal (Err cause) events (Some later) → later ≡ events
refused_same events later refusals.Store cause (inl same) = same_told events later same
refused_same events later refusals.Store cause (inr (version, (writing, is, at, adds))) = absurd (let no : ◌≡◌ {A = Result Writing Refusal} (Err cause) (Ok writing) = is in cc)
refused_same events later refusals.OutOfMemory cause did = same_told events later did
refused_same events later (refusals.Taken path) cause (writing, is, taken) = absurd (let no : ◌≡◌ {A = Result Writing Refusal} (Err cause) (Ok writing) = is in cc)
refused_same events later refusal cause did = same_told events later did.1

nothing_said : (meant : Result Outcome Refusal) (refusal : Refusal) (commit : List Action) (events : List Told) → ConcludesHistory meant commit (Err refusal) events events
nothing_said (Ok (AlreadyCommitted version)) refusal commit events = tt
nothing_said (Ok (ToWrite writing)) refusal commit events = λ horizon lawful. nothing_added refusal commit events events refl
nothing_said (Err cause) refusal commit events = λ horizon lawful. nothing_added refusal commit events events refl

pub refused_says : (told later : Option (List Told)) (limits : Limits) (t : Transaction) (now : ℤ) (refusal : Refusal) (commit : List Action) → later ≡ told
    → IfBoth told later (λ events after. ConcludesHistory (outcome events limits t now) commit (Err refusal) events after)
refused_says None None limits t now refusal commit same = tt
refused_says None (Some later) limits t now refusal commit same = absurd (let no : ◌≡◌ {A = Option (List Told)} (Some later) None = same in cc)
refused_says (Some events) None limits t now refusal commit same = absurd (let no : ◌≡◌ {A = Option (List Told)} None (Some events) = same in cc)
refused_says (Some events) (Some later) limits t now refusal commit same =
    let at : later ≡ events = cc in
    subst (λ after. ConcludesHistory (outcome events limits t now) commit (Err refusal) events after) (sym at) (nothing_said (outcome events limits t now) refusal commit events)

pub already_says : (told later : Option (List Told)) (limits : Limits) (t : Transaction) (now passed : ℤ) (what : Prepared) (version : ℕ) (result : Result Committed Refusal) (commit : List Action) → passed ≡ now → later ≡ told
    → what ≡ prepared.AlreadyCommitted version → IfSome told (λ events. outcome events limits t passed ≡ Ok (prepared_as what))
    → IfBoth told later (λ events after. ConcludesHistory (outcome events limits t now) commit result events after)
already_says None None limits t now passed what version result commit moment same is means = tt
already_says None (Some later) limits t now passed what version result commit moment same is means = absurd (let no : ◌≡◌ {A = Option (List Told)} (Some later) None = same in cc)
already_says (Some events) None limits t now passed what version result commit moment same is means = absurd (let no : ◌≡◌ {A = Option (List Told)} None (Some events) = same in cc)
already_says (Some events) (Some later) limits t now passed what version result commit moment same is means =
    subst (λ (meant : Result Outcome Refusal). ConcludesHistory meant commit result events later) (sym (ap (λ (n : ℤ). outcome events limits t n) (sym moment) ∙ means ∙ ap (λ (p : Prepared). Ok (prepared_as p)) is)) tt

-- ---- one commit was written

module _ (limits : Limits) (t : Transaction) (now passed : ℤ) (what : Prepared) (writing : written.Writing) (moment : passed ≡ now) (is : what ≡ prepared.Writing writing) where
  abbrev own : List Action
  own = own_commit t.id t.actions.items

  abbrev Means : Option (List Told) → Type 0
  Means told = IfSome told (λ events. outcome events limits t passed ≡ Ok (prepared_as what))

  abbrev ComesTold : Option (List Told) → Type 0
  ComesTold told = IfSome told (λ events. Comes (outcome events limits t now) own events)

  is_meant : (events : List Told) → outcome events limits t passed ≡ Ok (prepared_as what) → outcome events limits t now ≡ Ok (ToWrite (by_file_writing writing))
  is_meant events means = ap (λ (n : ℤ). outcome events limits t n) (sym moment) ∙ means ∙ ap (λ (p : Prepared). Ok (prepared_as p)) is

  comes_told : (told : Option (List Told)) → Means told → ComesTold told → IfSome told (ComesNext writing.version own)
  comes_told None means comes = tt
  comes_told (Some events) means comes = subst (λ (meant : Result Outcome Refusal). Comes meant own events) (is_meant events means) comes

  reads_own : ReadsBack t.id t.actions.items what → commit_of writing.text.items ≡ Some own
  reads_own reads = subst (λ (p : Prepared). ReadsBack t.id t.actions.items p) is reads

  pub written_lawful : (told mid later : Option (List Told)) → mid ≡ told → Means told → ReadsBack t.id t.actions.items what
      → ((commit : List Action) → commit_of writing.text.items ≡ Some commit → IfSome mid (ComesNext writing.version commit) → KeepsLawful mid later)
      → ComesTold told → KeepsLawful told later
  written_lawful told mid later same means reads keeps comes =
      subst (λ (old : Option (List Told)). KeepsLawful old later) same
      (keeps own (reads_own reads) (subst (λ (old : Option (List Told)). IfSome old (ComesNext writing.version own)) (sym same) (comes_told told means comes)))

  said : (told later : Option (List Told)) (result : Result Committed Refusal) → Means told → IfBoth told later (SaysHistory own result)
      → IfBoth told later (λ events after. ConcludesHistory (outcome events limits t now) own result events after)
  said None None result means says = tt
  said None (Some later) result means says = says
  said (Some events) None result means says = says
  said (Some events) (Some later) result means says = subst (λ (meant : Result Outcome Refusal). ConcludesHistory meant own result events later) (sym (is_meant events means)) says

  pub written_says : (told mid later : Option (List Told)) (result : Result Committed Refusal) → mid ≡ told → Means told → ReadsBack t.id t.actions.items what
      → ((commit : List Action) → commit_of writing.text.items ≡ Some commit → IfSome mid (ComesNext writing.version commit) → IfBoth mid later (SaysHistory commit result))
      → ComesTold told → IfBoth told later (λ events after. ConcludesHistory (outcome events limits t now) own result events after)
  written_says told mid later result same means reads says comes =
      said told later result means (subst (λ (old : Option (List Told)). IfBoth old later (SaysHistory own result)) same
      (says own (reads_own reads) (subst (λ (old : Option (List Told)). IfSome old (ComesNext writing.version own)) (sym same) (comes_told told means comes))))

-- ---- a clash comes over no store that tells its events

pub never_both : (told later : Option (List Told)) (fact : List Told → List Told → Type 0) → IfSome told (λ events. ⊥) → is_some later ≡ is_some told → IfBoth told later fact
never_both None None fact never alike = tt
never_both None (Some later) fact never alike = absurd (let no : true ≡ false = alike in cc)
never_both (Some events) later fact never alike = absurd never
