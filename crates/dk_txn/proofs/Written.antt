-- What is written of an attempt, and what its answer says.
use Rattle.std.proofs.Common.{◌≡◌, ℕ, ℤ, ◌<◌, ◌^◌, List, ◌∷◌, Some, None, refl, ap, sym, subst, ◌∙◌, true≢false, inl, inr}
use Rattle.std.specs.Prelude.{Option, Result, Ok, Err, IfSome, IsNone, is_some}
use Rattle.std.specs.List.{AllByRecursion}
use Rattle.dk_store.specs.declared.event.Put.{Put}
use Rattle.dk_store.specs.declared.event.Put.TheVariants as puts
use Rattle.dk_store.specs.declared.event.StoreError.{StoreError}
use Rattle.dk_store.specs.declared.event.StoreError.TheVariants as errors
use Rattle.dk_store.specs.Told.{Told}
use Rattle.dk_store.specs.Objects.{object}
use Rattle.dk_store.specs.Writing.{AddsMade, PutsNew}
use Rattle.dk_model.specs.declared.action.Action.{Action}
use Rattle.dk_model.specs.CommitText.{commit_of}
use Rattle.dk_model.specs.ReadBack.{IsReadable, own_info, written_of}
use Rattle.dk_paths.specs.Names.{commit_path}
use Rattle.dk_paths.specs.Numbers.{id_text}
use Rattle.dk_engine.specs.declared.refusal.Refusal.{Refusal}
use Rattle.dk_engine.specs.declared.refusal.Refusal.TheVariants as refusals
use Rattle.dk_lawful.specs.History.{next_version}
use Rattle.dk_lawful.specs.Lawful.{Lawful}
use Rattle.dk_lawful.specs.SoFar.{first_broken_so_far}
use Rattle.dk_lawful.specs.Kept.{IfBoth, KeepsLawful, HistoryAfterPut}
use Rattle.dk_lawful.proofs.Puts.{put_keeps_lawful, put_adds_commit}
use Rattle.dk_txn.specs.declared.attempt.Writing as written
use Rattle.dk_txn.specs.declared.start.Start.{Start}
use Rattle.dk_txn.specs.declared.commit.Committed.{Committed}
use Rattle.dk_txn.specs.Attempt.{unbuilt, verdict, own_commit, allowed}
use Rattle.dk_txn.specs.Commits.{Commits, WritesMeant, HistoryAfterCommit, SaysHistory, ComesNext}
use Rattle.dk_txn.specs.Transactions.{by_file_writing}
use Rattle.dk_txn.proofs.Readable.{valid_reads}

-- ---- what is to be written

pub no_rule : (name : Option (List ℕ)) (broken : Option ℕ) (u : Unit {0}) → verdict name broken ≡ Ok u → broken ≡ None
no_rule (Some name) broken u is = cc
no_rule None (Some rule) u is = cc
no_rule None None u is = refl

pub no_name : (name : Option (List ℕ)) (broken : Option ℕ) (u : Unit {0}) → verdict name broken ≡ Ok u → name ≡ None
no_name (Some name) broken u is = cc
no_name None (Some rule) u is = refl
no_name None None u is = refl

pub allowed_reads : (from : Start) (actions : List Action) (id : ℕ) (text : List ℕ) (u : Unit {0}) → allowed from actions id ≡ Ok u
    → (AllByRecursion IsReadable actions → commit_of text ≡ Some (own_info (id_text id) ∷ written_of actions))
    → commit_of text ≡ Some (own_commit id actions)
allowed_reads from actions id text u may reads =
    let valid : first_broken_so_far from.before from.version (own_commit id actions) ≡ None = no_rule (unbuilt from.before actions) (first_broken_so_far from.before from.version (own_commit id actions)) u may in
    let itself = valid_reads (id_text id) from.before from.version actions valid in
    reads itself.each ∙ ap (λ (rest : List Action). Some (own_info (id_text id) ∷ rest)) itself.written

-- ---- what a put did

pub exists_never : (fact : List Told → Type 0) (told later : Option (List Told)) (path bytes : List ℕ) (version : ℕ) (put : Put) → path ≡ commit_path version → put ≡ puts.Exists
    → PutsNew path bytes told (Ok put) later → IfSome told (λ events. IsNone (object events (commit_path version)) → fact events)
exists_never fact None later path bytes version put at exists did = tt
exists_never fact (Some events) later path bytes version puts.Made at exists did = absurd (let no : puts.Made ≡ puts.Exists = exists in cc)
exists_never fact (Some events) later path bytes version puts.Exists at exists did = λ none. absurd (true≢false (sym did.0 ∙ ap (λ p. is_some (object events p)) at ∙ none))

module _ (path bytes : List ℕ) (writing : written.Writing) (at : path ≡ commit_path writing.version) (same : bytes ≡ writing.text.items) where
  adds_file : (events : List Told) (later : Option (List Told)) → IsNone (object events (commit_path writing.version)) → AddsMade path bytes (Some events) later
      → WritesMeant (Ok (by_file_writing writing)) events writing.version later
  adds_file events later free made = (
    by_file_writing writing,
    refl,
    refl,
    record {
      free = free;
      made = subst (λ (p : List ℕ). AddsMade p writing.text.items (Some events) later) at (subst (λ (b : List ℕ). AddsMade path b (Some events) later) same made);
    },
  )

  pub made_commits : (told later : Option (List Told)) (put : Put) → put ≡ puts.Made → PutsNew path bytes told (Ok put) later
      → IfSome told (λ events. IsNone (object events (commit_path writing.version)) → Commits (Ok (by_file_writing writing)) events (Ok (record { version = writing.version })) later)
  made_commits None later put made did = tt
  made_commits (Some events) later puts.Made made did = λ free. adds_file events later free did.1
  made_commits (Some events) later puts.Exists made did = absurd (let no : puts.Exists ≡ puts.Made = made in cc)

  pub failed_commits : (told later : Option (List Told)) (error : StoreError) → error ≡ errors.Failed → PutsNew path bytes told (Err error) later
      → IfSome told (λ events. IsNone (object events (commit_path writing.version)) → Commits (Ok (by_file_writing writing)) events (Err refusals.Store) later)
  failed_commits None later error failed did = tt
  failed_commits (Some events) later errors.Failed failed (inl unmoved) = λ free. inl unmoved
  failed_commits (Some events) later errors.Failed failed (inr (none, made)) = λ free. inr (writing.version, adds_file events later free made)
  failed_commits (Some events) later errors.OutOfMemory failed did = absurd (let no : errors.OutOfMemory ≡ errors.Failed = failed in cc)

pub put_lawful : (version : ℕ) (path bytes text : List ℕ) (commit : List Action) (old new : Option (List Told)) (result : Result Put StoreError) → path ≡ commit_path version → version < 2 ^ 63
    → bytes ≡ text → PutsNew path bytes old result new → commit_of text ≡ Some commit → IfSome old (ComesNext version commit) → KeepsLawful old new
put_lawful version path bytes text commit old new result at small same put means next = put_keeps_lawful version path bytes commit old new result at small (ap commit_of same ∙ means) next put

-- the history, by what the put answered and what the commit answers
both_facts : (old new : Option (List Told)) (first : List Told → Type 0) (second third : List Told → List Told → Type 0)
    → ((events later : List Told) → first events → second events later → third events later) → IfSome old first → IfBoth old new second → IfBoth old new third
both_facts None None first second third join a b = tt
both_facts None (Some later) first second third join a b = absurd b
both_facts (Some events) None first second third join a b = absurd b
both_facts (Some events) (Some later) first second third join a b = join events later a b

pub put_history : (version : ℕ) (path bytes text : List ℕ) (commit : List Action) (old new : Option (List Told)) (result : Result Put StoreError) (answer : Result Committed Refusal)
    → path ≡ commit_path version → version < 2 ^ 63 → bytes ≡ text → PutsNew path bytes old result new
    → ((events later : List Told) → version ≡ next_version events → HistoryAfterPut commit result events later → HistoryAfterCommit commit answer events later)
    → commit_of text ≡ Some commit → IfSome old (ComesNext version commit) → IfBoth old new (SaysHistory commit answer)
put_history version path bytes text commit old new result answer at small same put answers means next =
    both_facts old new (ComesNext version commit) (λ events later. (horizon : ℤ) → Lawful events horizon → HistoryAfterPut commit result events later) (SaysHistory commit answer)
    (λ events later comes says horizon lawful. answers events later ((comes horizon lawful).next) (says horizon lawful))
    next (put_adds_commit version path bytes commit old new result at small (ap commit_of same ∙ means) next put)

pub made_history : (version : ℕ) (path bytes text : List ℕ) (commit : List Action) (old new : Option (List Told)) (put : Put) → path ≡ commit_path version → version < 2 ^ 63 → bytes ≡ text
    → put ≡ puts.Made → PutsNew path bytes old (Ok put) new
    → commit_of text ≡ Some commit → IfSome old (ComesNext version commit) → IfBoth old new (SaysHistory commit (Ok (record { version = version })))
made_history version path bytes text commit old new put at small same made did = put_history version path bytes text commit old new (Ok put) (Ok (record { version = version })) at small same did
    (λ events later next says. (next, subst (λ p. HistoryAfterPut commit (Ok p) events later) made says))

pub failed_history : (version : ℕ) (path bytes text : List ℕ) (commit : List Action) (old new : Option (List Told)) (error : StoreError) → path ≡ commit_path version → version < 2 ^ 63 → bytes ≡ text
    → error ≡ errors.Failed → PutsNew path bytes old (Err error) new
    → commit_of text ≡ Some commit → IfSome old (ComesNext version commit) → IfBoth old new (SaysHistory commit (Err refusals.Store))
failed_history version path bytes text commit old new error at small same failed did = put_history version path bytes text commit old new (Err error) (Err refusals.Store) at small same did
    (λ events later next says. subst (λ e. HistoryAfterPut commit (Err e) events later) failed says)
