-- A transaction stands to the log as it should after its own commit, too.
use Rattle.std.proofs.Common.{◌≡◌, ℕ, ℤ, ◌+◌, ◌<◌, ◌≤◌, Bool, true, false, List, [], ◌∷◌, length, length-append, take, refl, ap, sym, subst, ◌∙◌, arith, inl, inr, ◌||◌}
use Rattle.std.specs.Prelude.{Option, Some, None, Result, Ok, Err, IfSome, is_some, option_map, slice_get}
use Rattle.std.specs.List.{list_any}
use Rattle.std.proofs.lemmas.Bool.{cases_lt}
use Rattle.std.proofs.lemmas.List.{map-append, take-append-le}
use Rattle.std.proofs.lemmas.Option.{slice_get_within}
use Rattle.dk_store.specs.Told.{Told}
use Rattle.dk_model.specs.declared.action.Action.{Action}
use Rattle.dk_model.specs.State.{fold}
use Rattle.dk_paths.specs.Numbers.{id_text}
use Rattle.dk_engine.specs.declared.limits.Limits.{Limits}
use Rattle.dk_engine.specs.declared.refusal.Refusal.{Refusal}
use Rattle.dk_engine.specs.declared.refusal.Refusal.TheVariants as refusals
use Rattle.dk_lawful.specs.Actors as actors
use Rattle.dk_lawful.specs.Agree.{Agree}
use Rattle.dk_lawful.specs.History.{RatifiedCommit, By_file, By_catalogue, by_file, history, commits_of, table}
use Rattle.dk_lawful.specs.Ids.{HasId, StandsNowhere, says}
use Rattle.dk_lawful.specs.Kept.{IfBoth, IsSameHistory, HasOneMore, KeepsLawful, StaysLawful}
use Rattle.dk_lawful.specs.Lawful.{Lawful}
use Rattle.dk_lawful.proofs.Lists.{slice_get-before, slice_get-end}
use Rattle.dk_lawful.proofs.Sound.{length_commits}
use Rattle.dk_lawful.proofs.Standing.{text_refl}
use Rattle.dk_txn.specs.declared.commit.Committed.{Committed}
use Rattle.dk_txn.specs.declared.transaction.StagedCommit.{StagedCommit}
use Rattle.dk_txn.specs.declared.transaction.Transaction.{Transaction}
use Rattle.dk_txn.specs.Attempt.{Writing, way_of, written_path}
use Rattle.dk_txn.specs.Commits.{HistoryAfterRefusal}
use Rattle.dk_txn.specs.Transactions.{Outcome, AlreadyCommitted, ToWrite, outcome, Concludes, Comes, ConcludesHistory, Remembers}
use Rattle.dk_txn.specs.TransactionHistory.{actor_of, own_staged, recorded_path, FitsLog, own_of, CommitsOwn, SaysOwn}
use Rattle.dk_txn.proofs.ByFile.{file_way}
use Rattle.dk_txn.proofs.FitTransactions.{plain_of, fit_stands, fit_is_next, plain_comes, standing_had, stands_after}
use Rattle.dk_txn.proofs.Lawfully.{nothing_added, refused_same}

-- ---- by the history alone

module _ (events later : List Told) (horizon : ℤ) (t : Transaction) (fit : FitsLog events horizon t) where
  -- the answered version has the id
  abbrev HasAnswered : Option ℕ → Type 0
  HasAnswered answered = (version : ℕ) → answered ≡ Some version → HasId (history later) version (id_text t.id)

  -- the staged commit that it has recorded fits
  abbrev StagedFits : Type 0
  StagedFits = (own : actors.OwnStaged) → (actor_of t).own ≡ Some own → actors.OwnFits later (actor_of t) own

  -- where commits are files of their own it has none
  staged_none : (staged : Option StagedCommit) (own : actors.OwnStaged) → option_map (λ (s : StagedCommit). written_path By_catalogue s.version s.uuid) staged ≡ None → option_map own_staged staged ≡ Some own → ⊥
  staged_none None own none is = let no : ◌≡◌ {A = Option actors.OwnStaged} None (Some own) = is in cc
  staged_none (Some s) own none is = let no : ◌≡◌ {A = Option (List ℕ)} (Some (written_path By_catalogue s.version s.uuid)) None = none in cc

  unstaged_fits : recorded_path t ≡ None → StagedFits
  unstaged_fits none = λ own is. absurd (staged_none t.staged own none is)

  same_staged : later ≡ events → StagedFits
  same_staged same = λ own is. subst (λ (es : List Told). actors.OwnFits es (actor_of t) own) (sym same) (fit.fits.staged own is)

  -- whatever was answered
  answered_fits : (answered : Option ℕ) (own : actors.OwnStaged) → actors.OwnFits later (actor_of t) own → actors.OwnFits later (record (actor_of t) { answered = answered }) own
  answered_fits answered own fits = record { below = fits.below; moment = fits.moment; valid = fits.valid; means = fits.means }

  with_answer : (answered : Option ℕ) → (way_of (table later) ≡ By_file → recorded_path t ≡ None) → actors.TransactionFits later horizon (record (actor_of t) { answered = answered })
      → FitsLog later horizon (record t { committed = answered })
  with_answer answered unstaged fits = record { fits = fits; empty = fit.empty; unstaged = unstaged }

  -- the history is as it was
  fits_same : IsSameHistory events later → StagedFits → (answered : Option ℕ) → HasAnswered answered → actors.TransactionFits later horizon (record (actor_of t) { answered = answered })
  fits_same same staged answered has = record {
    known = λ s is. subst (λ (h : List RatifiedCommit). s.version < length h) (sym same) (fit.fits.known s is);
    agrees = λ s is. subst (λ (h : List RatifiedCommit). Agree s.state (fold (take (s.version + 1) (commits_of h))) horizon) (sym same) (fit.fits.agrees s is);
    later = λ s is version had. fit.fits.later s is version (subst (λ (h : List RatifiedCommit). HasId h version (id_text t.id)) same had);
    once = λ version other had had_other. fit.fits.once version other (subst (λ (h : List RatifiedCommit). HasId h version (id_text t.id)) same had)
        (subst (λ (h : List RatifiedCommit). HasId h other (id_text t.id)) same had_other);
    has_answered = has;
    staged = λ own is. answered_fits answered own (staged own is);
  }

  -- the history is longer by the own commit, whose id stood nowhere
  module _ (more : HasOneMore (plain_of t) events later) (nowhere : StandsNowhere events (id_text t.id)) where
    longer_by_one : length (history later) ≡ length (history events) + 1
    longer_by_one = ap length more ∙ length-append (history events) (by_file (plain_of t) ∷ [])

    at_end : (version : ℕ) → HasId (history later) version (id_text t.id) → version ≡ length (history events)
    at_end version (commit, stands, says_it) = elim (cases_lt version (length (history events))) [
      | inl below ↦
          absurd (nowhere version (commit, sym (slice_get-before (history events) (by_file (plain_of t) ∷ []) version below) ∙ (ap (λ (h : List RatifiedCommit). slice_get h version) (sym more) ∙ stands), says_it))
      | inr most ↦
          let high = slice_get_within (history later) version commit stands in
          let long = longer_by_one in
          omega (arith, most, high, long)
    ]

    has_at_end : HasId (history later) (length (history events)) (id_text t.id)
    has_at_end = (
      by_file (plain_of t),
      ap (λ (h : List RatifiedCommit). slice_get h (length (history events))) more ∙ slice_get-end (history events) (by_file (plain_of t)),
      ap (λ (b : Bool). b || list_any (says (id_text t.id)) t.actions.items) (text_refl (id_text t.id)),
    )

    same_front : (count : ℕ) → count ≤ length (history events) → take count (commits_of (history later)) ≡ take count (commits_of (history events))
    same_front count most =
        ap (λ (h : List RatifiedCommit). take count (commits_of h)) more
        ∙ ap (take count) (map-append (λ (c : RatifiedCommit). c.actions) (history events) (by_file (plain_of t) ∷ []))
        ∙ take-append-le count (commits_of (history events)) (commits_of (by_file (plain_of t) ∷ [])) (let long = length_commits (history events) in omega (arith, most, long))

    fits_more : StagedFits → (answered : Option ℕ) → HasAnswered answered → actors.TransactionFits later horizon (record (actor_of t) { answered = answered })
    fits_more staged answered has = record {
      known = λ s is. let below = fit.fits.known s is in let long = longer_by_one in omega (arith, below, long);
      agrees = λ s is. subst (λ (cs : List (List Action)). Agree s.state (fold cs) horizon)
          (sym (same_front (s.version + 1) (let below = fit.fits.known s is in omega (arith, below)))) (fit.fits.agrees s is);
      later = λ s is version had. let at = at_end version had in let below = fit.fits.known s is in omega (arith, at, below);
      once = λ version other had had_other. at_end version had ∙ sym (at_end other had_other);
      has_answered = has;
      staged = λ own is. answered_fits answered own (staged own is);
    }

-- ---- what a commit did

module _ (events later : List Told) (limits : Limits) (t after : Transaction) (now : ℤ) (result : Result Committed Refusal) (fresh : t.committed ≡ None) (remembers : Remembers t result after)
    (keeps : Comes (outcome events limits t now) (plain_of t) events → StaysLawful events later)
    (horizon : ℤ) (lawful : Lawful events horizon) (fit : FitsLog events horizon t) where
  lawful_later : Lawful later horizon
  lawful_later = (keeps (plain_comes events horizon limits t now lawful (fit_stands events horizon t fit))).lawful horizon lawful

  none_answered : (h : List RatifiedCommit) (version : ℕ) → t.committed ≡ Some version → HasId h version (id_text t.id)
  none_answered h version is = absurd (let no : ◌≡◌ {A = Option ℕ} None (Some version) = sym fresh ∙ is in cc)

  as_before : Remembers t result after → (refusal : Refusal) → result ≡ Err refusal → after ≡ t
  as_before remembered refusal is = subst (λ (r : Result Committed Refusal). Remembers t r after) is remembered

  -- with a staged commit that fits
  fit_same : IsSameHistory events later → StagedFits events later horizon t fit → (way_of (table later) ≡ By_file → recorded_path t ≡ None) → after ≡ t → FitsLog later horizon after
  fit_same same staged unstaged is =
      subst (FitsLog later horizon) (sym is) (with_answer events later horizon t fit t.committed unstaged (fits_same events later horizon t fit same staged t.committed (none_answered (history later))))

  fit_more : HasOneMore (plain_of t) events later → StandsNowhere events (id_text t.id) → recorded_path t ≡ None → after ≡ t → FitsLog later horizon after
  fit_more more nowhere none is =
      subst (FitsLog later horizon) (sym is)
      (with_answer events later horizon t fit t.committed (λ file. none)
      (fits_more events later horizon t fit more nowhere (unstaged_fits events later horizon t fit none) t.committed (none_answered (history later))))

  fit_refused : (refusal : Refusal) → HistoryAfterRefusal refusal (plain_of t) events later → StandsNowhere events (id_text t.id) → recorded_path t ≡ None → after ≡ t → FitsLog later horizon after
  fit_refused refusals.Store (inl same) nowhere none is = fit_same same (unstaged_fits events later horizon t fit none) (λ file. none) is
  fit_refused refusals.Store (inr more) nowhere none is = fit_more more nowhere none is
  fit_refused refusal same nowhere none is = fit_same same (unstaged_fits events later horizon t fit none) (λ file. none) is

  -- ---- by what it came to

  same_told : ◌≡◌ {A = Option (List Told)} (Some later) (Some events) → later ≡ events
  same_told is = cc

  same_history : later ≡ events → IsSameHistory events later
  same_history is = ap history is

  -- nothing was added
  same_unstaged : later ≡ events → way_of (table later) ≡ By_file → recorded_path t ≡ None
  same_unstaged same file = fit.unstaged (ap (λ (es : List Told). way_of (table es)) (sym same) ∙ file)

  fit_unmoved : later ≡ events → after ≡ t → FitsLog later horizon after
  fit_unmoved same is = fit_same (same_history same) (same_staged events later horizon t fit same) (same_unstaged same) is

  answered_as : (version : ℕ) → result ≡ Ok (record { version = version }) → after ≡ record t { committed = Some version }
  answered_as version is = subst (λ (r : Result Committed Refusal). Remembers t r after) is remembers

  fit_answered : (version : ℕ) → after ≡ record t { committed = Some version } → (way_of (table later) ≡ By_file → recorded_path t ≡ None)
      → actors.TransactionFits later horizon (record (actor_of t) { answered = Some version }) → FitsLog later horizon after
  fit_answered version is unstaged fits = subst (FitsLog later horizon) (sym is) (with_answer events later horizon t fit (Some version) unstaged fits)

  answer_has : (version : ℕ) → HasId (history later) version (id_text t.id) → (other : ℕ) → ◌≡◌ {A = Option ℕ} (Some version) (Some other) → HasId (history later) other (id_text t.id)
  answer_has version has other is = let same : version ≡ other = cc in subst (λ (v : ℕ). HasId (history later) v (id_text t.id)) same has

  says_by : (meant : Result Outcome Refusal) → outcome events limits t now ≡ meant → (answer : Result Committed Refusal) → result ≡ answer → Concludes meant events answer (Some later)
      → ConcludesHistory meant (plain_of t) answer events later → CommitsOwn t after now answer events later horizon
  says_by (Ok (AlreadyCommitted version)) is (Ok committed) answers did said =
      let same : later ≡ events = same_told did.1 in
      let at : committed.version ≡ version = did.0 in
      let has : HasId (history events) committed.version (id_text t.id) =
      subst (λ (v : ℕ). HasId (history events) v (id_text t.id)) (sym at) (standing_had events horizon lawful t (fit_stands events horizon t fit) limits now version is) in
      record {
        lawful = lawful_later;
        history = inl (record { same = same; after = stands_after events horizon t fit committed.version has; has = has });
        fit = fit_answered committed.version (answered_as committed.version answers) (same_unstaged same)
            (fits_same events later horizon t fit (same_history same) (same_staged events later horizon t fit same) (Some committed.version)
            (answer_has committed.version (subst (λ (es : List Told). HasId (history es) committed.version (id_text t.id)) (sym same) has)));
      }
  says_by (Ok (AlreadyCommitted version)) is (Err refusal) answers did said =
      let same : later ≡ events = same_told did.1 in
      record { lawful = lawful_later; history = nothing_added refusal (own_of t events now) events later (same_history same); fit = fit_unmoved same (as_before remembers refusal answers) }
  says_by (Ok (ToWrite writing)) is (Ok committed) answers did said =
      let (at, more) = said horizon lawful in
      let (next, nowhere) = fit_is_next events horizon limits t now writing lawful fit is in
      let none : recorded_path t ≡ None = fit.unstaged (file_way (table events) next.by_file) in
      record {
        lawful = lawful_later;
        history = inr (record { next = at; more = subst (λ (own : List Action). HasOneMore own events later) (sym next.written) more; valid = next.valid; free = next.free });
        fit = fit_answered committed.version (answered_as committed.version answers) (λ file. none)
            (fits_more events later horizon t fit more nowhere (unstaged_fits events later horizon t fit none) (Some committed.version)
            (answer_has committed.version (subst (λ (v : ℕ). HasId (history later) v (id_text t.id)) (sym at) (has_at_end events later horizon t fit more nowhere))));
      }
  says_by (Ok (ToWrite writing)) is (Err refusal) answers did said =
      let (next, nowhere) = fit_is_next events horizon limits t now writing lawful fit is in
      let none : recorded_path t ≡ None = fit.unstaged (file_way (table events) next.by_file) in
      let history_after = said horizon lawful in
      record {
        lawful = lawful_later;
        history = subst (λ (own : List Action). HistoryAfterRefusal refusal own events later) (sym next.written) history_after;
        fit = fit_refused refusal history_after nowhere none (as_before remembers refusal answers);
      }
  says_by (Err cause) is (Ok committed) answers (writing, meant, at, adds) said = absurd (let no : ◌≡◌ {A = Result Writing Refusal} (Err cause) (Ok writing) = meant in cc)
  says_by (Err cause) is (Err refusal) answers did said =
      let same : later ≡ events = refused_same events later refusal cause did in
      record { lawful = lawful_later; history = nothing_added refusal (own_of t events now) events later (same_history same); fit = fit_unmoved same (as_before remembers refusal answers) }

-- ---- the whole

pub says_own : (events later : List Told) (limits : Limits) (t after : Transaction) (now : ℤ) (result : Result Committed Refusal) → t.committed ≡ None → Remembers t result after
    → Concludes (outcome events limits t now) events result (Some later)
    → (Comes (outcome events limits t now) (plain_of t) events → StaysLawful events later)
    → (Comes (outcome events limits t now) (plain_of t) events → ConcludesHistory (outcome events limits t now) (plain_of t) result events later)
    → SaysOwn t after now result events later
says_own events later limits t after now result fresh remembers did keeps says horizon lawful fit =
    says_by events later limits t after now result fresh remembers keeps horizon lawful fit (outcome events limits t now) refl result refl did (says (plain_comes events horizon limits t now lawful (fit_stands events horizon t fit)))

-- over what a store may tell
pub tells_own : (told new : Option (List Told)) (limits : Limits) (t after : Transaction) (now passed : ℤ) (result : Result Committed Refusal) → passed ≡ now → t.committed ≡ None → Remembers t result after → is_some new ≡ is_some told
    → IfSome told (λ events. Concludes (outcome events limits t passed) events result new)
    → (IfSome told (λ events. Comes (outcome events limits t passed) (plain_of t) events) → KeepsLawful told new)
    → (IfSome told (λ events. Comes (outcome events limits t passed) (plain_of t) events) → IfBoth told new (λ events later. ConcludesHistory (outcome events limits t passed) (plain_of t) result events later))
    → IfBoth told new (SaysOwn t after now result)
tells_own None None limits t after now passed result moment fresh remembers alike did keeps says = tt
tells_own None (Some later) limits t after now passed result moment fresh remembers alike did keeps says = absurd (let no : true ≡ false = alike in cc)
tells_own (Some events) None limits t after now passed result moment fresh remembers alike did keeps says = absurd (let no : false ≡ true = alike in cc)
tells_own (Some events) (Some later) limits t after now passed result moment fresh remembers alike did keeps says =
    subst (λ (n : ℤ). SaysOwn t after n result events later) moment (says_own events later limits t after passed result fresh remembers did keeps says)

-- again after an answer
pub tells_again : (told new : Option (List Told)) (t after : Transaction) (now : ℤ) (version : ℕ) (result : Result Committed Refusal) → t.committed ≡ Some version → result ≡ Ok (record { version = version }) → Remembers t result after → new ≡ told
    → IfBoth told new (SaysOwn t after now result)
tells_again None None t after now version result is answers remembers same = tt
tells_again None (Some later) t after now version result is answers remembers same = absurd (let no : ◌≡◌ {A = Option (List Told)} (Some later) None = same in cc)
tells_again (Some events) None t after now version result is answers remembers same = absurd (let no : ◌≡◌ {A = Option (List Told)} None (Some events) = same in cc)
tells_again (Some events) (Some later) t after now version result is answers remembers same = λ horizon lawful fit.
    let at : later ≡ events = cc in
    let has : HasId (history events) version (id_text t.id) = fit.fits.has_answered version is in
    let as_it_was : after ≡ record t { committed = Some version } = subst (λ (r : Result Committed Refusal). Remembers t r after) answers remembers in
    subst (λ (r : Result Committed Refusal). CommitsOwn t after now r events later horizon) (sym answers)
    (record {
      lawful = subst (λ (es : List Told). Lawful es horizon) (sym at) lawful;
      history = inl (record { same = at; after = stands_after events horizon t fit version has; has = has });
      fit = subst (FitsLog later horizon) (sym as_it_was)
          (with_answer events later horizon t fit (Some version) (λ file. fit.unstaged (ap (λ (es : List Told). way_of (table es)) (sym at) ∙ file))
          (fits_same events later horizon t fit (ap history at) (same_staged events later horizon t fit at) (Some version)
          (λ other is_other. let same_version : version ≡ other = cc in
          subst (λ (v : ℕ). HasId (history later) v (id_text t.id)) same_version (subst (λ (es : List Told). HasId (history es) version (id_text t.id)) (sym at) has))));
    })
