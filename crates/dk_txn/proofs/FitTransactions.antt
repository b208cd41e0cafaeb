-- What a commit comes to of a transaction that stands to a lawful log as it should: the next commit of the history.
use Rattle.std.proofs.Common.{◌≡◌, ℕ, zero, suc, ℤ, ◌+◌, ◌-◌, ◌<◌, ◌≤◌, Bool, true, false, List, [], ◌∷◌, take, drop, nat_lt, refl, ap, sym, subst, ◌∙◌, arith, inl, inr, if◌then◌else◌}
use Rattle.std.specs.Prelude.{Option, Some, None, Result, Ok, Err, ◌==◌}
use Rattle.std.proofs.lemmas.Bool.Decides.{eqb_tells}
use Rattle.dk_store.specs.Told.{Told}
use Rattle.dk_model.specs.declared.action.Action.{Action}
use Rattle.dk_model.specs.declared.action.Protocol.{Protocol}
use Rattle.dk_model.specs.declared.kind.Kind.{Kind}
use Rattle.dk_model.specs.declared.state.TableState.{TableState}
use Rattle.dk_model.specs.State.{empty_state, steps, steps_of_all, fold}
use Rattle.dk_paths.specs.Numbers.{id_text}
use Rattle.dk_conflicts.specs.declared.reads.Reads.{Reads}
use Rattle.dk_conflicts.specs.Conflicts.{first_in_the_way}
use Rattle.dk_engine.specs.declared.limits.Limits.{Limits}
use Rattle.dk_engine.specs.declared.limits.Which.TheVariants as which
use Rattle.dk_engine.specs.declared.refusal.Refusal.{Refusal}
use Rattle.dk_engine.specs.declared.refusal.Refusal.TheVariants as refusals
use Rattle.dk_lawful.specs.Agree.{Agree}
use Rattle.dk_lawful.specs.History.{history, next_version, commits_of, table, table_at, table_before}
use Rattle.dk_lawful.specs.Ids.{HasId}
use Rattle.dk_lawful.specs.Lawful.{Lawful}
use Rattle.dk_lawful.specs.Managed.{is_managed}
use Rattle.dk_lawful.specs.SoFar.{HasNeither, first_broken_so_far}
use Rattle.dk_lawful.specs.Timestamps.{last_timestamp}
use Rattle.dk_lawful.specs.Rules.{IsValidNext, first_broken}
use Rattle.dk_lawful.proofs.HeadRules.{rules_by_heads}
use Rattle.dk_lawful.proofs.SegmentsAgree.{agree_steps, agrees_itself}
use Rattle.dk_lawful.proofs.Sound.{length_commits}
use Rattle.dk_lawful.proofs.Transacted.{transacted_plainly}
use Rattle.dk_features.specs.InForce.{has_feature}
use Rattle.dk_features.specs.Names.{catalog_managed}
use Rattle.dk_listing.specs.OfEvents.{latest}
use Rattle.dk_snapshot.specs.LawfulOpens.{last_of}
use Rattle.dk_snapshot.proofs.LastVersion.{latest_is_last}
use Rattle.dk_txn.specs.declared.start.Start.{Start}
use Rattle.dk_txn.specs.declared.transaction.Transaction.{Transaction}
use Rattle.dk_txn.specs.Attempt.{last_version, unbuilt, unsupported, own_commit, commit_text, allowed, Writing, written_after, if_allowed, if_within}
use Rattle.dk_txn.specs.Winners.{Since, Own, Others, since, kind_after, conflict_after}
use Rattle.dk_txn.specs.Transactions.{come_to, if_headed, headed, oldest_of, unless_conflict, and_also, may_come, writing_at, Outcome, AlreadyCommitted, ToWrite, to_write, outcome_after, reached_at, outcome_at, next_from, outcome, Comes}
use Rattle.dk_txn.specs.TransactionHistory.{FitsLog, StandsTo, snapshot_of, own_of}
use Rattle.dk_txn.specs.WinnerLaws.{AreLater}
use Rattle.dk_txn.specs.FitLaws.{IsNextOf, StandingIsNext, FitIsNext, FitComes}
use Rattle.dk_txn.proofs.ByFile.{allowed_by_file, file_way, may_allowed, written_by}
use Rattle.dk_txn.proofs.Concluding.{is_written, at_version}
use Rattle.dk_txn.proofs.LawfulWinners.{others_are_later, own_is_had}
use Rattle.dk_txn.proofs.Next.{no_commits}
use Rattle.dk_txn.proofs.RulesOfLaw.{none_has_neither, supported_has_neither, is_supported, keeps_law, kept_has_neither, says_no_times}
use Rattle.dk_txn.proofs.Written.{no_name, no_rule}

-- the line of its id, and its actions
abbrev pub plain_of : Transaction → List Action
plain_of t = own_commit t.id t.actions.items

-- the same commits on both sides keep states that agree
agree_all : (commits : List (List Action)) (state whole : TableState) (horizon : ℤ) → Agree state whole horizon → Agree (steps_of_all state commits) (steps_of_all whole commits) horizon
agree_all [] state whole horizon agree = agree
agree_all (commit ∷ commits) state whole horizon agree = agree_all commits (steps state commit) (steps whole commit) horizon (agree_steps state whole horizon commit agree)

-- the first commits and then the rest are all
all_steps : (commits : List (List Action)) (first : ℕ) (state : TableState) → steps_of_all (steps_of_all state (take first commits)) (drop first commits) ≡ steps_of_all state commits
all_steps commits zero state = refl
all_steps [] (suc first) state = refl
all_steps (commit ∷ commits) (suc first) state = all_steps commits first (steps state commit)

-- ---- one that is fit stands to the log

module _ (events : List Told) (horizon : ℤ) (t : Transaction) (fit : FitsLog events horizon t) where
  known_with : (first : Bool) → (t.from.version == 0) ≡ first → t.from.version ≤ next_version events
  known_with true is = elim (eqb_tells t.from.version 0) [
    | inl yes_it ↦ let none : t.from.version ≡ 0 = yes_it.1 in omega (arith, none)
    | inr no_it ↦ absurd (let no : true ≡ false = sym is ∙ no_it.0 in cc)
  ]
  known_with false is =
      let snapshot : snapshot_of t.from ≡ Some (record { version = t.from.version - 1; state = t.from.before }) =
      ap (λ (b : Bool). if b then None else Some (record { version = t.from.version - 1; state = t.from.before })) is in
      let below : t.from.version - 1 < next_version events = fit.fits.known (record { version = t.from.version - 1; state = t.from.before }) snapshot in
      omega (arith, below)

  agree_with : (first : Bool) → (t.from.version == 0) ≡ first → Agree t.from.before (table_before events t.from.version) horizon
  agree_with true is = elim (eqb_tells t.from.version 0) [
    | inl yes_it ↦
        let none : t.from.version ≡ 0 = yes_it.1 in
        subst (λ (n : ℕ). Agree t.from.before (table_before events n) horizon) (sym none)
        (subst (λ (s : TableState). Agree s empty_state horizon) (sym (fit.empty none)) (agrees_itself empty_state horizon))
    | inr no_it ↦ absurd (let no : true ≡ false = sym is ∙ no_it.0 in cc)
  ]
  agree_with false is =
      let snapshot : snapshot_of t.from ≡ Some (record { version = t.from.version - 1; state = t.from.before }) =
      ap (λ (b : Bool). if b then None else Some (record { version = t.from.version - 1; state = t.from.before })) is in
      let agree : Agree t.from.before (table_at events (t.from.version - 1)) horizon = fit.fits.agrees (record { version = t.from.version - 1; state = t.from.before }) snapshot in
      elim (eqb_tells t.from.version 0) [
        | inl yes_it ↦ absurd (let no : true ≡ false = sym yes_it.0 ∙ is in cc)
        | inr no_it ↦
            let back : (t.from.version - 1) + 1 ≡ t.from.version = some_before t.from.version no_it.1 in
            subst (λ (n : ℕ). Agree t.from.before (table_before events n) horizon) back agree
      ]
    where
      some_before : (n : ℕ) → (n ≡ 0 → ⊥) → (n - 1) + 1 ≡ n
      some_before zero not_none = absurd (not_none refl)
      some_before (suc n) not_none = omega arith

  pub fit_stands : StandsTo events horizon t
  fit_stands = record { known = known_with (t.from.version == 0) refl; agrees = agree_with (t.from.version == 0) refl }

  -- its id stands after the snapshot alone
  after_with : (first : Bool) → (t.from.version == 0) ≡ first → (version : ℕ) → HasId (history events) version (id_text t.id) → t.from.version ≤ version
  after_with true is version has = elim (eqb_tells t.from.version 0) [
    | inl yes_it ↦ let none : t.from.version ≡ 0 = yes_it.1 in omega (arith, none)
    | inr no_it ↦ absurd (let no : true ≡ false = sym is ∙ no_it.0 in cc)
  ]
  after_with false is version has =
      let snapshot : snapshot_of t.from ≡ Some (record { version = t.from.version - 1; state = t.from.before }) =
      ap (λ (b : Bool). if b then None else Some (record { version = t.from.version - 1; state = t.from.before })) is in
      let above : t.from.version - 1 < version = fit.fits.later (record { version = t.from.version - 1; state = t.from.before }) snapshot version has in
      omega (arith, above)

  pub stands_after : (version : ℕ) → HasId (history events) version (id_text t.id) → t.from.version ≤ version
  stands_after version has = after_with (t.from.version == 0) refl version has

-- ---- what is in the way

-- so far no kind looks at the state before a winner
claims_alike : (reads : Reads) (own : List Action) (one other : TableState) (version : ℕ) (winners : List (List Action)) → conflict_after reads own one version winners ≡ conflict_after reads own other version winners
claims_alike reads own one other version [] = refl
claims_alike reads own one other version (winner ∷ later) =
    ap (first_in_the_way version (kind_after reads own one winner)) (claims_alike reads own (steps one winner) (steps other winner) (version + 1) later)

module _ (events : List Told) (horizon : ℤ) (lawful : Lawful events horizon) (t : Transaction) (stands : StandsTo events horizon t) where
  abbrev commits : List (List Action)
  commits = commits_of (history events)

  within : t.from.version ≤ next_version events
  within = stands.known

  -- ---- the version that comes next

  next_with : (last : Option ℕ) (next : ℕ) → next_version events ≡ next → last ≡ last_of next → next_from t.from.version last ≡ next_version events
  next_with last zero is top = ap (next_from t.from.version) top ∙ (let low : t.from.version ≤ next_version events = within in omega (arith, is, low))
  next_with last (suc before) is top = ap (next_from t.from.version) top ∙ (let low : t.from.version ≤ next_version events = within in omega (arith, is, low))

  next_is : next_from t.from.version (latest events) ≡ next_version events
  next_is = next_with (latest events) (next_version events) refl (latest_is_last events horizon lawful)

  -- ---- what is to be written

  no_conflict : (conflict : Option (ℕ × Kind)) (u : Unit {0}) → unless_conflict conflict ≡ Ok u → conflict ≡ None
  no_conflict None u is = refl
  no_conflict (Some conflict) u is = absurd (let no : ◌≡◌ {A = Result (Unit {0}) Refusal} (Err (refusals.Conflict conflict.0 conflict.1)) (Ok u) = is in cc)

  record Passed (from : Start) (conflict : Option (ℕ × Kind)) : Type 0 where
    heads : headed (oldest_of t.segment) from ≡ Ok tt
    built : unbuilt from.before t.actions.items ≡ None
    rules : first_broken_so_far from.before from.version (plain_of t) ≡ None
    free : conflict ≡ None

  passed : (from : Start) (conflict : Option (ℕ × Kind)) (heads may free : Result (Unit {0}) Refusal) (writing : Writing) (meant : Result Writing Refusal) → headed (oldest_of t.segment) from ≡ heads → allowed from t.actions.items t.id ≡ may → unless_conflict conflict ≡ free
      → if_allowed (and_also heads (and_also may free)) meant ≡ Ok writing → Passed from conflict
  passed from conflict (Err refusal) may free writing meant heads_are is is_free done = absurd (let no : ◌≡◌ {A = Result Writing Refusal} (Err refusal) (Ok writing) = done in cc)
  passed from conflict (Ok u) (Err refusal) free writing meant heads_are is is_free done = absurd (let no : ◌≡◌ {A = Result Writing Refusal} (Err refusal) (Ok writing) = done in cc)
  passed from conflict (Ok u) (Ok v) (Err refusal) writing meant heads_are is is_free done = absurd (let no : ◌≡◌ {A = Result Writing Refusal} (Err refusal) (Ok writing) = done in cc)
  passed from conflict (Ok u) (Ok v) (Ok w) writing meant heads_are is is_free done = record {
    heads = heads_are;
    built = no_name (unbuilt from.before t.actions.items) (first_broken_so_far from.before from.version (own_commit t.id t.actions.items)) v is;
    rules = no_rule (unbuilt from.before t.actions.items) (first_broken_so_far from.before from.version (own_commit t.id t.actions.items)) v is;
    free = no_conflict conflict w is_free;
  }

  -- the table that it comes after has neither feature that isn't written so far
  neither_with : (from : Start) (first : Bool) → (from.version == 0) ≡ first → from.version ≡ next_version events → Agree from.before (table events) horizon
      → (if first then Ok tt else if_headed (oldest_of t.segment) from.before.protocol from.before.metadata) ≡ Ok tt → unsupported from.before ≡ None → HasNeither from.before.protocol
  neither_with from true is at agrees heads none = elim (eqb_tells from.version 0) [
    | inl yes_it ↦
        let empty : empty_state ≡ table events = no_commits (history events) (sym at ∙ yes_it.1) in
        subst HasNeither (ap (λ (s : TableState). s.protocol) empty ∙ sym agrees.protocol) none_has_neither
    | inr no_it ↦ absurd (let no : true ≡ false = sym is ∙ no_it.0 in cc)
  ]
  neither_with from false is at agrees heads none = supported_has_neither (oldest_of t.segment) from.before heads none

  neither_at : (from : Start) → from.version ≡ next_version events → Agree from.before (table events) horizon → headed (oldest_of t.segment) from ≡ Ok tt → unsupported from.before ≡ None
      → HasNeither from.before.protocol
  neither_at from at agrees heads none = neither_with from (from.version == 0) refl at agrees heads none

  module _ (limits : Limits) (now : ℤ) (writing : Writing) where
    by_others : (winners : List (List Action)) → AreLater events t.from.version (id_text t.id) winners
        → to_write (writing_at t limits now (record { version = next_version events; before = steps_of_all t.from.before winners }) (conflict_after t.reads t.actions.items t.from.before t.from.version winners)) ≡ Ok (ToWrite writing)
        → IsNextOf events t now writing
    by_others winners since_then is =
        let all : winners ≡ drop t.from.version commits = since_then.all in
        let from : Start = record { version = next_version events; before = steps_of_all t.from.before winners } in
        let conflict : Option (ℕ × Kind) = conflict_after t.reads t.actions.items t.from.before t.from.version winners in
        let meant : writing_at t limits now from conflict ≡ Ok writing = is_written (writing_at t limits now from conflict) writing is in
        let pass = passed from conflict (headed (oldest_of t.segment) from) (allowed from t.actions.items t.id) (unless_conflict conflict) writing
        (if_within limits.object (written_after from (commit_text t.id now t.actions.items))) refl refl refl meant in
        let at : writing.version ≡ next_version events = at_version (may_come t from conflict) limits.object from (commit_text t.id now t.actions.items) writing meant in
        let leads : steps_of_all (fold (take t.from.version commits)) winners ≡ table events =
        ap (steps_of_all (fold (take t.from.version commits))) all ∙ all_steps commits t.from.version empty_state in
        let agrees : Agree from.before (table events) horizon =
        subst (λ (s : TableState). Agree from.before s horizon) leads (agree_all winners t.from.before (fold (take t.from.version commits)) horizon stands.agrees) in
        let neither : HasNeither from.before.protocol = neither_at from refl agrees pass.heads (is_supported from.before t.actions.items pass.built) in
        let last : Option ℤ = last_timestamp commits in
        let valid : IsValidNext commits (plain_of t) =
        ap (λ (v : ℕ). first_broken (table events) last v (plain_of t)) (length_commits (history events))
        ∙ sym (rules_by_heads from.before (table events) last (next_version events) (plain_of t) agrees.protocol agrees.metadata)
        ∙ keeps_law from.before last (next_version events) t.actions.items t.id neither pass.built pass.rules in
        let after : Agree (steps from.before t.actions.items) (steps (table events) t.actions.items) horizon = agree_steps from.before (table events) horizon t.actions.items agrees in
        let written : own_of t events now ≡ plain_of t =
        transacted_plainly commits now (id_text t.id) t.actions.items
        (says_no_times (steps (table events) t.actions.items) (subst HasNeither after.protocol (kept_has_neither from.before from.version t.actions.items t.id pass.rules))) in
        let unmanaged : is_managed (table events) ≡ false = ap (λ (p : Option Protocol). has_feature p catalog_managed) (sym agrees.protocol) ∙ neither.unmanaged in
        record {
          next = at;
          way = written_by (may_come t from conflict) from limits.object (commit_text t.id now t.actions.items) writing (λ u may. allowed_by_file from t.actions.items t.id u (may_allowed t from conflict u may)) meant
              ∙ sym (file_way (table events) unmanaged);
          by_file = unmanaged;
          valid = subst (IsValidNext commits) (sym written) valid;
          written = written;
          free = claims_alike t.reads t.actions.items (table_before events t.from.version) t.from.before t.from.version (drop t.from.version commits)
              ∙ subst (λ (ws : List (List Action)). conflict_after t.reads t.actions.items t.from.before t.from.version ws ≡ None) all pass.free;
          none_own = since_then.none_own;
        }

    by_since : (meant : Result Since Refusal) → since events limits.object (id_text t.id) t.from.version (next_version events - t.from.version) ≡ meant
        → outcome_after t limits now (next_version events) (come_to t.reads t.actions.items t.from.version t.from.before None meant) ≡ Ok (ToWrite writing) → IsNextOf events t now writing
    by_since (Err refusal) since_is is = absurd (let no : ◌≡◌ {A = Result Outcome Refusal} (Err refusal) (Ok (ToWrite writing)) = is in cc)
    by_since (Ok (Own version)) since_is is = absurd (let no : ◌≡◌ {A = Result Outcome Refusal} (Ok (AlreadyCommitted version)) (Ok (ToWrite writing)) = is in cc)
    by_since (Ok (Others winners)) since_is is =
        by_others winners (others_are_later events horizon lawful limits.object (id_text t.id) t.from.version (next_version events - t.from.version) winners (let low : t.from.version ≤ next_version events = within in omega (arith, low)) since_is) is

    by_limit : (above : Bool) → (if above then Err (refusals.Limit which.Version last_version) else outcome_after t limits now (next_version events) (reached_at events limits t (next_version events))) ≡ Ok (ToWrite writing)
        → IsNextOf events t now writing
    by_limit true is = absurd (let no : ◌≡◌ {A = Result Outcome Refusal} (Err (refusals.Limit which.Version last_version)) (Ok (ToWrite writing)) = is in cc)
    by_limit false is = by_since (since events limits.object (id_text t.id) t.from.version (next_version events - t.from.version)) refl is

    standing_next : outcome events limits t now ≡ Ok (ToWrite writing) → IsNextOf events t now writing
    standing_next is = by_limit (nat_lt last_version (next_version events)) (sym (ap (outcome_at events limits t now) next_is) ∙ is)

  module _ (limits : Limits) (now : ℤ) (version : ℕ) where
    had_since : (meant : Result Since Refusal) → since events limits.object (id_text t.id) t.from.version (next_version events - t.from.version) ≡ meant
        → outcome_after t limits now (next_version events) (come_to t.reads t.actions.items t.from.version t.from.before None meant) ≡ Ok (AlreadyCommitted version) → HasId (history events) version (id_text t.id)
    had_since (Err refusal) since_is is = absurd (let no : ◌≡◌ {A = Result Outcome Refusal} (Err refusal) (Ok (AlreadyCommitted version)) = is in cc)
    had_since (Ok (Own at)) since_is is =
        let same : at ≡ version = (let both : ◌≡◌ {A = Result Outcome Refusal} (Ok (AlreadyCommitted at)) (Ok (AlreadyCommitted version)) = is in cc) in
        subst (λ (v : ℕ). HasId (history events) v (id_text t.id)) same
        (own_is_had events horizon lawful limits.object (id_text t.id) t.from.version (next_version events - t.from.version) at (let low : t.from.version ≤ next_version events = within in omega (arith, low)) since_is).1
    had_since (Ok (Others winners)) since_is is =
        absurd (never (writing_at t limits now (record { version = next_version events; before = steps_of_all t.from.before winners }) (conflict_after t.reads t.actions.items t.from.before t.from.version winners)) is)
      where
        never : (meant : Result Writing Refusal) → to_write meant ≡ Ok (AlreadyCommitted version) → ⊥
        never (Ok writing) is_it = let no : ◌≡◌ {A = Result Outcome Refusal} (Ok (ToWrite writing)) (Ok (AlreadyCommitted version)) = is_it in cc
        never (Err refusal) is_it = let no : ◌≡◌ {A = Result Outcome Refusal} (Err refusal) (Ok (AlreadyCommitted version)) = is_it in cc

    had_limit : (above : Bool) → (if above then Err (refusals.Limit which.Version last_version) else outcome_after t limits now (next_version events) (reached_at events limits t (next_version events))) ≡ Ok (AlreadyCommitted version)
        → HasId (history events) version (id_text t.id)
    had_limit true is = absurd (let no : ◌≡◌ {A = Result Outcome Refusal} (Err (refusals.Limit which.Version last_version)) (Ok (AlreadyCommitted version)) = is in cc)
    had_limit false is = had_since (since events limits.object (id_text t.id) t.from.version (next_version events - t.from.version)) refl is

    -- an own commit that is found stands in the history
    pub standing_had : outcome events limits t now ≡ Ok (AlreadyCommitted version) → HasId (history events) version (id_text t.id)
    standing_had is = had_limit (nat_lt last_version (next_version events)) (sym (ap (outcome_at events limits t now) next_is) ∙ is)

pub standing_is_next : StandingIsNext
standing_is_next events horizon limits t now writing lawful stands is = standing_next events horizon lawful t stands limits now writing is

pub fit_is_next : FitIsNext
fit_is_next events horizon limits t now writing lawful fit is =
    let next : IsNextOf events t now writing = standing_is_next events horizon limits t now writing lawful (fit_stands events horizon t fit) is in
    (next, λ version has. next.none_own version (stands_after events horizon t fit version has) has)

module _ (events : List Told) (horizon : ℤ) (limits : Limits) (t : Transaction) (now : ℤ) (lawful : Lawful events horizon) (stands : StandsTo events horizon t) where
  -- whatever the own commit is called
  comes_as : (own : List Action) → ((writing : Writing) → IsNextOf events t now writing → own_of t events now ≡ own) → (meant : Result Outcome Refusal) → outcome events limits t now ≡ meant → Comes meant own events
  comes_as own same (Err refusal) is = tt
  comes_as own same (Ok (AlreadyCommitted version)) is = tt
  comes_as own same (Ok (ToWrite writing)) is = λ other also.
      let next = standing_is_next events horizon limits t now writing lawful stands is in
      record { next = next.next; by_file = next.by_file; valid = subst (IsValidNext (commits_of (history events))) (same writing next) next.valid }

  pub plain_comes : Comes (outcome events limits t now) (plain_of t) events
  plain_comes = comes_as (plain_of t) (λ writing next. next.written) (outcome events limits t now) refl

pub fit_comes : FitComes
fit_comes events horizon limits t now lawful fit =
    comes_as events horizon limits t now lawful (fit_stands events horizon t fit) (own_of t events now) (λ writing next. refl) (outcome events limits t now) refl
