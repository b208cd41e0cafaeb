-- What a commit of a transaction comes to, by its parts, over a store that may tell its events.
use Rattle.std.proofs.Common.{◌≡◌, ℕ, ℤ, ◌-◌, true, false, List, ◌∷◌, nat_lt, refl, ap, ap₂, sym, subst, ◌∙◌, arith}
use Rattle.std.specs.Prelude.{Option, Some, None, Result, Ok, Err, IfSome}
use Rattle.std.specs.List.{AllByRecursion}
use Rattle.dk_store.specs.Told.{Told}
use Rattle.dk_model.specs.declared.action.Action.{Action}
use Rattle.dk_model.specs.declared.kind.Kind.{Kind}
use Rattle.dk_model.specs.declared.state.TableState.{TableState}
use Rattle.dk_model.specs.CommitText.{commit_of}
use Rattle.dk_model.specs.ReadBack.{IsReadable, own_info, written_of}
use Rattle.dk_paths.specs.Numbers.{id_text}
use Rattle.dk_conflicts.specs.declared.reads.Reads.{Reads}
use Rattle.dk_engine.specs.declared.limits.Limits.{Limits}
use Rattle.dk_engine.specs.declared.limits.Which.TheVariants as which
use Rattle.dk_engine.specs.declared.refusal.Refusal.{Refusal}
use Rattle.dk_engine.specs.declared.refusal.Refusal.TheVariants as refusals
use Rattle.dk_engine.specs.Answers.{Refuses, AnswersMeant}
use Rattle.dk_engine.proofs.Refused.{refused_by_part, gives_same}
use Rattle.dk_lawful.specs.declared.segment.Step.{Step}
use Rattle.dk_listing.specs.declared.catalogued.Catalogued.{Catalogued}
use Rattle.dk_listing.specs.Latest.{latest_of}
use Rattle.dk_listing.specs.OfEvents.{IsListingOf}
use Rattle.dk_listing.proofs.LatestOf.{latest_standing}
use Rattle.dk_segment.proofs.Agree.{walked_none}
use Rattle.dk_snapshot.specs.Surveyed.{Surveys}
use Rattle.dk_snapshot.specs.Steps.{AreSized}
use Rattle.dk_txn.specs.declared.start.Start.{Start}
use Rattle.dk_txn.specs.declared.transaction.Transaction.{Transaction}
use Rattle.dk_txn.specs.declared.prepared.Reached as reached_code
use Rattle.dk_txn.specs.declared.prepared.Reached.TheVariants as reached_codes
use Rattle.dk_txn.specs.declared.winners.Winners.{Winners}
use Rattle.dk_txn.specs.declared.winners.Found.{Found}
use Rattle.dk_lawful.specs.History.{Way, By_file}
use Rattle.dk_txn.proofs.ByFile.{allowed_by_file, may_allowed}
use Rattle.dk_txn.proofs.Starts.{chosen, not_chosen}
use Rattle.dk_txn.proofs.Written.{allowed_reads}
use Rattle.dk_txn.specs.Attempt.{last_version, own_commit, commit_text, allowed, Writing, written_after, if_allowed, if_within}
use Rattle.dk_txn.specs.Winners.{Since, Own, Others, gone, or_gone, since_steps, since_sources, sources, commit_at, AreWinners}
use Rattle.dk_txn.specs.Transactions.{Reached, After, come_to, unless_conflict, and_also, rules_keep, may_come, reached_view, reached_as, writing_at, Outcome, ToWrite, to_write, outcome_after, reached_by_steps, reached_at, outcome_at, next_from, outcome}

-- ---- a winner that is missing is gone

-- what refuses a part, gone where it is missing, refuses what is made of it
pub gone_by_part : {X Y : Type 0} (whole : Result X Refusal → Result Y Refusal) → ((r : Refusal) → whole (Err r) ≡ Err (gone r))
    → (refusal : Refusal) (part : Result X Refusal) → Refuses refusal part → Refuses (gone refusal) (whole part)
gone_by_part whole hands refusals.Store part means = tt
gone_by_part whole hands refusals.OutOfMemory part means = tt
gone_by_part whole hands (refusals.Taken path) part means = absurd means
gone_by_part whole hands refusal part means = ap whole means ∙ hands _

-- what was read of the winners, as what came since
module _ (limit : ℕ) (t : Transaction) (first : ℕ) (state : TableState) (found : List Step) (sizes : List (Option ℕ)) (own : List Action) (id : List ℕ) (state_is : state ≡ t.from.before) (own_is : own ≡ t.actions.items) (id_is : id ≡ id_text t.id) where
  abbrev read : List Told → Result Reached Refusal
  read events = come_to t.reads own first state None (since_steps events limit id first found)

  read_is : (events : List Told) → or_gone (read events) ≡ reached_by_steps events limit t first found
  read_is events =
      ap (λ (s : TableState). or_gone (come_to t.reads own first s None (since_steps events limit id first found))) state_is
      ∙ ap₂ (λ (o : List Action) (i : List ℕ). or_gone (come_to t.reads o first t.from.before None (since_steps events limit i first found))) own_is id_is

  pub reach_refused : (told : Option (List Told)) (refusal result : Refusal) → result ≡ gone refusal → IfSome told (λ events. AreSized events found sizes → Refuses refusal (read events))
      → IfSome told (λ events. AreSized events found sizes → Refuses result (reached_by_steps events limit t first found))
  reach_refused None refusal result is means = tt
  reach_refused (Some events) refusal result is means = λ sized.
      subst (λ (r : Refusal). Refuses r (reached_by_steps events limit t first found)) (sym is)
      (subst (λ (m : Result Reached Refusal). Refuses (gone refusal) m) (read_is events) (gone_by_part or_gone (λ r. refl) refusal (read events) (means sized)))

  pub reach_found : (told : Option (List Told)) (after : TableState) (what : Found) (answer : Reached) → reached_view after what ≡ answer → IfSome told (λ events. AreSized events found sizes → read events ≡ Ok (reached_view after what))
      → IfSome told (λ events. AreSized events found sizes → reached_by_steps events limit t first found ≡ Ok answer)
  reach_found None after what answer is means = tt
  reach_found (Some events) after what answer is means = λ sized. sym (read_is events) ∙ ap or_gone (means sized) ∙ ap (λ (r : Reached). Ok r) is

-- ---- what came since, by the sources of the winners

come_gone : (reads : Reads) (own : List Action) (version : ℕ) (state : TableState) (first : Option (ℕ × Kind)) (meant : Result Since Refusal)
    → come_to reads own version state first (or_gone meant) ≡ or_gone (come_to reads own version state first meant)
come_gone reads own version state first (Ok (Own at)) = refl
come_gone reads own version state first (Ok (Others winners)) = refl
come_gone reads own version state first (Err refusal) = refl

module _ (events : List Told) (limits : Limits) (t : Transaction) where
  -- by what the winners are read from
  abbrev reached_from : Result (List Step) Refusal → Result Reached Refusal
  reached_from found = come_to t.reads t.actions.items t.from.version t.from.before None (or_gone (since_sources events limits.object (id_text t.id) t.from.version found))

  by_steps : (next : ℕ) (found : List Step) → sources events t.from.version (next - t.from.version) ≡ Ok found → reached_by_steps events limits.object t t.from.version found ≡ reached_at events limits t next
  by_steps next found is =
      sym (come_gone t.reads t.actions.items t.from.version t.from.before None (since_steps events limits.object (id_text t.id) t.from.version found))
      ∙ ap reached_from (sym is)

  -- no version came since
  pub none_reached : (next : ℕ) → t.from.version ≡ next → reached_at events limits t next ≡ Ok (After t.from.before None)
  none_reached next same =
      let none : next - t.from.version ≡ 0 = omega (arith, same) in
      ap reached_from (ap (λ (n : ℕ). sources events t.from.version n) none ∙ walked_none (commit_at events) t.from.version)

-- with no winners it comes where it began
pub none_next : {X : Type 0} (view : X → Outcome) (told : Option (List Told)) (listing : Catalogued) (limits : Limits) (t : Transaction) (now passed : ℤ) (next : ℕ) (result : Result X Refusal) → passed ≡ now → t.from.version ≡ next
    → AnswersMeant view result (to_write (writing_at t limits passed t.from None))
    → IfSome told (λ events. IsListingOf events listing → AnswersMeant view result (outcome_after t limits now next (reached_at events limits t next)))
none_next view None listing limits t now passed next result moment same means = tt
none_next view (Some events) listing limits t now passed next result moment same means = λ is.
    gives_same view result (to_write (writing_at t limits passed t.from None)) (outcome_after t limits now next (reached_at events limits t next))
    (ap₂ (λ (n : ℤ) (v : ℕ). to_write (writing_at t limits n (record { version = v; before = t.from.before }) None)) moment same
    ∙ ap (outcome_after t limits now next) (sym (none_reached events limits t next same))) means

-- the winners that are found, and what follows them
pub winners_next : {X : Type 0} (view : X → Outcome) (told : Option (List Told)) (listing : Catalogued) (limits : Limits) (t : Transaction) (now passed : ℤ) (next : ℕ) (winners : Winners) (result : Result X Refusal) → passed ≡ now
    → (winners.first ≡ t.from.version) × (winners.next ≡ next)
    → ((events : List Told) → IsListingOf events listing → AreWinners events t.from.version (next - t.from.version) (Ok winners))
    → IfSome told (λ events. AreSized events winners.steps.items winners.sizes.items → AnswersMeant view result (outcome_after t limits passed winners.next (reached_by_steps events limits.object t winners.first winners.steps.items)))
    → IfSome told (λ events. IsListingOf events listing → AnswersMeant view result (outcome_after t limits now next (reached_at events limits t next)))
winners_next view None listing limits t now passed next winners result moment ends found means = tt
winners_next view (Some events) listing limits t now passed next winners result moment ends found means = λ is.
    let are = found events is in
    gives_same view result (outcome_after t limits passed winners.next (reached_by_steps events limits.object t winners.first winners.steps.items)) (outcome_after t limits now next (reached_at events limits t next))
    (ap₂ (λ (v n : ℕ). outcome_after t limits passed n (reached_by_steps events limits.object t v winners.steps.items)) ends.0 ends.1
    ∙ ap₂ (λ (n : ℤ) (r : Result Reached Refusal). outcome_after t limits n next r) moment (by_steps events limits t next winners.steps.items are.0)) (means are.1)

pub winners_gone : (told : Option (List Told)) (listing : Catalogued) (limits : Limits) (t : Transaction) (now : ℤ) (next : ℕ) (refusal result : Refusal) → result ≡ gone refusal
    → ((events : List Told) → IsListingOf events listing → AreWinners events t.from.version (next - t.from.version) (Err refusal))
    → IfSome told (λ events. IsListingOf events listing → Refuses result (outcome_after t limits now next (reached_at events limits t next)))
winners_gone None listing limits t now next refusal result is_gone found = tt
winners_gone (Some events) listing limits t now next refusal result is_gone found = λ is.
    subst (λ (r : Refusal). Refuses r (outcome_after t limits now next (reached_at events limits t next))) (sym is_gone)
    (gone_by_part (λ (found_steps : Result (List Step) Refusal). outcome_after t limits now next (reached_from events limits t found_steps)) (λ r. refl) refusal
    (sources events t.from.version (next - t.from.version)) (found events is))

-- ---- after the winners

-- all that was reached are commits of others
pub after_others : {X : Type 0} (view : X → Outcome) (told : Option (List Told)) (limits : Limits) (t : Transaction) (now passed : ℤ) (next first : ℕ) (after : TableState) (found : List Step) (sizes : List (Option ℕ)) (what : reached_code.Reached) (conflict : Option (ℕ × Kind)) (result : Result X Refusal) → passed ≡ now → what ≡ reached_codes.After after conflict
    → IfSome told (λ events. AreSized events found sizes → reached_by_steps events limits.object t first found ≡ Ok (reached_as what))
    → AnswersMeant view result (to_write (writing_at t limits passed (record { version = next; before = after }) conflict))
    → IfSome told (λ events. AreSized events found sizes → AnswersMeant view result (outcome_after t limits now next (reached_by_steps events limits.object t first found)))
after_others view None limits t now passed next first after found sizes what conflict result moment others reaches means = tt
after_others view (Some events) limits t now passed next first after found sizes what conflict result moment others reaches means = λ sized.
    gives_same view result (to_write (writing_at t limits passed (record { version = next; before = after }) conflict)) (outcome_after t limits now next (reached_by_steps events limits.object t first found))
    (ap (λ (n : ℤ). to_write (writing_at t limits n (record { version = next; before = after }) conflict)) moment
    ∙ ap (outcome_after t limits now next) (sym (reaches sized ∙ ap (λ (r : reached_code.Reached). Ok (reached_as r)) others))) means

-- ---- by the listing

module _ (limits : Limits) (t : Transaction) (now : ℤ) (listing : Catalogued) (last : Option ℕ) (next : ℕ) (is_latest : last ≡ latest_of listing) (is_next : next ≡ next_from t.from.version last) where
  outcome_is : (events : List Told) → IsListingOf events listing → outcome events limits t now ≡ outcome_at events limits t now next
  outcome_is events is = ap (outcome_at events limits t now) (ap (next_from t.from.version) (sym (latest_standing events listing is) ∙ sym is_latest) ∙ sym is_next)

  pub no_next : (told : Option (List Told)) → nat_lt last_version next ≡ true
      → IfSome told (λ events. IsListingOf events listing → outcome events limits t now ≡ Err (refusals.Limit which.Version last_version))
  no_next None above = tt
  no_next (Some events) above = λ is.
      outcome_is events is ∙ chosen (nat_lt last_version next) (Err (refusals.Limit which.Version last_version)) (outcome_after t limits now next (reached_at events limits t next)) above

  pub listed_next : {X : Type 0} (view : X → Outcome) (told : Option (List Told)) (passed : ℤ) (result : Result X Refusal) → passed ≡ now → nat_lt last_version next ≡ false
      → IfSome told (λ events. IsListingOf events listing → AnswersMeant view result (outcome_after t limits passed next (reached_at events limits t next)))
      → IfSome told (λ events. IsListingOf events listing → AnswersMeant view result (outcome events limits t now))
  listed_next view None passed result moment within means = tt
  listed_next view (Some events) passed result moment within means = λ is.
      gives_same view result (outcome_after t limits passed next (reached_at events limits t next)) (outcome events limits t now)
      (ap (λ (n : ℤ). outcome_after t limits n next (reached_at events limits t next)) moment
      ∙ sym (not_chosen (nat_lt last_version next) (Err (refusals.Limit which.Version last_version)) (outcome_after t limits now next (reached_at events limits t next)) within)
      ∙ sym (outcome_is events is)) (means is)

  pub listed_gone : (told : Option (List Told)) (refusal : Refusal) → nat_lt last_version next ≡ false
      → IfSome told (λ events. IsListingOf events listing → Refuses refusal (outcome_after t limits now next (reached_at events limits t next)))
      → IfSome told (λ events. IsListingOf events listing → Refuses refusal (outcome events limits t now))
  listed_gone told refusal within means = listed_next {X = Outcome} (λ (meant : Outcome). meant) told now (Err refusal) refl within means

-- ---- by a survey

refused_survey : (events : List Told) (limits : Limits) (t : Transaction) (now : ℤ) (refusal : Refusal) → Surveys events (Err refusal) → Refuses refusal (outcome events limits t now)
refused_survey events limits t now refusals.Store found = tt
refused_survey events limits t now refusals.OutOfMemory found = tt
refused_survey events limits t now refusal found = absurd found

pub survey_refused : (told : Option (List Told)) (limits : Limits) (t : Transaction) (now : ℤ) (refusal : Refusal) → IfSome told (λ events. Surveys events (Err refusal))
    → IfSome told (λ events. Refuses refusal (outcome events limits t now))
survey_refused None limits t now refusal found = tt
survey_refused (Some events) limits t now refusal found = refused_survey events limits t now refusal found

pub survey_found : {X : Type 0} (view : X → Outcome) (told mid : Option (List Told)) (limits : Limits) (t : Transaction) (now passed : ℤ) (listing : Catalogued) (result : Result X Refusal) → passed ≡ now → mid ≡ told
    → IfSome told (λ events. IsListingOf events listing)
    → IfSome mid (λ events. IsListingOf events listing → AnswersMeant view result (outcome events limits t passed))
    → IfSome told (λ events. AnswersMeant view result (outcome events limits t now))
survey_found view None mid limits t now passed listing result moment still found means = tt
survey_found view (Some events) mid limits t now passed listing result moment still found means =
    let here : IsListingOf events listing → AnswersMeant view result (outcome events limits t passed) = rw still at means in
    gives_same view result (outcome events limits t passed) (outcome events limits t now) (ap (λ (n : ℤ). outcome events limits t n) moment) (here found)

-- ---- what is to be written

module _ (t : Transaction) (limits : Limits) (now : ℤ) (from : Start) (conflict : Option (ℕ × Kind)) (u : Unit {0}) (may : may_come t from conflict ≡ Ok u) (text : List ℕ) where
  -- so far it comes by file
  abbrev by_file : List ℕ → Writing
  by_file written = record { version = from.version; way = By_file; text = written }

  file_is : by_file (commit_text t.id now t.actions.items) ≡ written_after from (commit_text t.id now t.actions.items)
  file_is =
      ap (λ (way : Way). record { version = from.version; way = way; text = commit_text t.id now t.actions.items })
      (sym (allowed_by_file from t.actions.items t.id u (may_allowed t from conflict u may)))

  fits_at : text ≡ commit_text t.id now t.actions.items → if_within limits.object (by_file text) ≡ writing_at t limits now from conflict
  fits_at is =
      ap (λ (x : List ℕ). if_within limits.object (by_file x)) is
      ∙ ap (if_within limits.object) file_is
      ∙ ap (λ (m : Result (Unit {0}) Refusal). if_allowed m (if_within limits.object (written_after from (commit_text t.id now t.actions.items)))) (sym may)

  pub written_at : (writing : Writing) → text ≡ commit_text t.id now t.actions.items → if_within limits.object (by_file text) ≡ Ok writing
      → to_write (writing_at t limits now from conflict) ≡ Ok (ToWrite writing)
  written_at writing is fit = ap to_write (sym (fits_at is) ∙ fit)

  pub refused_at : (refusal : Refusal) → text ≡ commit_text t.id now t.actions.items → Refuses refusal (if_within limits.object (by_file text)) → Refuses refusal (to_write (writing_at t limits now from conflict))
  refused_at refusal is fit = refused_by_part to_write (λ r. refl) refusal (writing_at t limits now from conflict) (subst (λ (m : Result Writing Refusal). Refuses refusal m) (fits_at is) fit)

  -- what is written reads back as the own commit
  pub reads_at : (own : List Action) (written : List ℕ) → own ≡ t.actions.items → written ≡ text
      → (AllByRecursion IsReadable own → commit_of text ≡ Some (own_info (id_text t.id) ∷ written_of own)) → commit_of written ≡ Some (own_commit t.id t.actions.items)
  reads_at own written own_is same reads =
      ap commit_of same
      ∙ allowed_reads from t.actions.items t.id text u (may_allowed t from conflict u may) (subst (λ (o : List Action). AllByRecursion IsReadable o → commit_of text ≡ Some (own_info (id_text t.id) ∷ written_of o)) own_is reads)

-- the rules, of the actions as they are lent
pub rules_refuse : (t : Transaction) (from : Start) (conflict : Option (ℕ × Kind)) (own : List Action) (refusal : Refusal) → own ≡ t.actions.items → Refuses refusal (allowed from own t.id) → Refuses refusal (rules_keep t from conflict)
rules_refuse t from conflict own refusal same means =
    refused_by_part (λ (first : Result (Unit {0}) Refusal). and_also first (unless_conflict conflict)) (λ r. refl) refusal (allowed from t.actions.items t.id)
    (subst (λ (o : List Action). Refuses refusal (allowed from o t.id)) same means)

pub rules_pass : (t : Transaction) (from : Start) (conflict : Option (ℕ × Kind)) (own : List Action) (u : Unit {0}) (result : Result (Unit {0}) Refusal) → own ≡ t.actions.items → allowed from own t.id ≡ Ok u
    → AnswersMeant (λ (v : Unit {0}). v) result (unless_conflict conflict) → AnswersMeant (λ (v : Unit {0}). v) result (rules_keep t from conflict)
rules_pass t from conflict own u result same passes means =
    gives_same (λ (v : Unit {0}). v) result (unless_conflict conflict) (rules_keep t from conflict)
    (ap (λ (first : Result (Unit {0}) Refusal). and_also first (unless_conflict conflict)) (sym passes ∙ ap (λ (o : List Action). allowed from o t.id) same)) means
