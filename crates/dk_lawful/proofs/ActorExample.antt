-- Those at work on the example fit, and an id that comes twice is told apart.
use Rattle.std.proofs.Common.{◌≡◌, ℕ, zero, suc, ℤ, pos, ◌≤◌, length, take, List, [], ◌∷◌, ◌++◌, Option, Some, None, codes, slice_get, refl, sym, ap, subst, ◌∙◌, arith, true≢false}
use Rattle.std.specs.Prelude.{Contains}
use Rattle.uuid.specs.Text.{by_index}
use Rattle.dk_model.specs.CommitText.{commit_of}
use Rattle.dk_model.specs.InfoObject.{info_of}
use Rattle.dk_paths.specs.Names.{commit_path}
use Rattle.dk_model.specs.declared.action.Action.{Action}
use Rattle.dk_model.specs.declared.state.TableState.{TableState}
use Rattle.dk_model.specs.State.{fold}
use Rattle.dk_paths.specs.Numbers.{id_text}
use Rattle.dk_paths.specs.Places.{Commit_at, Sidecar, Staged, IsPlace, place_path, sidecar_name}
use Rattle.dk_paths.proofs.PlaceLaws.{place_of_path}
use Rattle.dk_lawful.specs.Present.{Holds}
use Rattle.dk_lawful.specs.Agree.{Agree}
use Rattle.dk_lawful.specs.Rules.{IsValidNext}
use Rattle.dk_lawful.specs.ManagedExample.{founding_actions, founded}
use Rattle.dk_lawful.specs.History.{RatifiedCommit, by_file, history, commits_of, commits_before, next_version, table_at}
use Rattle.dk_lawful.specs.Permits.{AddsCommit}
use Rattle.dk_lawful.specs.Lawful.{Lawful}
use Rattle.dk_lawful.specs.Ids.{HasId, SaysId, StandsNowhere}
use Rattle.dk_lawful.specs.Actors.{Snapshot, OwnStaged, OwnFits, TransactionFits, JobFits, HasDrawn, HasDrawnSidecars, IsDrawn, IsOpened, drawn, commit_by}
use Rattle.dk_lawful.specs.Example.{first_actions, second_actions, example}
use Rattle.dk_lawful.specs.ActorExample.{opened_snapshot, begun_there, job_there, at_work, BothFit, signed_text, signed_actions, signing, signing_again, SignedTwiceIsLawful, SignedTwiceIsNotOnce, AddsAgain, AddsOne, own_text, own_actions, own_staged, opened_managed, with_own, staging_actors, OwnIsLawful, OwnFitsThere}
use Rattle.dk_lawful.proofs.OnTexts.{commits_on_literals, rules_on_literals}
use Rattle.dk_lawful.proofs.Standing.{commit_place, made_here, held_once}
use Rattle.dk_lawful.proofs.CheckpointExample.{made, quiet}
use Rattle.dk_lawful.proofs.ManagedExample.{only_founded, founded_is_lawful, founded_history}
use Rattle.dk_lawful.proofs.SegmentsAgree.{agrees_itself}
use Rattle.dk_lawful.proofs.SoundMade.{adds_itself}
use Rattle.dk_lawful.proofs.StayFit.{begun_fits}
use Rattle.dk_lawful.proofs.Example.{adds, permitted, example_is_lawful, example_history, example_next, only_commits}
use Rattle.dk_lawful.proofs.MoreExamples.{example_published}

-- ---- the example has no ids

none_in : (version : ℕ) (id : List ℕ) (commit : RatifiedCommit) → slice_get (by_file first_actions ∷ by_file second_actions ∷ []) version ≡ Some commit → SaysId id commit → ⊥
none_in zero id commit is says = let same : by_file first_actions ≡ commit = cc in true≢false (sym (subst (SaysId id) (sym same) says))
none_in (suc zero) id commit is says = let same : by_file second_actions ≡ commit = cc in true≢false (sym (subst (SaysId id) (sym same) says))
none_in (suc (suc version)) id commit is says = let no : ◌≡◌ {A = Option RatifiedCommit} None (Some commit) = is in cc

nowhere : (id : List ℕ) → StandsNowhere example id
nowhere id version (commit, is, says) = none_in version id commit (ap (λ h. slice_get h version) (sym example_history) ∙ is) says

-- ---- a transaction and a job

only_one : {A : Type 0} (x y : A) → Contains (x ∷ []) y → y ≡ x
only_one x y (zero, within, is) = sym is
only_one x y (suc k, within, is) = absurd (omega arith)

is_opened : (horizon : ℤ) (s : Snapshot) → ◌≡◌ {A = Option Snapshot} (Some opened_snapshot) (Some s) → IsOpened example horizon s
is_opened horizon s is =
    let same : opened_snapshot ≡ s = cc in
    subst (IsOpened example horizon) same (record { known = (let next = example_next in omega (arith, next)); agrees = agrees_itself (table_at example 1) horizon })

none_is_some : {A : Type 0} (x : A) → ◌≡◌ {A = Option A} None (Some x) → ⊥
none_is_some x is = cc

no_sidecar : (name held : List ℕ) → Holds example (Sidecar name) held → ⊥
no_sidecar name held holds = let only = only_commits (Sidecar name) held holds in let no : Commit_at only.0 ≡ Sidecar name = only.1 in cc

first_of_one : {A : Type 0} (x y : A) (place : ℕ) → slice_get (x ∷ []) place ≡ Some y → place ≡ 0
first_of_one x y zero is = refl
first_of_one x y (suc place) is = absurd (none_is_some y is)

pub both_fit : BothFit
both_fit base horizon from = record {
  transactions = λ t among. subst (TransactionFits example horizon) (sym (only_one (begun_there base) t among)) (begun_fits example horizon (drawn base 0) (Some opened_snapshot) (is_opened horizon) (nowhere _));
  jobs = λ job among. subst (JobFits example horizon) (sym (only_one (job_there base) job among)) (record {
    published = example_published;
    agrees = agrees_itself (table_at example 1) horizon;
    within = from;
    means = λ before name is bytes holds. absurd (no_sidecar name bytes holds);
  });
  ids = λ t among. subst (HasDrawn (at_work base)) (sym (only_one (begun_there base) t among)) (record { id = (0, (omega arith), refl); staged = λ own is. absurd (none_is_some own is) });
  sidecar_ids = λ job among. subst (HasDrawnSidecars (at_work base)) (sym (only_one (job_there base) job among)) (named base);
  apart = λ place other t u is is_other same. first_of_one (begun_there base) t place is ∙ sym (first_of_one (begun_there base) u other is_other);
  once = λ count small version other has. absurd (nowhere _ version has);
  unused = λ count least small version has. nowhere _ version has;
}
  where
    named : (base : ℕ) → HasDrawnSidecars (at_work base) (job_there base)
    named base zero name is = (drawn base 1, (1, (omega arith), refl), (let same : sidecar_name (drawn base 1) ≡ name = cc in sym same))
    named base (suc before) name is = absurd (none_is_some name is)

-- ---- an id that comes twice

signed_means : commit_of signed_text ≡ Some signed_actions
unfolding commits_on_literals info_of signed_text
signed_means = refl

signing_adds : AddsCommit example 2 signed_text
unfolding rules_on_literals
signing_adds = adds example (by_file first_actions ∷ by_file second_actions ∷ []) 2 signed_text signed_actions example_history refl refl refl signed_means

signed_is_lawful : (horizon : ℤ) → Lawful (signing ∷ example) horizon
signed_is_lawful horizon = (permitted example horizon 2 signed_text (pos 2) (omega arith) (example_is_lawful horizon) signing_adds, example_is_lawful horizon)

signed_more : history (signing ∷ example) ≡ history example ++ by_file signed_actions ∷ []
unfolding signing_adds adds
signed_more = adds_itself example (commit_path 2) signed_text (pos 2) 2 (commit_place 2 (omega arith)) signing_adds

signed_history : history (signing ∷ example) ≡ by_file first_actions ∷ by_file second_actions ∷ by_file signed_actions ∷ []
signed_history = signed_more ∙ ap (λ h. h ++ by_file signed_actions ∷ []) example_history

again_adds : AddsCommit (signing ∷ example) 3 signed_text
unfolding rules_on_literals
again_adds = adds (signing ∷ example) (by_file first_actions ∷ by_file second_actions ∷ by_file signed_actions ∷ []) 3 signed_text signed_actions signed_history refl refl refl signed_means

pub signed_twice_is_lawful : SignedTwiceIsLawful
signed_twice_is_lawful horizon = (permitted (signing ∷ example) horizon 3 signed_text (pos 3) (omega arith) (signed_is_lawful horizon) again_adds, signed_is_lawful horizon)

again_more : history (signing_again ∷ (signing ∷ example)) ≡ history (signing ∷ example) ++ by_file signed_actions ∷ []
unfolding again_adds adds
again_more = adds_itself (signing ∷ example) (commit_path 3) signed_text (pos 3) 3 (commit_place 3 (omega arith)) again_adds

signed_has : HasId (history (signing ∷ example)) 2 (codes "i")
signed_has = (by_file signed_actions, ap (λ h. slice_get h 2) signed_history, refl)

pub signed_twice_is_not_once : SignedTwiceIsNotOnce
signed_twice_is_not_once once =
    let whole : history (signing_again ∷ (signing ∷ example)) ≡ by_file first_actions ∷ by_file second_actions ∷ by_file signed_actions ∷ by_file signed_actions ∷ [] =
    again_more ∙ ap (λ h. h ++ by_file signed_actions ∷ []) signed_history in
    let same : ◌≡◌ {A = ℕ} 2 3 = once 2 3 (by_file signed_actions, ap (λ h. slice_get h 2) whole, refl) (by_file signed_actions, ap (λ h. slice_get h 3) whole, refl) in
    omega arith

pub adds_again : AddsAgain
adds_again once = once.0 (by_file signed_actions, again_more, refl) 2 signed_has

pub adds_one : AddsOne
adds_one none = none.0 (by_file signed_actions, signed_more, refl)

-- ---- a transaction with a staged commit of its own

own_means : commit_of own_text ≡ Some own_actions
unfolding commits_on_literals info_of own_text
own_means = refl

own_is : IsPlace (Staged 1 8)
own_is = record { version_small = omega arith; id_small = omega arith }

none_staged : (held : List ℕ) → Holds founded (Staged 1 8) held → ⊥
none_staged held holds = let no : Commit_at 0 ≡ Staged 1 8 = only_founded (Staged 1 8) held holds in cc

pub own_is_lawful : OwnIsLawful
own_is_lawful horizon = made founded (Staged 1 8) own_text (pos 1) horizon (founded_is_lawful horizon) own_is none_staged (let long = ap length founded_history in let most : next_version founded ≤ 1 = omega (arith, long) in most)

own_history : history own_staged ≡ by_file founding_actions ∷ []
own_history = quiet founded (Staged 1 8) own_text (pos 1) own_is (λ h. refl) ∙ founded_history

own_next : next_version own_staged ≡ 1
own_next = ap length own_history

-- what it commits at the moment after the one version, which may come next
committed : commit_by with_own (founding_actions ∷ []) (pos 6) ≡ own_actions
unfolding rules_on_literals id_text by_index
committed = refl

own_is_valid : IsValidNext (founding_actions ∷ []) own_actions
unfolding rules_on_literals
own_is_valid = refl

own_before : commits_before own_staged 1 ≡ founding_actions ∷ []
own_before = ap (λ h. take 1 (commits_of h)) own_history

managed_nowhere : (id : List ℕ) → StandsNowhere own_staged id
managed_nowhere id version (commit, is, says) = by version (ap (λ h. slice_get h version) (sym own_history) ∙ is)
  where
    by : (version : ℕ) → slice_get (by_file founding_actions ∷ []) version ≡ Some commit → ⊥
    by zero is = let same : by_file founding_actions ≡ commit = cc in true≢false (sym (subst (SaysId id) (sym same) says))
    by (suc version) is = none_is_some commit is

own_fits : (own : OwnStaged) → ◌≡◌ {A = Option OwnStaged} (Some (record { version = 1; uuid = 8 })) (Some own) → OwnFits own_staged with_own own
own_fits own is =
    let same : record { version = 1; uuid = 8 } ≡ own = cc in
    subst (OwnFits own_staged with_own) same (record {
      below = (let next = own_next in omega (arith, next));
      moment = pos 6;
      valid = subst (λ (commits : List (List Action)). IsValidNext commits (commit_by with_own commits (pos 6))) (sym own_before) (subst (IsValidNext (founding_actions ∷ [])) (sym committed) own_is_valid);
      means = λ bytes holds.
          let here = held_once own_staged (Staged 1 8) bytes own_text holds (made_here founded (place_path (Staged 1 8)) own_text (pos 1) (Staged 1 8) (place_of_path (Staged 1 8) own_is)) in
          ap commit_of here ∙ own_means ∙ ap Some (sym committed ∙ ap (λ (commits : List (List Action)). commit_by with_own commits (pos 6)) (sym own_before));
    })

managed_opened : (horizon : ℤ) (s : Snapshot) → ◌≡◌ {A = Option Snapshot} (Some opened_managed) (Some s) → IsOpened own_staged horizon s
managed_opened horizon s is =
    let same : opened_managed ≡ s = cc in
    subst (IsOpened own_staged horizon) same (record {
      known = (let next = own_next in omega (arith, next));
      agrees = subst (λ (t : TableState). Agree (table_at founded 0) t horizon) (ap (λ h. fold (take 1 (commits_of h))) (founded_history ∙ sym own_history)) (agrees_itself (table_at founded 0) horizon);
    })

pub own_fits_there : OwnFitsThere
own_fits_there horizon = record {
  transactions = λ t among. subst (TransactionFits own_staged horizon) (sym (only_one with_own t among)) (record {
    known = λ s is. (managed_opened horizon s is).known;
    agrees = λ s is. (managed_opened horizon s is).agrees;
    later = λ s is version has. absurd (managed_nowhere _ version has);
    once = λ version other has has_other. absurd (managed_nowhere _ version has);
    has_answered = λ version is. absurd (none_is_some version is);
    staged = own_fits;
  });
  jobs = λ job among. absurd (omega (arith, among.1));
  ids = λ t among. subst (HasDrawn staging_actors) (sym (only_one with_own t among)) (record { id = (0, (omega arith), refl); staged = drawn_second });
  sidecar_ids = λ job among. absurd (omega (arith, among.1));
  apart = λ place other t u is is_other same. first_of_one with_own t place is ∙ sym (first_of_one with_own u other is_other);
  once = λ count small version other has. absurd (managed_nowhere _ version has);
  unused = λ count least small version has. managed_nowhere _ version has;
}
  where
    drawn_second : (own : OwnStaged) → ◌≡◌ {A = Option OwnStaged} (Some (record { version = 1; uuid = 8 })) (Some own) → IsDrawn staging_actors own.uuid
    drawn_second own is = let same : record { version = 1; uuid = 8 } ≡ own = cc in subst (λ (o : OwnStaged). IsDrawn staging_actors o.uuid) same (1, (omega arith), refl)
