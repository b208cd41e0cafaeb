-- What others do leaves those who are at work fit.
use Rattle.std.proofs.Common.{◌≡◌, ℕ, ◌+◌, ◌*◌, ◌/◌, ◌^◌, ◌<◌, ◌≤◌, zero, suc, ◌⊎◌, inl, inr, length, take, slice_get, refl, List, [], ◌∷◌, ◌++◌, Option, Some, None, sym, ap, subst, ◌∙◌, arith, length-append}
use Rattle.std.specs.Prelude.{Contains}
use Rattle.std.proofs.lemmas.Bool.{cases_lt}
use Rattle.std.proofs.lemmas.Int.{ints}
use Rattle.std.proofs.Math.Nat.{mod-add-div}
use Rattle.std.proofs.lemmas.List.{map-append, take-append-le}
use Rattle.dk_model.specs.State.{fold}
use Rattle.dk_store.specs.Told.{Told, Made, Over, Deleted, Ratified, Forgotten}
use Rattle.dk_paths.specs.Numbers.{id_text}
use Rattle.dk_paths.specs.Places.{Place, Sidecar, Staged}
use Rattle.dk_lawful.specs.Present.{Holds}
use Rattle.dk_lawful.specs.History.{RatifiedCommit, history, next_version, commits_of}
use Rattle.dk_lawful.specs.Rules.{IsValidNext}
use Rattle.dk_lawful.specs.Agree.{Agree}
use Rattle.dk_lawful.specs.Actors.{OwnStaged, Transaction, commit_by, OwnFits, drawn, Writes, LeaveUnwritten, TransactionsStayFit, JobsStayFit, OthersStayFit, GreaterHorizonFits, NobodyFits, BegunFits, PutStaysFit, Snapshot, TransactionFits, Actors, IsDrawn, HasDrawn, begun, with_begun, AllFitWithBegun}
use Rattle.dk_lawful.proofs.IdsOnce.{ids_stand_once, ids_stay, ids_are_no_more}
use Rattle.dk_lawful.proofs.Sound.{length_commits, published_within}
use Rattle.dk_lawful.proofs.SoundOthers.{lawful_is_sound}
use Rattle.dk_lawful.proofs.Standing.{found_made, found_over, found_deleted, was_ratified, was_forgotten}
use Rattle.dk_lawful.proofs.Stays.{published_stays}
use Rattle.dk_lawful.proofs.Structure.{history_grows, agrees_beyond, prefixes_are_lawful}

-- what stands at a place stood before, where the event doesn't write it
stood : (event : Told) (events : List Told) (place : Place) (bytes : List ℕ) → (Writes event place → ⊥) → Holds (event ∷ events) place bytes → Holds events place bytes
stood (Made path made stamp) events place bytes apart holds = elim (found_made events path made stamp place bytes holds) [
  | inl (here, same) ↦ absurd (apart here)
  | inr before ↦ before
]
stood (Over path over stamp) events place bytes apart holds = found_over events path over stamp place bytes apart holds
stood (Deleted path) events place bytes apart holds = found_deleted events path place bytes holds
stood (Ratified version name) events place bytes apart holds = was_ratified events version name place bytes holds
stood (Forgotten upto) events place bytes apart holds = was_forgotten events upto place bytes holds

all_stood : (newer events : List Told) (place : Place) (bytes : List ℕ) → LeaveUnwritten newer place → Holds (newer ++ events) place bytes → Holds events place bytes
all_stood [] events place bytes apart holds = holds
all_stood (event ∷ newer) events place bytes apart holds = all_stood newer events place bytes apart.1 (stood event (newer ++ events) place bytes apart.0 holds)

module _ (newer events : List Told) where
  longer : next_version events ≤ next_version (newer ++ events)
  longer =
      let grown = history_grows newer events in
      let long : length (history (newer ++ events)) ≡ length (history events) + length grown.0 = ap length grown.1 ∙ length-append (history events) grown.0 in
      omega arith

  same_front : (count : ℕ) → count ≤ next_version events → take count (commits_of (history (newer ++ events))) ≡ take count (commits_of (history events))
  same_front count within =
      let grown = history_grows newer events in
      ap (λ h. take count (commits_of h)) grown.1
      ∙ ap (take count) (map-append (λ (c : RatifiedCommit). c.actions) (history events) grown.0)
      ∙ take-append-le count (commits_of (history events)) (commits_of grown.0) (let long = length_commits (history events) in omega arith)

  own_fits : (t : Transaction) (own : OwnStaged) → LeaveUnwritten newer (Staged own.version own.uuid) → OwnFits events t own → OwnFits (newer ++ events) t own
  own_fits t own apart fits = record {
    below = (let below = fits.below in let more = longer in omega arith);
    moment = fits.moment;
    valid = subst (λ commits. IsValidNext commits (commit_by t commits fits.moment)) (sym (same_front own.version fits.below)) fits.valid;
    means = λ bytes holds. fits.means bytes (all_stood newer events (Staged own.version own.uuid) bytes apart holds)
        ∙ ap (λ commits. Some (commit_by t commits fits.moment)) (sym (same_front own.version fits.below));
  }

pub transactions_stay_fit : TransactionsStayFit
transactions_stay_fit newer events horizon t others fits = record {
  known = λ s is. (let known = fits.known s is in let more = longer newer events in omega arith);
  agrees = λ s is. subst (λ commits. Agree s.state (fold commits) horizon) (sym (same_front newer events (s.version + 1) (let known = fits.known s is in omega arith))) (fits.agrees s is);
  later = λ s is version has. fits.later s is version (ids_are_no_more newer events version (id_text t.id) others.id has);
  once = λ version other has has_other.
      fits.once version other (ids_are_no_more newer events version (id_text t.id) others.id has) (ids_are_no_more newer events other (id_text t.id) others.id has_other);
  has_answered = λ version is. ids_stay newer events version (id_text t.id) (fits.has_answered version is);
  staged = λ own is. own_fits newer events t own (others.staged own is) (fits.staged own is);
}

pub jobs_stay_fit : JobsStayFit
jobs_stay_fit newer events horizon job lawful others fits =
    let within = published_within events horizon (lawful_is_sound events horizon (prefixes_are_lawful newer events horizon lawful)) job.version fits.published in
    record {
      published = published_stays newer events horizon lawful job.version fits.published;
      agrees = subst (λ commits. Agree job.state (fold commits) horizon) (sym (same_front newer events (job.version + 1) (omega arith))) fits.agrees;
      within = fits.within;
      means = λ before name is bytes holds. fits.means before name is bytes (all_stood newer events (Sidecar name) bytes (others before name is) holds);
    }

pub others_stay_fit : OthersStayFit
others_stay_fit newer events horizon actors lawful others others_to_jobs adds unused fits = record {
  transactions = λ t among. transactions_stay_fit newer events horizon t (others t among) (fits.transactions t among);
  jobs = λ job among. jobs_stay_fit newer events horizon job lawful (others_to_jobs job among) (fits.jobs job among);
  ids = fits.ids;
  sidecar_ids = fits.sidecar_ids;
  apart = fits.apart;
  once = λ count small. elim (cases_lt count actors.count) [
    | inl less ↦ ids_stand_once newer events (id_text (drawn actors.base count)) (adds count less) (fits.once count small)
    | inr most ↦ λ version other has has_other.
        absurd (fits.unused count most small version (ids_are_no_more newer events version (id_text (drawn actors.base count)) (unused count most small) has))
  ];
  unused = λ count least small version has. fits.unused count least small version (ids_are_no_more newer events version _ (unused count least small) has);
}

pub greater_horizon_fits : GreaterHorizonFits
greater_horizon_fits events horizon greater actors up fits = record {
  transactions = λ t among.
      let old = fits.transactions t among in
      record {
        known = old.known;
        agrees = λ s is. agrees_beyond _ _ horizon greater up (old.agrees s is);
        later = old.later;
        once = old.once;
        has_answered = old.has_answered;
        staged = old.staged;
      };
  jobs = λ job among.
      let old = fits.jobs job among in
      record {
        published = old.published;
        agrees = agrees_beyond _ _ horizon greater up old.agrees;
        within = (let within = old.within in omega (arith, ints));
        means = old.means;
      };
  ids = fits.ids;
  sidecar_ids = fits.sidecar_ids;
  apart = fits.apart;
  once = fits.once;
  unused = fits.unused;
}

pub nobody_fits : NobodyFits
nobody_fits events horizon base unused = record {
  transactions = λ t among. absurd (nothing_among t among);
  jobs = λ job among. absurd (nothing_among job among);
  ids = λ t among. absurd (nothing_among t among);
  sidecar_ids = λ job among. absurd (nothing_among job among);
  apart = λ place other t u is. absurd (let no : ◌≡◌ {A = Option Transaction} None (Some t) = is in cc);
  once = λ count small version other has. absurd (unused count small version has);
  unused = λ count least small. unused count small;
}
  where
    nothing_among : {A : Type 0} (x : A) → Contains [] x → ⊥
    nothing_among x (place, within, is) = absurd (omega arith)

-- ---- how a transaction begins and goes on

pub begun_fits : BegunFits
begun_fits events horizon id snapshot opened nowhere = record {
  known = λ s is. (opened s is).known;
  agrees = λ s is. (opened s is).agrees;
  later = λ s is version has. absurd (nowhere version has);
  once = λ version other has. absurd (nowhere version has);
  has_answered = λ version is. absurd (let no : ◌≡◌ {A = Option ℕ} None (Some version) = is in cc);
  staged = λ own is. absurd (let no : ◌≡◌ {A = Option OwnStaged} None (Some own) = is in cc);
}

pub put_stays_fit : PutStaysFit
put_stays_fit events horizon t actions fits = record {
  known = fits.known;
  agrees = fits.agrees;
  later = fits.later;
  once = fits.once;
  has_answered = fits.has_answered;
  staged = λ own is. absurd (let no : ◌≡◌ {A = Option OwnStaged} None (Some own) = is in cc);
}

-- ids that are drawn apart differ
in_wraps : (whole base a b p q : ℕ) → p + 2 ^ 128 * q ≡ base + a → p + 2 ^ 128 * whole ≡ base + b → a < 2 ^ 64 → b < 2 ^ 64 → a ≡ b
in_wraps whole base a b p q one other small small_other = omega arith

pub drawn_apart : (base a b : ℕ) → a < 2 ^ 64 → b < 2 ^ 64 → drawn base a ≡ drawn base b → a ≡ b
drawn_apart base a b small small_other same =
    in_wraps ((base + b) / 2 ^ 128) base a b (drawn base a) ((base + a) / 2 ^ 128) (mod-add-div (base + a) (2 ^ 128))
    (ap (λ n. n + 2 ^ 128 * ((base + b) / 2 ^ 128)) same ∙ mod-add-div (base + b) (2 ^ 128)) small small_other

-- an element of a longer list is the first, or one of the rest
of_first : {A : Type 0} (x y : A) (xs : List A) → Contains (x ∷ xs) y → (y ≡ x) ⊎ Contains xs y
of_first x y xs (zero, within, is) = inl (sym is)
of_first x y xs (suc k, within, is) = inr (k, (omega arith), is)

at_is_among : {A : Type 0} (xs : List A) (i : ℕ) (x : A) → slice_get xs i ≡ Some x → Contains xs x
at_is_among [] i x is = absurd (let no : ◌≡◌ {A = Option _} None (Some x) = is in cc)
at_is_among (y ∷ xs) zero x is = (0, (omega arith), (let same : y ≡ x = cc in same))
at_is_among (y ∷ xs) (suc i) x is = let (k, within, at) = at_is_among xs i x is in (suc k, (omega arith), at)

drawn_on : (actors : Actors) (snapshot : Option Snapshot) (id : ℕ) → IsDrawn actors id → IsDrawn (with_begun actors snapshot) id
drawn_on actors snapshot id (count, below, is) = (count, (omega arith), is)

pub all_fit_with_begun : AllFitWithBegun
all_fit_with_begun events horizon actors snapshot small opened fits = record {
  transactions = λ t among. elim (of_first new t actors.transactions among) [
    | inl same ↦ subst (TransactionFits events horizon) (sym same) (begun_fits events horizon (drawn actors.base actors.count) snapshot opened (fits.unused actors.count (omega arith) small))
    | inr before ↦ fits.transactions t before
  ];
  jobs = fits.jobs;
  ids = λ t among. elim (of_first new t actors.transactions among) [
    | inl same ↦ subst (HasDrawn (with_begun actors snapshot)) (sym same) (record { id = (actors.count, (omega arith), refl); staged = λ own is. absurd (let no : ◌≡◌ {A = Option OwnStaged} None (Some own) = is in cc) })
    | inr before ↦ let had = fits.ids t before in record { id = drawn_on actors snapshot t.id had.id; staged = λ own is. drawn_on actors snapshot own.uuid (had.staged own is) }
  ];
  sidecar_ids = λ job among before name is. let (id, was, named) = fits.sidecar_ids job among before name is in (id, drawn_on actors snapshot id was, named);
  apart = apart;
  once = fits.once;
  unused = λ count least below. fits.unused count (omega arith) below;
}
  where
    new : Transaction
    new = begun (drawn actors.base actors.count) snapshot

    -- the id that was drawn last is none of those drawn before
    differs : (place : ℕ) (u : Transaction) → slice_get actors.transactions place ≡ Some u → drawn actors.base actors.count ≡ u.id → ⊥
    differs place u is same =
        let (count, below, drawn_as) = (fits.ids u (at_is_among actors.transactions place u is)).id in
        let counts : actors.count ≡ count = drawn_apart actors.base actors.count count small (omega arith) (same ∙ drawn_as) in
        omega arith

    apart : (place other : ℕ) (t u : Transaction) → slice_get (begun (drawn actors.base actors.count) snapshot ∷ actors.transactions) place ≡ Some t
        → slice_get (begun (drawn actors.base actors.count) snapshot ∷ actors.transactions) other ≡ Some u → t.id ≡ u.id → place ≡ other
    apart zero zero t u is is_other same = refl
    apart zero (suc other) t u is is_other same =
        let first : begun (drawn actors.base actors.count) snapshot ≡ t = cc in absurd (differs other u is_other (ap (λ (x : Transaction). x.id) first ∙ same))
    apart (suc place) zero t u is is_other same =
        let first : begun (drawn actors.base actors.count) snapshot ≡ u = cc in absurd (differs place t is (ap (λ (x : Transaction). x.id) first ∙ sym same))
    apart (suc place) (suc other) t u is is_other same = ap suc (fits.apart place other t u is is_other same)
