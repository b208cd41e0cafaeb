-- The version that joined the catalogue, and that each commit of a lawful history keeps the rules.
use Rattle.std.proofs.Common.{◌≡◌, ℕ, zero, suc, ℤ, ◌+◌, ◌<◌, ◌≤◌, Bool, true, false, inl, inr, length, take, List, [], ◌∷◌, ◌++◌, Option, Some, None, slice_get, if◌then◌else◌, refl, sym, ap, subst, ◌∙◌, arith, true≢false, length-append}
use Rattle.std.proofs.lemmas.Bool.{cases_lt}
use Rattle.std.proofs.lemmas.List.{map-append, take-append-le}
use Rattle.std.proofs.lemmas.Option.{slice_get_within}
use Rattle.std.proofs.Math.Seq.{take-length}
use Rattle.dk_model.specs.declared.action.Action.{Action}
use Rattle.dk_model.specs.declared.state.TableState.{TableState}
use Rattle.dk_model.specs.State.{empty_state, steps, steps_of_all}
use Rattle.dk_features.specs.InForce.{has_feature}
use Rattle.dk_store.specs.Told.{Told}
use Rattle.dk_lawful.specs.Managed.{is_managed}
use Rattle.dk_lawful.specs.History.{RatifiedCommit, history, commits_of, table_before, managed_from, managed_since}
use Rattle.dk_lawful.specs.Rules.{IsValidNext}
use Rattle.dk_lawful.specs.Lawful.{Lawful}
use Rattle.dk_lawful.specs.Laws.{FilesUpToJoin, RatifiedIsAboveJoin, EachIsValid}
use Rattle.dk_lawful.proofs.Lists.{slice_get-end, slice_get-before}
use Rattle.dk_lawful.proofs.Sound.{length_commits}
use Rattle.dk_lawful.proofs.SoundOthers.{lawful_is_sound}
use Rattle.dk_lawful.proofs.Stays.{files_stay, ratified_is_managed}
use Rattle.dk_lawful.proofs.Validly.{GoesOnValidly, goes_on_validly}

-- ---- before it no state is managed

none_before : (state : TableState) (version : ℕ) (commits : List (List Action)) (count : ℕ) → count < length commits → ((since : ℕ) → managed_from state version commits ≡ Some since → version + count < since)
    → is_managed (steps_of_all state (take (suc count) commits)) ≡ false
none_before state version [] count below early = absurd (omega arith)
none_before state version (commit ∷ later) zero below early = by (is_managed (steps state commit)) refl early
  where
    by : (managed : Bool) → is_managed (steps state commit) ≡ managed
        → ((since : ℕ) → (if managed then Some version else managed_from (steps state commit) (suc version) later) ≡ Some since → version + 0 < since) → is_managed (steps state commit) ≡ false
    by true is early = absurd (let past = early version refl in omega arith)
    by false is early = is
none_before state version (commit ∷ later) (suc count) below early =
    by (is_managed (steps state commit)) early (none_before (steps state commit) (suc version) later count (omega arith))
  where
    by : (managed : Bool) → ((since : ℕ) → (if managed then Some version else managed_from (steps state commit) (suc version) later) ≡ Some since → version + suc count < since)
        → (((since : ℕ) → managed_from (steps state commit) (suc version) later ≡ Some since → suc version + count < since) → is_managed (steps_of_all (steps state commit) (take (suc count) later)) ≡ false)
        → is_managed (steps_of_all (steps state commit) (take (suc count) later)) ≡ false
    by true early rest = absurd (let past = early version refl in omega arith)
    by false early rest = rest (λ since is. let past = early since is in omega arith)

unmanaged_then : is_managed empty_state ≡ false
unfolding has_feature
unmanaged_then = refl

-- where a version is up to it, no state before the version is managed
unmanaged_before : (events : List Told) (version : ℕ) → version < length (history events) → ((since : ℕ) → managed_since events ≡ Some since → version ≤ since) → is_managed (table_before events version) ≡ false
unmanaged_before events zero below early = unmanaged_then
unmanaged_before events (suc version) below early =
    none_before empty_state 0 (commits_of (history events)) version (let long = length_commits (history events) in omega (arith, below, long)) (λ since is. let most = early since is in omega (arith, most))

pub files_up_to_join : FilesUpToJoin
files_up_to_join events horizon lawful version below early = files_stay events horizon lawful version below (unmanaged_before events version below early)

pub ratified_is_above_join : RatifiedIsAboveJoin
ratified_is_above_join events horizon lawful version name stands = by (managed_since events) refl
  where
    managed : is_managed (table_before events version) ≡ true
    managed = ratified_is_managed events horizon lawful version name stands

    within : version < length (history events)
    within = ((lawful_is_sound events horizon lawful).standings version name stands).within

    by : (found : Option ℕ) → managed_since events ≡ found → (since : ℕ) × (managed_since events ≡ Some since) × (since < version)
    by None is =
        absurd (true≢false (sym managed ∙ unmanaged_before events version within (λ since found. absurd (let no : ◌≡◌ {A = Option ℕ} None (Some since) = sym is ∙ found in cc))))
    by (Some since) is = elim (cases_lt since version) [
      | inl less ↦ (since, is, less)
      | inr most ↦ absurd (true≢false (sym managed ∙ unmanaged_before events version within (λ other found. (let both : Some since ≡ Some other = sym is ∙ found in let same : since ≡ other = cc in omega (arith, same, most)))))
    ]

-- ---- each commit keeps the rules

abbrev pub AllValid : List RatifiedCommit → Type 0
AllValid h = (version : ℕ) (commit : RatifiedCommit) → slice_get h version ≡ Some commit → IsValidNext (take version (commits_of h)) commit.actions

valid_more : (h : List RatifiedCommit) (commit : RatifiedCommit) → AllValid h → IsValidNext (commits_of h) commit.actions → AllValid (h ++ commit ∷ [])
valid_more h commit all valid version found is = elim (cases_lt version (length h)) [
  | inl less ↦
      subst (λ (cs : List (List Action)). IsValidNext cs found.actions) (sym (front version (omega arith))) (all version found (sym (slice_get-before h (commit ∷ []) version less) ∙ is))
  | inr at_least ↦
      let within : version < length (h ++ commit ∷ []) = slice_get_within (h ++ commit ∷ []) version found is in
      let long : length (h ++ commit ∷ []) ≡ length h + 1 = length-append h (commit ∷ []) in
      let at : version ≡ length h = omega arith in
      let both : Some commit ≡ Some found = sym (ap (slice_get (h ++ commit ∷ [])) at ∙ slice_get-end h commit) ∙ is in
      let same : commit ≡ found = cc in
      let before : take version (commits_of (h ++ commit ∷ [])) ≡ commits_of h =
      front version (omega arith) ∙ ap (λ n. take n (commits_of h)) (at ∙ sym (length_commits h)) ∙ take-length (commits_of h) in
      subst (λ (c : RatifiedCommit). IsValidNext (take version (commits_of (h ++ commit ∷ []))) c.actions) same
      (subst (λ (cs : List (List Action)). IsValidNext cs commit.actions) (sym before) valid)
]
  where
    front : (count : ℕ) → count ≤ length h → take count (commits_of (h ++ commit ∷ [])) ≡ take count (commits_of h)
    front count most =
        ap (take count) (map-append (λ (c : RatifiedCommit). c.actions) h (commit ∷ []))
        ∙ take-append-le count (commits_of h) (commit.actions ∷ []) (let many = length_commits h in omega (arith, most, many))

goes_on : (event : Told) (events : List Told) → AllValid (history events) → GoesOnValidly events event → AllValid (history (event ∷ events))
goes_on event events all (inl same) = subst AllValid (sym same) all
goes_on event events all (inr more) = subst AllValid (sym more.1) (valid_more (history events) more.0 all more.2)

all_valid : (events : List Told) (horizon : ℤ) → Lawful events horizon → AllValid (history events)
all_valid [] horizon lawful = λ version commit is. absurd (let no : ◌≡◌ {A = Option RatifiedCommit} None (Some commit) = is in cc)
all_valid (event ∷ events) horizon lawful =
    goes_on event events (all_valid events horizon lawful.1) (goes_on_validly events event horizon (lawful_is_sound events horizon lawful.1) lawful.0)

pub each_is_valid : EachIsValid
each_is_valid events horizon lawful version commit is = all_valid events horizon lawful version commit is
