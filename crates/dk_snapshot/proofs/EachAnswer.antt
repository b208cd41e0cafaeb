-- Each answer of a lawful log by its cause.
use Rattle.std.proofs.Common.{◌≡◌, ℕ, zero, suc, ℤ, ◌+◌, ◌<◌, ◌≤◌, Bool, true, false, List, Option, Some, None, refl, sym, ap, subst, ◌∙◌, arith, inl, inr}
use Rattle.std.specs.Prelude.{Result, Ok, Err, nat_le}
use Rattle.std.proofs.lemmas.Bool.{leb-true, leb-false}
use Rattle.dk_model.specs.declared.state.TableState.{TableState}
use Rattle.dk_store.specs.Told.{Told}
use Rattle.dk_store.specs.Standings.{standing}
use Rattle.dk_lawful.specs.declared.segment.Choice.{Choice}
use Rattle.dk_lawful.specs.History.{next_version, table_at}
use Rattle.dk_lawful.specs.Lawful.{Lawful}
use Rattle.dk_lawful.specs.Segments.{commit_gap}
use Rattle.dk_engine.specs.declared.limits.Limits.{Limits}
use Rattle.dk_engine.specs.declared.limits.Which.TheVariants.{Object}
use Rattle.dk_engine.specs.declared.refusal.Refusal.{Refusal}
use Rattle.dk_engine.specs.declared.refusal.Refusal.TheVariants.{Limit, Unsupported}
use Rattle.dk_listing.specs.OfEvents.{stands_at}
use Rattle.dk_snapshot.specs.declared.table.Snapshot.{Snapshot}
use Rattle.dk_snapshot.specs.LawfulOpens.{AsksVersion, IsKeptBy, segment_by, AnswersHistory}
use Rattle.dk_snapshot.proofs.Values.{EachAnswer}
use Rattle.dk_snapshot.specs.Opening.{opened}
use Rattle.dk_snapshot.specs.Steps.{oldest_path}
use Rattle.dk_snapshot.specs.Support.{cut_of}
use Rattle.dk_snapshot.proofs.LawfulOpens.{Exactly, state_cut, opened_exactly, gap_is_missing, above_is_no_version, empty_is_missing}

module _ (events : List Told) (horizon : ℤ) (lawful : Lawful events horizon) (limits : Limits) (choice : Choice) (now : ℤ) where
  -- of a version that is kept
  kept_answer : (at : Option ℕ) (version : ℕ) → AsksVersion events at version → IsKeptBy events version choice → (result : Result Snapshot Refusal)
      → Exactly events limits now version (segment_by events version choice) result → AnswersHistory events limits at choice now result
  kept_answer at version asks kept (Ok snapshot) is =
      let same : version ≡ snapshot.version = sym is.is_version in
      let state : snapshot.state ≡ table_at events version = is.state in (
        subst (λ (v : ℕ). AsksVersion events at v) same asks,
        subst (λ (v : ℕ). IsKeptBy events v choice) same kept,
        state ∙ ap (table_at events) same,
        state_cut (oldest_path (segment_by events version choice)) snapshot.state now snapshot.cut (ap (λ (s : TableState). cut_of (oldest_path (segment_by events version choice)) s now) state ∙ is.cut),
      )
  kept_answer at version asks kept (Err (Limit Object size)) is = (version, asks, kept, is)
  kept_answer at version asks kept (Err (Unsupported name)) is = (version, asks, kept, is.0, is.1)
  kept_answer at version asks kept (Err _) is = absurd is

  -- of a version of the history
  version_answer : (at : Option ℕ) (version : ℕ) → AsksVersion events at version → AnswersHistory events limits at choice now (opened events limits at choice now)
  version_answer at version asks = by (commit_gap (stands_at events) (standing events) version choice) refl
    where
      by : (gap : Option (List ℕ)) → commit_gap (stands_at events) (standing events) version choice ≡ gap → AnswersHistory events limits at choice now (opened events limits at choice now)
      by None kept = kept_answer at version asks kept (opened events limits at choice now) (opened_exactly events horizon lawful limits choice now at version asks kept)
      by (Some path) gap =
          subst (AnswersHistory events limits at choice now) (sym (gap_is_missing events horizon limits at choice now version path lawful asks gap)) (inl (version, asks, gap))

  last_answer : (at : Option ℕ) (last : ℕ) → next_version events ≡ suc last → AnswersHistory events limits at choice now (opened events limits at choice now)
  last_answer None last next = version_answer None last (omega arith)
  last_answer (Some asked) last next = by (nat_le asked last) refl
    where
      by : (test : Bool) → nat_le asked last ≡ test → AnswersHistory events limits (Some asked) choice now (opened events limits (Some asked) choice now)
      by true is = let most : asked ≤ last = leb-true asked last is in version_answer (Some asked) asked (refl, (omega arith))
      by false is =
          let more : last < asked = leb-false asked last is in
          let count : last + 1 ≡ next_version events = omega arith in
          subst (AnswersHistory events limits (Some asked) choice now) (sym (above_is_no_version events horizon limits choice now last asked lawful count more)) (asked, refl, count, more)

  any_answer : (at : Option ℕ) (count : ℕ) → next_version events ≡ count → AnswersHistory events limits at choice now (opened events limits at choice now)
  any_answer at zero none = subst (AnswersHistory events limits at choice now) (sym (empty_is_missing events horizon limits at choice now lawful none)) (inr (none, refl))
  any_answer at (suc last) next = last_answer at last next

pub each_answer : EachAnswer
each_answer events horizon limits at choice now lawful = any_answer events horizon lawful limits choice now at (next_version events) refl
