-- A table that was opened has begun: it has a protocol and metadata.
use Rattle.std.proofs.Common.{◌≡◌, ℕ, ℤ, List, refl, subst}
use Rattle.std.specs.Prelude.{Option, Some, None, Result, Ok, Err}
use Rattle.dk_store.specs.Told.{Told}
use Rattle.dk_store.specs.Standings.{standing}
use Rattle.dk_model.specs.declared.action.Action.{Action}
use Rattle.dk_model.specs.declared.action.Protocol.{Protocol}
use Rattle.dk_model.specs.declared.action.Metadata.{Metadata}
use Rattle.dk_model.specs.declared.action.AddFile.{AddFile}
use Rattle.dk_model.specs.declared.state.TableState.{TableState}
use Rattle.dk_model.specs.Texts.{ByText}
use Rattle.dk_model.specs.State.{fold}
use Rattle.dk_engine.specs.declared.limits.Limits.{Limits}
use Rattle.dk_engine.specs.declared.refusal.Refusal.{Refusal}
use Rattle.dk_engine.specs.declared.refusal.Refusal.TheVariants as refusals
use Rattle.dk_lawful.specs.declared.segment.Segment.{Segment}
use Rattle.dk_listing.specs.OfEvents.{stands_at, latest}
use Rattle.dk_segment.specs.Chosen.{chosen}
use Rattle.dk_snapshot.specs.declared.table.Snapshot.{Snapshot}
use Rattle.dk_snapshot.specs.Opening.{usual_choice, opened, opened_chosen, snapshot_with, state_of_commits, with_cut}
use Rattle.dk_snapshot.specs.Steps.{commits_of_steps, oldest_path}
use Rattle.dk_snapshot.specs.Support.{cut_of, cut_with}
use Rattle.dk_txn.specs.Transactions.{if_headed}

cut_headed : (oldest path : List ℕ) (protocol : Option Protocol) (metadata : Option Metadata) (files : ByText AddFile) (now cut : ℤ) → cut_with oldest protocol metadata files now ≡ Ok cut
    → if_headed path protocol metadata ≡ Ok tt
cut_headed oldest path (Some protocol) (Some metadata) files now cut is = refl
cut_headed oldest path (Some protocol) None files now cut is = absurd (let no : ◌≡◌ {A = Result ℤ Refusal} (Err (refusals.Damaged oldest 0)) (Ok cut) = is in cc)
cut_headed oldest path None metadata files now cut is = absurd (let no : ◌≡◌ {A = Result ℤ Refusal} (Err (refusals.Damaged oldest 0)) (Ok cut) = is in cc)

module _ (events : List Told) (limits : Limits) (now : ℤ) (last : ℕ) (snapshot : Snapshot) (path : List ℕ) where
  abbrev IsHeaded : Type 0
  IsHeaded = if_headed path snapshot.state.protocol snapshot.state.metadata ≡ Ok tt

  cut_is : (segment : Segment) (state : TableState) (cut : Result ℤ Refusal) → cut_of (oldest_path segment) state now ≡ cut → snapshot_with last segment (with_cut state cut) ≡ Ok snapshot → IsHeaded
  cut_is segment state (Err refusal) is opens = absurd (let no : ◌≡◌ {A = Result Snapshot Refusal} (Err refusal) (Ok snapshot) = opens in cc)
  cut_is segment state (Ok cut) is opens =
      let same : ◌≡◌ {A = Result Snapshot Refusal} (Ok (record { version = last; state = state; cut = cut; segment = segment })) (Ok snapshot) = opens in
      let at : state ≡ snapshot.state = cc in
      subst (λ (s : TableState). if_headed path s.protocol s.metadata ≡ Ok tt) at (cut_headed (oldest_path segment) path state.protocol state.metadata state.files now cut is)

  commits_are : (segment : Segment) (commits : Result (List (List Action)) Refusal) → snapshot_with last segment (state_of_commits (oldest_path segment) now commits) ≡ Ok snapshot → IsHeaded
  commits_are segment (Err refusal) opens = absurd (let no : ◌≡◌ {A = Result Snapshot Refusal} (Err refusal) (Ok snapshot) = opens in cc)
  commits_are segment (Ok commits) opens = cut_is segment (fold commits) (cut_of (oldest_path segment) (fold commits) now) refl opens

  segment_is : (found : Result Segment Refusal) → opened_chosen events limits now last found ≡ Ok snapshot → IsHeaded
  segment_is (Err refusal) opens = absurd (let no : ◌≡◌ {A = Result Snapshot Refusal} (Err refusal) (Ok snapshot) = opens in cc)
  segment_is (Ok segment) opens = commits_are segment (commits_of_steps events limits.object segment.steps) opens

  pub opened_headed : latest events ≡ Some last → opened events limits None usual_choice now ≡ Ok snapshot → IsHeaded
  opened_headed top opens = segment_is (chosen (stands_at events) (standing events) last usual_choice) (rw top at opens)
