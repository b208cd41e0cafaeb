-- What was opened is what its segment's objects make up, and its table is one that is read.
use Rattle.std.proofs.Common.{◌≡◌, ℕ, ℤ, Bool, true, false, List, refl, sym, subst}
use Rattle.std.specs.Prelude.{Option, Some, None, Result, Ok, Err, option_map, if◌then◌else◌}
use Rattle.std.specs.Option.{option_or}
use Rattle.dk_model.specs.declared.action.Action.{Action}
use Rattle.dk_model.specs.declared.action.Metadata.{Metadata}
use Rattle.dk_model.specs.declared.action.Protocol.{Protocol}
use Rattle.dk_model.specs.declared.state.TableState.{TableState}
use Rattle.dk_model.specs.State.{empty_state, steps, steps_of_all}
use Rattle.dk_features.specs.declared.fault.FeatureFault.{FeatureFault}
use Rattle.dk_features.specs.Names.{deletion_vectors}
use Rattle.dk_features.specs.Support.{fault_name, unread, unread_name}
use Rattle.dk_store.specs.Told.{Told}
use Rattle.dk_lawful.specs.declared.segment.Choice.{Choice}
use Rattle.dk_lawful.specs.declared.segment.Segment.{Segment}
use Rattle.dk_listing.specs.OfEvents.{latest}
use Rattle.dk_engine.specs.declared.limits.Limits.{Limits}
use Rattle.dk_engine.specs.declared.refusal.Refusal.{Refusal}
use Rattle.dk_engine.specs.declared.refusal.Refusal.TheVariants.{Damaged, Unsupported}
use Rattle.dk_snapshot.specs.declared.table.Snapshot.{Snapshot}
use Rattle.dk_snapshot.specs.Asked.{version_asked}
use Rattle.dk_snapshot.specs.Opening.{snapshot_with, with_cut}
use Rattle.dk_snapshot.specs.Bases.{BaseIsRead}
use Rattle.dk_snapshot.specs.Opens.{state_behind, OpensChosen, OpensAsked, Opens}
use Rattle.dk_snapshot.specs.Steps.{commits_of_steps, oldest_path}
use Rattle.dk_snapshot.specs.Support.{has_vectors, unreadable, retention_key, retention, cut_before, cut_unless, cut_with, cut_of}
use Rattle.dk_cli.specs.ShownHistory.{IsFoldOf, IsReadWithCut}

-- ---- the tests of a table

neither : (one other : Option (List ℕ)) → option_or one other ≡ None → (one ≡ None) × (other ≡ None)
neither None other none = (refl, none)
neither (Some name) other none = absurd (let fails : ◌≡◌ {A = Option (List ℕ)} (Some name) None = none in cc)

none_behind : (name : FeatureFault → List ℕ) (found : Option FeatureFault) → option_map name found ≡ None → found ≡ None
none_behind name None none = refl
none_behind name (Some fault) none = absurd (let fails : ◌≡◌ {A = Option (List ℕ)} (Some (name fault)) None = none in cc)

not_tested : (test : Bool) (name : List ℕ) → (if test then Some name else None) ≡ None → test ≡ false
not_tested false name none = refl
not_tested true name none = absurd (let fails : ◌≡◌ {A = Option (List ℕ)} (Some name) None = none in cc)

is_unread : (protocol : Protocol) → unread_name protocol ≡ None → unread protocol ≡ None
unfolding unread_name
is_unread protocol none = none_behind (fault_name protocol) (unread protocol) none

module _ (state : TableState) (now cut : ℤ) (protocol : Protocol) (metadata : Metadata) (has_protocol : state.protocol ≡ Some protocol) (has_metadata : state.metadata ≡ Some metadata) where
  tests_passed : (found : Option (List ℕ)) (kept : Option ℤ) → unreadable protocol state.files ≡ found → retention metadata ≡ kept → cut_unless found kept now ≡ Ok cut → IsReadWithCut state now cut
  tests_passed (Some name) kept none keeps is = absurd (let fails : ◌≡◌ {A = Result ℤ Refusal} (Err (Unsupported name)) (Ok cut) = is in cc)
  tests_passed None None none keeps is = absurd (let fails : ◌≡◌ {A = Result ℤ Refusal} (Err (Unsupported retention_key)) (Ok cut) = is in cc)
  tests_passed None (Some kept) none keeps is =
      let passed : (unread_name protocol ≡ None) × ((if has_vectors state.files then Some deletion_vectors else None) ≡ None) = neither _ _ none in (
        kept,
        record {
          protocol = protocol;
          metadata = metadata;
          has_protocol = has_protocol;
          has_metadata = has_metadata;
          reader = is_unread protocol passed.0;
          vectors = not_tested (has_vectors state.files) deletion_vectors passed.1;
          retention = keeps;
        },
        (let same : ◌≡◌ {A = Result ℤ Refusal} (Ok (cut_before now kept)) (Ok cut) = is in cc),
      )

state_reads : (oldest : List ℕ) (state : TableState) (now cut : ℤ) → cut_of oldest state now ≡ Ok cut → IsReadWithCut state now cut
state_reads oldest state now cut cuts = by state.protocol state.metadata refl refl cuts
  where
    by : (protocol : Option Protocol) (metadata : Option Metadata) → state.protocol ≡ protocol → state.metadata ≡ metadata → cut_with oldest protocol metadata state.files now ≡ Ok cut → IsReadWithCut state now cut
    by (Some protocol) (Some metadata) has_protocol has_metadata is =
        tests_passed state now cut protocol metadata has_protocol has_metadata (unreadable protocol state.files) (retention metadata) refl refl is
    by (Some protocol) None has_protocol has_metadata is = absurd (let fails : ◌≡◌ {A = Result ℤ Refusal} (Err (Damaged oldest 0)) (Ok cut) = is in cc)
    by None metadata has_protocol has_metadata is = absurd (let fails : ◌≡◌ {A = Result ℤ Refusal} (Err (Damaged oldest 0)) (Ok cut) = is in cc)

-- ---- a segment

pub record IsReadOf (events : List Told) (limits : Limits) (now : ℤ) (snapshot : Snapshot) : Type 0 where
  pub folds : IsFoldOf events limits snapshot.segment snapshot.state
  pub read : IsReadWithCut snapshot.state now snapshot.cut

module _ (events : List Told) (limits : Limits) (now : ℤ) (snapshot : Snapshot) where
  module _ (version : ℕ) (segment : Segment) where
    cut_read : (oldest : List ℕ) (state : TableState) (cut : Result ℤ Refusal) → IsFoldOf events limits segment state → cut_of oldest state now ≡ cut → Ok snapshot ≡ snapshot_with version segment (with_cut state cut)
        → IsReadOf events limits now snapshot
    cut_read oldest state (Err refusal) folds cuts is = absurd (let fails : ◌≡◌ {A = Result Snapshot Refusal} (Ok snapshot) (Err refusal) = is in cc)
    cut_read oldest state (Ok cut) folds cuts is = subst (IsReadOf events limits now) (sym same) (record { folds = folds; read = state_reads oldest state now cut cuts })
      where
        made : Snapshot
        made = record { version = version; state = state; cut = cut; segment = segment }

        same : snapshot ≡ made
        same = let both : ◌≡◌ {A = Result Snapshot Refusal} (Ok snapshot) (Ok made) = is in cc

    over_read : (base : Result (List Action) Refusal) (commits : Result (List (List Action)) Refusal) → BaseIsRead events limits segment.base base → commits_of_steps events limits.object segment.steps ≡ commits
        → Ok snapshot ≡ snapshot_with version segment (state_behind (oldest_path segment) now base commits) → IsReadOf events limits now snapshot
    over_read base (Err refusal) read are is = absurd (let fails : ◌≡◌ {A = Result Snapshot Refusal} (Ok snapshot) (Err refusal) = is in cc)
    over_read (Err refusal) (Ok commits) read are is = absurd (let fails : ◌≡◌ {A = Result Snapshot Refusal} (Ok snapshot) (Err refusal) = is in cc)
    over_read (Ok base) (Ok commits) read are is =
        cut_read (oldest_path segment) (steps_of_all (steps empty_state base) commits) (cut_of (oldest_path segment) (steps_of_all (steps empty_state base) commits) now)
        (base, commits, read, are, refl) refl is

  asked_read : (choice : Choice) (asked : Result ℕ Refusal) → OpensAsked events limits choice now asked (Ok snapshot) → IsReadOf events limits now snapshot
  asked_read choice (Err refusal) is = absurd (let fails : ◌≡◌ {A = Result Snapshot Refusal} (Ok snapshot) (Err refusal) = is in cc)
  asked_read choice (Ok version) opens = by _ opens
    where
      by : (segment : Result Segment Refusal) → OpensChosen events limits now version segment (Ok snapshot) → IsReadOf events limits now snapshot
      by (Err refusal) is = absurd (let fails : ◌≡◌ {A = Result Snapshot Refusal} (Ok snapshot) (Err refusal) = is in cc)
      by (Ok segment) (base, read, is) = over_read version segment base (commits_of_steps events limits.object segment.steps) read refl is

pub opened_reads : (events : List Told) (limits : Limits) (at : Option ℕ) (choice : Choice) (now : ℤ) (snapshot : Snapshot) → Opens events limits at choice now (Ok snapshot) → IsReadOf events limits now snapshot
opened_reads events limits at choice now snapshot opens = asked_read events limits now snapshot choice (version_asked at (latest events)) opens
