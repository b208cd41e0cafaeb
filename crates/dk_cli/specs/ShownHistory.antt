-- What `show` answers over a lawful log, by the history of its commits (Delta Lake's PROTOCOL.md, "Delta Log Entries", "Checkpoints",
-- "Action Reconciliation", "Catalog-managed tables").
use Rattle.std.specs.Prelude.{ℕ, ℤ, ◌≡◌, ◌<◌, ◌+◌, ◌⊎◌, List, Option, Some, None, Ok, take}
use Rattle.std.specs.List.{AllByRecursion}
use Rattle.dk_store.specs.Told.{Told}
use Rattle.dk_store.specs.Standings.{standing}
use Rattle.dk_store.specs.Stream.{more}
use Rattle.dk_paths.specs.Names.{commit_path}
use Rattle.dk_model.specs.declared.action.Action.{Action}
use Rattle.dk_model.specs.declared.state.TableState.{TableState}
use Rattle.dk_model.specs.State.{empty_state, steps, steps_of_all}
use Rattle.dk_lawful.specs.Agree.{Agree}
use Rattle.dk_lawful.specs.declared.segment.Choice.{Choice}
use Rattle.dk_lawful.specs.declared.segment.Segment.{Segment}
use Rattle.dk_lawful.specs.declared.segment.Step.{Step}
use Rattle.dk_lawful.specs.declared.segment.Step.TheVariants as step_kinds
use Rattle.dk_lawful.specs.History.{next_version, table_at}
use Rattle.dk_lawful.specs.Lawful.{Lawful}
use Rattle.dk_lawful.specs.Segments.{commit_gap}
use Rattle.dk_listing.specs.OfEvents.{stands_at}
use Rattle.dk_engine.specs.declared.limits.Limits.{Limits}
use Rattle.dk_engine.specs.declared.limits.Which.TheVariants.{Object}
use Rattle.dk_engine.specs.declared.refusal.Refusal.{Refusal}
use Rattle.dk_engine.specs.declared.refusal.Refusal.TheVariants as refusals
use Rattle.dk_snapshot.specs.LawfulOpens.{AsksVersion, IsKeptBy, segment_by, RefusesTable, AreWithinLimit, IsNewestOver}
use Rattle.dk_snapshot.specs.Bases.{BaseIsRead}
use Rattle.dk_snapshot.specs.Steps.{commits_of_steps}
use Rattle.dk_snapshot.specs.Support.{IsRead, cut_before}
use Rattle.dk_cli.specs.Shown.{shown}
use Rattle.dk_cli.specs.declared.status.Status.{Status}
use Rattle.dk_cli.specs.declared.status.Status.TheVariants as statuses

-- ---- the version that is asked for

-- the history has it, and no commit that it needs is missing
abbrev pub AsksKept : List Told → Option ℕ → Choice → ℕ → Type 0
AsksKept events at choice version = AsksVersion events at version × IsKeptBy events version choice

-- the history has it, and this is the path of the first commit that it needs and that is missing
abbrev pub AsksGap : List Told → Option ℕ → Choice → List ℕ → ℕ → Type 0
AsksGap events at choice path version = AsksVersion events at version × (commit_gap (stands_at events) (standing events) version choice ≡ Some path)

-- it is above the last one of the history
abbrev pub AsksAbove : List Told → Option ℕ → ℕ → Type 0
AsksAbove events None last = ⊥
AsksAbove events (Some asked) last = (last + 1 ≡ next_version events) × (last < asked)

-- ---- the state

-- the state that the objects of a segment make up: the actions of its checkpoint first, and then its commits
abbrev pub IsFoldOf : List Told → Limits → Segment → TableState → Type 0
IsFoldOf events limits segment state = (base : List Action) × (commits : List (List Action)) × BaseIsRead events limits segment.base (Ok base)
    × (commits_of_steps events limits.object segment.steps ≡ Ok commits) × (state ≡ steps_of_all (steps empty_state base) commits)

abbrev pub IsCommitStep : Step → Type 0
IsCommitStep (step_kinds.Commit version path) = Unit {0}
IsCommitStep (step_kinds.Compacted first last path) = ⊥

-- the segment is made of commits alone
pub record IsOfCommits (segment : Segment) : Type 0 where
  pub no_base : segment.base ≡ None
  pub commits : AllByRecursion IsCommitStep segment.steps

-- the table of the state is one that is read, and removed files are told from this moment on
abbrev pub IsReadWithCut : TableState → ℤ → ℤ → Type 0
IsReadWithCut state now cut = (kept : ℤ) × IsRead state kept × (cut ≡ cut_before now kept)

-- ---- the text

-- The text of this version: it is asked for and kept, none of its objects is over the limit, and the table is one that is read. Its state is what
-- those objects make up. That is the state of the history's commits up to it, but that tombstones may lack whose time isn't above the horizon; read
-- from commits alone it is exactly that. Its removed files are told from the moment of the call on, less the time that the table keeps them.
pub record IsTextOf (events : List Told) (horizon : ℤ) (limits : Limits) (at : Option ℕ) (choice : Choice) (now : ℤ) (version : ℕ) (state : TableState) (cut : ℤ) (text : List ℕ) : Type 0 where
  pub asked : AsksKept events at choice version
  pub within : AreWithinLimit events limits.object (segment_by events version choice).steps
  pub folds : IsFoldOf events limits (segment_by events version choice) state
  pub agrees : Agree state (table_at events version) horizon
  pub exact : IsOfCommits (segment_by events version choice) → state ≡ table_at events version
  pub read : IsReadWithCut state now cut
  pub is_text : text ≡ shown version state cut

abbrev pub HasText : List Told → ℤ → Limits → Option ℕ → Choice → ℤ → List ℕ → Type 0
HasText events horizon limits at choice now text = (version : ℕ) × (state : TableState) × (cut : ℤ) × IsTextOf events horizon limits at choice now version state cut text

-- ---- the refusals

-- Why there is no text: the version that is asked for lacks a commit, as a log with no history lacks its first; it is above the last one; its newest
-- object over the limit has this size; or, where none is, the table's text of how long it keeps removed files is no interval, or the table awaits a
-- feature that isn't built so far. A fault of the store and want of memory have their own causes, and nothing else comes.
abbrev pub HasNoText : List Told → Limits → Option ℕ → Choice → ℤ → Refusal → Type 0
HasNoText events limits at choice now (refusals.Missing path) = ((version : ℕ) × AsksGap events at choice path version) ⊎ ((next_version events ≡ 0) × (path ≡ commit_path 0))
HasNoText events limits at choice now (refusals.NoVersion last) = AsksAbove events at last
HasNoText events limits at choice now (refusals.Limit Object size) =
    (version : ℕ) × AsksKept events at choice version × IsNewestOver events limits.object (segment_by events version choice).steps size
HasNoText events limits at choice now (refusals.Unsupported name) =
    (version : ℕ) × AsksKept events at choice version × AreWithinLimit events limits.object (segment_by events version choice).steps × RefusesTable name (table_at events version)
HasNoText events limits at choice now refusals.Store = Unit {0}
HasNoText events limits at choice now refusals.OutOfMemory = Unit {0}
HasNoText events limits at choice now _ = ⊥

-- ---- the answer

-- With Done the sink took the text, with SinkFault a beginning of it; with a refusal there is none, and nothing was written. A text and the causes of
-- refusals exclude each other, so that, but for a fault of the store or the sink and want of memory, each status comes exactly where its case holds.
abbrev pub AnswersShown : List Told → ℤ → Limits → Option ℕ → Choice → ℤ → Option (List ℕ) → Status → Option (List ℕ) → Type 0
AnswersShown events horizon limits at choice now old statuses.Done new = (text : List ℕ) × HasText events horizon limits at choice now text × (new ≡ more old text)
AnswersShown events horizon limits at choice now old statuses.SinkFault new =
    (text : List ℕ) × (count : ℕ) × HasText events horizon limits at choice now text × (new ≡ more old (take count text))
AnswersShown events horizon limits at choice now old (statuses.Refused refusal) new = HasNoText events limits at choice now refusal × (new ≡ old)
AnswersShown events horizon limits at choice now old statuses.Usage new = ⊥
AnswersShown events horizon limits at choice now old statuses.SourceFault new = ⊥

-- what `show` owes over a lawful log, at each of its horizons
abbrev pub ShowsHistory : List Told → Limits → Option ℕ → Choice → ℤ → Option (List ℕ) → Status → Option (List ℕ) → Type 0
ShowsHistory events limits at choice now old status new = (horizon : ℤ) → Lawful events horizon → AnswersShown events horizon limits at choice now old status new
