-- Whatever a version of a lawful log is read from leads to the state of the history there.
use Rattle.std.proofs.Common.{◌≡◌, ℕ, zero, suc, ℤ, ◌+◌, ◌<◌, ◌≤◌, false, List, [], ◌∷◌, take, drop, Option, Some, None, slice_get, inl, inr, refl, sym, ap, subst, ◌∙◌, arith}
use Rattle.std.specs.FinMap.{get, insert, remove}
use Rattle.dk_pqmodel.specs.FileMeans.{MeansOneList}
use Rattle.dk_model.specs.declared.action.Action.{Action}
use Rattle.dk_model.specs.declared.action.Action.TheVariants as action
use Rattle.dk_model.specs.declared.action.AddFile.{AddFile}
use Rattle.dk_model.specs.declared.state.Application.{Application}
use Rattle.dk_model.specs.declared.state.TableState.{TableState}
use Rattle.dk_model.specs.Changes.{Change, live, gone, change_at}
use Rattle.dk_model.specs.CommitText.{commit_of}
use Rattle.dk_model.specs.State.{empty_state, step, steps, steps_of_all, fold, application_of, domains_after}
use Rattle.dk_model.specs.Texts.{ByText}
use Rattle.dk_model.proofs.Changes.{tombstone_given, get-tombstones-step}
use Rattle.dk_store.specs.Told.{Told}
use Rattle.dk_paths.specs.Places.{Staged}
use Rattle.dk_lawful.specs.declared.segment.CheckpointRef.{CheckpointRef}
use Rattle.dk_lawful.specs.declared.segment.Step.{Step}
use Rattle.dk_lawful.specs.declared.segment.Step.TheVariants as walk
use Rattle.dk_lawful.specs.Present.{Holds}
use Rattle.dk_lawful.specs.History.{history, commits_of, next_version, table_at}
use Rattle.dk_lawful.specs.Agree.{Agree}
use Rattle.dk_lawful.specs.Lawful.{Lawful}
use Rattle.std.proofs.lemmas.Option.{slice_get_within}
use Rattle.dk_paths.specs.Staged.{staged_name}
use Rattle.dk_lawful.proofs.Lists.{slice_get-within}
use Rattle.dk_lawful.proofs.OneMeaning.{one_value}
use Rattle.dk_lawful.proofs.Sound.{length_commits}
use Rattle.dk_lawful.proofs.SoundOthers.{lawful_is_sound}
use Rattle.dk_lawful.proofs.Stays.{standing_commit_is_history, staged_commit_is_history}
use Rattle.dk_lawful.proofs.WholeCheckpoints.{read_checkpoints_stand}
use Rattle.dk_lawful.specs.SegmentLaws.{StepHolds, StepMeans, GoOn, StepsMean, BaseMeans, ReadAgrees, ReadWithoutBase, StandingStepMeans}

-- ---- agreement is kept by each step on both sides

-- all but the tombstones
record AgreeElse (state whole : TableState) : Type 0 where
  protocol : state.protocol ≡ whole.protocol
  metadata : state.metadata ≡ whole.metadata
  files : state.files ≡ whole.files
  applications : state.applications ≡ whole.applications
  domains : state.domains ≡ whole.domains

agree_else : (state whole : TableState) → state.protocol ≡ whole.protocol → state.metadata ≡ whole.metadata → state.files ≡ whole.files
    → state.applications ≡ whole.applications → state.domains ≡ whole.domains → AgreeElse state whole
agree_else state whole p m f a d = record { protocol = p; metadata = m; files = f; applications = a; domains = d }

else_step : (state whole : TableState) (a : Action) → AgreeElse state whole → AgreeElse (step state a) (step whole a)
else_step s w (action.Protocol p) e = agree_else _ _ refl e.metadata e.files e.applications e.domains
else_step s w (action.Metadata m) e = agree_else _ _ e.protocol refl e.files e.applications e.domains
else_step s w (action.Add f) e =
    agree_else _ _ e.protocol e.metadata (ap (λ (files : ByText AddFile). insert files f.path (record f { data_change = false })) e.files) e.applications e.domains
else_step s w (action.Remove r) e = agree_else _ _ e.protocol e.metadata (ap (λ (files : ByText AddFile). remove files r.path) e.files) e.applications e.domains
else_step s w (action.Txn t) e =
    agree_else _ _ e.protocol e.metadata e.files (ap (λ (applications : ByText Application). insert applications t.app_id (application_of t)) e.applications) e.domains
else_step s w (action.Domain d) e = agree_else _ _ e.protocol e.metadata e.files e.applications (ap (λ domains. domains_after domains d) e.domains)
else_step s w (action.Info i) e = e
else_step s w action.Cdc e = e
else_step s w (action.CheckpointMeta m) e = e
else_step s w (action.Sidecar r) e = e

-- a change at a path keeps what is told of its tombstone
keeps_told : (change : Option Change) (one other : Option ℤ) (time : ℤ) → (one ≡ Some time → other ≡ Some time) → tombstone_given change one ≡ Some time
    → tombstone_given change other ≡ Some time
keeps_told None one other time keeps is = keeps is
keeps_told (Some (live f)) one other time keeps is = is
keeps_told (Some (gone t)) one other time keeps is = is

keeps_stepped : (one other : TableState) (a : Action) (path : List ℕ) (time : ℤ) → (get one.tombstones path ≡ Some time → get other.tombstones path ≡ Some time)
    → get (step one a).tombstones path ≡ Some time → get (step other a).tombstones path ≡ Some time
keeps_stepped one other a path time keeps is =
    get-tombstones-step other a path
    ∙ keeps_told (change_at path a) (get one.tombstones path) (get other.tombstones path) time keeps (sym (get-tombstones-step one a path) ∙ is)

pub agree_step : (state whole : TableState) (horizon : ℤ) (a : Action) → Agree state whole horizon → Agree (step state a) (step whole a) horizon
agree_step state whole horizon a agree =
    let e = else_step state whole a (agree_else state whole agree.protocol agree.metadata agree.files agree.applications agree.domains) in
    record {
      protocol = e.protocol;
      metadata = e.metadata;
      files = e.files;
      applications = e.applications;
      domains = e.domains;
      none_more = λ path time. keeps_stepped state whole a path time (agree.none_more path time);
      unexpired = λ path time is above. keeps_stepped whole state a path time (λ stood. agree.unexpired path time stood above) is;
    }

pub agree_steps : (state whole : TableState) (horizon : ℤ) (actions : List Action) → Agree state whole horizon → Agree (steps state actions) (steps whole actions) horizon
agree_steps state whole horizon [] agree = agree
agree_steps state whole horizon (a ∷ actions) agree = agree_steps (step state a) (step whole a) horizon actions (agree_step state whole horizon a agree)

pub agrees_itself : (state : TableState) (horizon : ℤ) → Agree state state horizon
agrees_itself state horizon = record {
  protocol = refl;
  metadata = refl;
  files = refl;
  applications = refl;
  domains = refl;
  none_more = λ path time is. is;
  unexpired = λ path time is above. is;
}

-- ---- the folds of the first commits

-- one commit more
step_up : (commits : List (List Action)) (count : ℕ) (own : List Action) (state : TableState) → slice_get commits count ≡ Some own
    → steps_of_all state (take (suc count) commits) ≡ steps (steps_of_all state (take count commits)) own
step_up [] count own state is = absurd (let no : ◌≡◌ {A = Option (List Action)} None (Some own) = is in cc)
step_up (first ∷ commits) zero own state is = let same : first ≡ own = cc in ap (steps state) same
step_up (first ∷ commits) (suc count) own state is = step_up commits count own (steps state first) is

-- several commits more
steps_up : (commits : List (List Action)) (first count : ℕ) (state : TableState) → first ≤ count
    → steps_of_all (steps_of_all state (take first commits)) (drop first (take count commits)) ≡ steps_of_all state (take count commits)
steps_up commits zero count state most = refl
steps_up commits (suc first) zero state most = absurd (omega arith)
steps_up [] (suc first) (suc count) state most = refl
steps_up (own ∷ commits) (suc first) (suc count) state most = steps_up commits first count (steps state own) (omega arith)

-- ---- one step, and all of them

module _ (events : List Told) (horizon : ℤ) (lawful : Lawful events horizon) where
  abbrev commits : List (List Action)
  commits = commits_of (history events)

  -- what stands of a commit's step is the history's
  commit_is : (version : ℕ) (path bytes : List ℕ) → StepHolds events (walk.Commit version path) bytes → commit_of bytes ≡ slice_get commits version
  commit_is version path bytes (inl place, has) = standing_commit_is_history events horizon lawful version bytes (record { path = path; is_place = place; has_bytes = has })
  commit_is version path bytes (inr (id, stands, place), has) =
      staged_commit_is_history events horizon lawful version id bytes stands (record { path = path; is_place = place; has_bytes = has })

  commit_within : (version : ℕ) (own : List Action) → slice_get commits version ≡ Some own → version < next_version events
  commit_within version own is = let below = slice_get_within commits version own is in let long = length_commits (history events) in omega arith

  -- a relation of states that is kept by the same actions on both sides goes on from the first commits to those up to the end of the walk
  module _ (R : TableState → TableState → Type 0) (kept : (state whole : TableState) (actions : List Action) → R state whole → R (steps state actions) (steps whole actions)) where
    abbrev Reaches : ℕ → TableState → Type 0
    Reaches next state = (next ≤ next_version events) × R state (fold (take next commits))

    by_commit : (next version : ℕ) (path : List ℕ) (own : List Action) (state : TableState) → version ≡ next → StepMeans events (walk.Commit version path) own
        → Reaches next state → Reaches (version + 1) (steps state own)
    by_commit next version path own state same (bytes, holds, means) reached =
        let is : slice_get commits version ≡ Some own = sym (commit_is version path bytes holds) ∙ means in
        let below = commit_within version own is in
        let one_more : version + 1 ≡ suc version = omega arith in
        let leads : fold (take (version + 1) commits) ≡ steps (fold (take version commits)) own =
        ap (λ n. fold (take n commits)) one_more ∙ step_up commits version own empty_state is in (
          (omega arith),
          subst (R (steps state own)) (sym leads)
              (kept state (fold (take version commits)) own (subst (λ n. R state (fold (take n commits))) (sym same) reached.1)),
        )

    by_compacted : (next first last : ℕ) (path : List ℕ) (own : List Action) (state : TableState) → first ≡ next → StepMeans events (walk.Compacted first last path) own
        → Reaches next state → Reaches (last + 1) (steps state own)
    by_compacted next first last path own state same (bytes, (place, has), means) reached =
        let fine = (lawful_is_sound events horizon lawful).compacts first last bytes (record { path = path; is_place = place; has_bytes = has }) in
        let longer = fine.longer in
        let within = fine.within in
        let one : fine.actions ≡ own = one_value (commit_of bytes) fine.actions own fine.means means in
        let leads : steps (fold (take first commits)) own ≡ fold (take (last + 1) commits) =
        ap (steps (fold (take first commits))) (sym one) ∙ fine.sums (fold (take first commits)) ∙ steps_up commits first (last + 1) empty_state (omega arith) in
        ((omega arith), subst (R (steps state own)) leads (kept state (fold (take first commits)) own (subst (λ n. R state (fold (take n commits))) (sym same) reached.1)))

    walks : (next : ℕ) (walked : List Step) (end : ℕ) (read : List (List Action)) (state : TableState) → GoOn next walked end → StepsMean events walked read
        → Reaches next state → Reaches end (steps_of_all state read)
    walks next [] end read state at none reached =
        subst (λ n. Reaches n (steps_of_all state read)) at (subst (λ cs. Reaches next (steps_of_all state cs)) (sym none) reached)
    walks next (walk.Commit version path ∷ later) end read state (same, go) (own, rest, means, mean, is) reached =
        subst (λ cs. Reaches end (steps_of_all state cs)) (sym is)
        (walks (version + 1) later end rest (steps state own) go mean (by_commit next version path own state same means reached))
    walks next (walk.Compacted first last path ∷ later) end read state (same, go) (own, rest, means, mean, is) reached =
        subst (λ cs. Reaches end (steps_of_all state cs)) (sym is)
        (walks (last + 1) later end rest (steps state own) go mean (by_compacted next first last path own state same means reached))

  -- ---- the base

  base_agrees : MeansOneList → (base : Option CheckpointRef) (next : ℕ) (actions : List Action) → BaseMeans events base next actions
      → (next ≤ next_version events) × Agree (steps empty_state actions) (fold (take next commits)) horizon
  base_agrees one None next actions (at, none) = (
    (omega arith),
    subst (λ n. Agree (steps empty_state actions) (fold (take n commits)) horizon) (sym at)
        (subst (λ (own : List Action). Agree (steps empty_state own) empty_state horizon) (sym none) (agrees_itself empty_state horizon)),
  )
  base_agrees one (Some checkpoint) next actions (version, is, means, at) =
      let (within, stands) = read_checkpoints_stand one events horizon lawful checkpoint version actions is means in
      ((omega arith), subst (λ n. Agree (steps empty_state actions) (fold (take n commits)) horizon) (sym at) stands)

pub read_agrees : MeansOneList → ReadAgrees
read_agrees one events horizon lawful base walked version state from =
    let (within, agrees) = walks events horizon lawful (λ s whole. Agree s whole horizon) (λ s whole. agree_steps s whole horizon) from.next walked (version + 1) from.read
    (steps empty_state from.actions) from.go_on from.steps_mean (base_agrees events horizon lawful one base from.next from.actions from.base_means) in
    ((omega arith), subst (λ (s : TableState). Agree s (table_at events version) horizon) (sym from.leads) agrees)

pub read_without_base : ReadWithoutBase
read_without_base events horizon lawful walked version state from =
    let (at, none) = from.base_means in
    let start : Reaches events horizon lawful (λ s whole. s ≡ whole) (λ s whole actions same. ap (λ (t : TableState). steps t actions) same) from.next (steps empty_state from.actions) =
    ((omega arith), ap (steps empty_state) none ∙ ap (λ n. fold (take n (commits_of (history events)))) (sym at)) in
    let (within, same) = walks events horizon lawful (λ s whole. s ≡ whole) (λ s whole actions same. ap (λ (t : TableState). steps t actions) same) from.next walked (version + 1) from.read
    (steps empty_state from.actions) from.go_on from.steps_mean start in
    ((omega arith), from.leads ∙ same)

pub standing_step_means : StandingStepMeans
standing_step_means events horizon lawful (walk.Commit version path) bytes (inl place, has) =
    let fine = (lawful_is_sound events horizon lawful).commits version bytes (record { path = path; is_place = place; has_bytes = has }) in (fine.commit.actions, fine.means)
standing_step_means events horizon lawful (walk.Commit version path) bytes (inr (id, stands, place), has) =
    let holds : Holds events (Staged version id) bytes = record { path = path; is_place = place; has_bytes = has } in
    by (slice_get (commits_of (history events)) version) refl holds
  where
    by : (found : Option (List Action)) → slice_get (commits_of (history events)) version ≡ found → Holds events (Staged version id) bytes → (actions : List Action) × (commit_of bytes ≡ Some actions)
    by (Some actions) is holds = (actions, staged_commit_is_history events horizon lawful version id bytes stands holds ∙ is)
    by None is holds =
        absurd (let fine = (lawful_is_sound events horizon lawful).standings version (staged_name version id) stands in
        let (own, stood) = slice_get-within (commits_of (history events)) version (let within = fine.within in let long = length_commits (history events) in omega arith) in
        let no : ◌≡◌ {A = Option (List Action)} None (Some own) = sym is ∙ stood in cc)
standing_step_means events horizon lawful (walk.Compacted first last path) bytes (place, has) =
    let fine = (lawful_is_sound events horizon lawful).compacts first last bytes (record { path = path; is_place = place; has_bytes = has }) in (fine.actions, fine.means)
