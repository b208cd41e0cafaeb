-- A complete checkpoint of a lawful log stands for the state at its version.
use Rattle.std.proofs.Common.{◌≡◌, ℕ, zero, suc, ℤ, ◌<◌, ◌≤◌, ◌+◌, false, List, [], ◌∷◌, ◌++◌, length, take, Some, refl, sym, ap, subst, ◌∙◌, arith, append-nil, append_assoc}
use Rattle.dk_model.specs.declared.action.Action.{Action}
use Rattle.dk_model.specs.declared.state.TableState.{TableState}
use Rattle.dk_model.specs.State.{steps, empty_state}
use Rattle.dk_pqmodel.specs.FileMeans.{MeansOneList}
use Rattle.dk_store.specs.Told.{Told}
use Rattle.dk_store.specs.Objects.{content}
use Rattle.dk_paths.specs.Places.{Classic, Part, V2, Sidecar, place_of, place_path}
use Rattle.dk_lawful.specs.declared.segment.CheckpointRef.{CheckpointRef}
use Rattle.dk_lawful.specs.declared.segment.CheckpointRef.TheVariants as refs
use Rattle.dk_lawful.specs.Present.{Holds, Present}
use Rattle.dk_lawful.specs.History.{history, commits_of, next_version, table_at}
use Rattle.dk_lawful.specs.Agree.{Stands}
use Rattle.dk_lawful.specs.Shares.{files_up_to, files_of}
use Rattle.dk_lawful.specs.Lawful.{Lawful}
use Rattle.dk_lawful.specs.Checkpoints.{Top, HasTop, HasV2Top, IsShare, SidesMean, Among, ObjectMeans, PartsMean, ObjectsMean, ArePartPaths, IsCheckpointOf, object_paths, AllStand}
use Rattle.dk_lawful.specs.Segments.{part_paths, parts_ref}
use Rattle.dk_lawful.specs.CheckpointLaws.{HasAllParts, CheckpointsStand, PartsStand, ReadCheckpointsStand}
use Rattle.dk_lawful.proofs.Joined.{IsApart, apart_fold, UpTo, first_part, more_parts, goes_up, all_parts}
use Rattle.dk_lawful.proofs.OneMeaning.{objects_mean, checkpoint_means_one}
use Rattle.dk_lawful.proofs.SoundOthers.{lawful_is_sound}
use Rattle.dk_lawful.proofs.Standing.{held_at, placed}

pub steps_more : (state : TableState) (actions more : List Action) → steps state (actions ++ more) ≡ steps (steps state actions) more
steps_more state [] more = refl
steps_more state (action ∷ actions) more = steps_more (steps state (action ∷ [])) actions more

-- the first parts together, by the paths of those that are done
record Front (events : List Told) (done : List (List ℕ)) (before parts : ℕ) (whole : TableState) (horizon : ℤ) : Type 0 where
  top : Top
  means : PartsMean events done top
  alone : top.sidecars ≡ []
  upto : UpTo (steps empty_state top.actions) whole (take (files_up_to before parts (length (files_of whole))) (files_of whole)) horizon

abbrev nothing : Top
nothing = record { actions = []; sidecars = [] }

abbrev both : Top → Top → Top
both front own = record { actions = front.actions ++ own.actions; sidecars = front.sidecars ++ own.sidecars }

parts_then : (events : List Told) (done : List (List ℕ)) (path : List ℕ) (front own : Top) → PartsMean events done front → ObjectMeans events (HasTop false) path own
    → PartsMean events (done ++ path ∷ []) (both front own)
parts_then events [] path front own none object = (
  own,
  nothing,
  object,
  (refl, refl),
  ap (λ xs. xs ++ own.actions) none.0 ∙ sym (append-nil own.actions),
  ap (λ xs. xs ++ own.sidecars) none.1 ∙ sym (append-nil own.sidecars),
)
parts_then events (first ∷ done) path front own (head, rest, means, more, all, names) object = (
  head,
  both rest own,
  means,
  parts_then events done path rest own more object,
  ap (λ xs. xs ++ own.actions) all ∙ append_assoc head.actions rest.actions own.actions,
  ap (λ xs. xs ++ own.sidecars) names ∙ append_assoc head.sidecars rest.sidecars own.sidecars,
)

-- what stands at the path of a part is its share
abbrev HasShares : List Told → ℕ → ℕ → TableState → ℤ → Type 0
HasShares events version parts whole horizon = (part : ℕ) (bytes : List ℕ) → Holds events (Part version part parts) bytes → IsShare bytes whole part parts horizon

module _ (events : List Told) (version parts : ℕ) (whole : TableState) (horizon : ℤ) (apart : IsApart whole) (shares : HasShares events version parts whole horizon) where
  front_one : (path bytes : List ℕ) → place_of path ≡ Part version 1 parts → content events path ≡ Some bytes → Front events (path ∷ []) 1 parts whole horizon
  front_one path bytes at has =
      let share = shares 1 bytes (record { path = path; is_place = at; has_bytes = has }) in
      record {
        top = record { actions = share.actions; sidecars = [] };
        means = (
          record { actions = share.actions; sidecars = [] },
          nothing,
          (bytes, has, record { means = share.means; named = share.alone }),
          (refl, refl),
          sym (append-nil share.actions),
          refl,
        );
        alone = refl;
        upto = first_part share.actions whole parts horizon share.share;
      }

  front_more : (done : List (List ℕ)) (before : ℕ) (path bytes : List ℕ) → place_of path ≡ Part version (suc (suc before)) parts → content events path ≡ Some bytes → 1 ≤ parts
      → Front events done (suc before) parts whole horizon → Front events (done ++ path ∷ []) (suc (suc before)) parts whole horizon
  front_more done before path bytes at has some front =
      let share = shares (suc (suc before)) bytes (record { path = path; is_place = at; has_bytes = has }) in
      let own : Top = record { actions = share.actions; sidecars = [] } in
      record {
        top = both front.top (record { actions = share.actions; sidecars = [] });
        means = parts_then events done path front.top (record { actions = share.actions; sidecars = [] }) front.means (bytes, has, record { means = share.means; named = share.alone });
        alone = append-nil front.top.sidecars ∙ front.alone;
        upto = subst (λ (s : TableState). UpTo s whole (take (files_up_to (suc (suc before)) parts (length (files_of whole))) (files_of whole)) horizon)
            (sym (steps_more empty_state front.top.actions share.actions))
            (more_parts (steps empty_state front.top.actions) whole share.actions (files_up_to (suc before) parts (length (files_of whole)))
            (files_up_to (suc (suc before)) parts (length (files_of whole))) horizon
            (goes_up (suc before) parts (length (files_of whole)) some) apart share.share front.upto);
      }

  -- all that are left
  fronts : (done left : List (List ℕ)) (before : ℕ) → 1 ≤ parts → ArePartPaths version parts (suc before) left → AllStand events left
      → Front events done (suc before) parts whole horizon → Front events (done ++ left) parts parts whole horizon
  fronts done [] before some at_end none front =
      subst (λ n. Front events (done ++ []) n parts whole horizon) at_end
      (subst (λ (paths : List (List ℕ)). Front events paths (suc before) parts whole horizon) (sym (append-nil done)) front)
  fronts done (path ∷ left) before some (at, others) ((bytes, has), stand) front =
      subst (λ (paths : List (List ℕ)). Front events paths parts parts whole horizon) (append_assoc done (path ∷ []) left)
      (fronts (done ++ path ∷ []) left (suc before) some others stand (front_more done before path bytes at has some front))

  parts_mean : (paths : List (List ℕ)) → 1 ≤ parts → ArePartPaths version parts 0 paths → AllStand events paths → Front events paths parts parts whole horizon
  parts_mean [] some at_end none = absurd (omega (arith, some, at_end))
  parts_mean (path ∷ left) some (at, others) ((bytes, has), stand) = fronts (path ∷ []) left 0 some others stand (front_one path bytes at has)

shares_of : (events : List Told) (horizon : ℤ) → Lawful events horizon → (version parts : ℕ) → HasShares events version parts (table_at events version) horizon
shares_of events horizon lawful version parts part bytes holds = ((lawful_is_sound events horizon lawful).parts version part parts bytes holds).share

pub checkpoints_stand : CheckpointsStand
checkpoints_stand events horizon lawful (refs.Classic v path) version (same, at) ((bytes, has), none) =
    let fine = (lawful_is_sound events horizon lawful).tops (Classic version) version refl bytes (record { path = path; is_place = at; has_bytes = has }) in
    (fine.top.actions ++ fine.sides, record { top = fine.top; means = (bytes, has, fine.means); sides = fine.sides; sides_mean = fine.sides_mean; all = refl }, fine.stands)
checkpoints_stand events horizon lawful (refs.V2 v path json) version (same, (id, at)) ((bytes, has), none) =
    let fine = (lawful_is_sound events horizon lawful).tops (V2 version id json) version refl bytes (record { path = path; is_place = at; has_bytes = has }) in (
      fine.top.actions ++ fine.sides,
      record { top = fine.top; means = (bytes, has, subst (λ n. HasV2Top n json bytes fine.top) (sym same) fine.means); sides = fine.sides; sides_mean = fine.sides_mean; all = refl },
      fine.stands,
    )
checkpoints_stand events horizon lawful (refs.Parts v parts paths) version (same, some, at) stand =
    let front = parts_mean events version parts (table_at events version) horizon (apart_fold (take (version + 1) (commits_of (history events))))
    (shares_of events horizon lawful version parts) paths some at stand in (
      front.top.actions,
      record { top = front.top; means = front.means; sides = []; sides_mean = subst (λ names. SidesMean events names []) (sym front.alone) refl; all = sym (append-nil front.top.actions) },
      all_parts (steps empty_state front.top.actions) (table_at events version) parts horizon some front.upto,
    )

-- ---- parts that make a whole

-- the paths of the parts after the first ones, up to one
abbrev ArePathsTo : ℕ → ℕ → ℕ → ℕ → List (List ℕ) → Type 0
ArePathsTo version parts last before [] = before ≡ last
ArePathsTo version parts last before (path ∷ paths) = (place_of path ≡ Part version (suc before) parts) × ArePathsTo version parts last (suc before) paths

all_of_them : (version parts before : ℕ) (paths : List (List ℕ)) → ArePathsTo version parts parts before paths → ArePartPaths version parts before paths
all_of_them version parts before [] at_end = at_end
all_of_them version parts before (path ∷ paths) (at, others) = (at, all_of_them version parts (suc before) paths others)

one_more_path : (version parts last before : ℕ) (paths : List (List ℕ)) (path : List ℕ) → ArePathsTo version parts last before paths → place_of path ≡ Part version (suc last) parts
    → ArePathsTo version parts (suc last) before (paths ++ path ∷ [])
one_more_path version parts last before [] path at_end at = (at ∙ ap (λ n. Part version (suc n) parts) (sym at_end), ap suc at_end)
one_more_path version parts last before (first ∷ paths) path (first_at, others) at = (first_at, one_more_path version parts last (suc before) paths path others at)

stands_too : (events : List Told) (paths : List (List ℕ)) (path bytes : List ℕ) → AllStand events paths → content events path ≡ Some bytes → AllStand events (paths ++ path ∷ [])
stands_too events [] path bytes none has = ((bytes, has), tt)
stands_too events (first ∷ paths) path bytes (there, others) has = (there, stands_too events paths path bytes others has)

paths_stand : (events : List Told) (version parts count : ℕ) → ((part : ℕ) → 1 ≤ part → part ≤ count → Present events (Part version part parts))
    → ArePathsTo version parts count 0 (part_paths version parts count) × AllStand events (part_paths version parts count)
paths_stand events version parts zero all = (refl, tt)
paths_stand events version parts (suc count) all =
    let before = paths_stand events version parts count (λ part low high. all part low (omega (arith, high))) in
    let (bytes, holds) = all (suc count) (omega arith) (omega arith) in (
      one_more_path version parts count 0 (part_paths version parts count) (place_path (Part version (suc count) parts)) before.0 (placed events (Part version (suc count) parts) bytes holds),
      stands_too events (part_paths version parts count) (place_path (Part version (suc count) parts)) bytes before.1 (held_at events (Part version (suc count) parts) bytes holds),
    )

pub parts_ref_stands : (events : List Told) (version parts : ℕ) → HasAllParts events version parts
    → IsCheckpointOf (parts_ref version parts) version × AllStand events (object_paths (parts_ref version parts))
parts_ref_stands events version parts (some, all) =
    let both = paths_stand events version parts parts all in ((refl, some, all_of_them version parts 0 (part_paths version parts parts) both.0), both.1)

pub parts_stand : PartsStand
parts_stand events horizon lawful version parts whole =
    let there = parts_ref_stands events version parts whole in checkpoints_stand events horizon lawful (parts_ref version parts) version there.0 there.1

-- ---- whatever is read

each_stands : (events : List Told) (paths : List (List ℕ)) (top : Top) → PartsMean events paths top → AllStand events paths
each_stands events [] top none = tt
each_stands events (path ∷ paths) top (own, rest, (bytes, has, means), more, all, names) = ((bytes, has), each_stands events paths rest more)

-- what means something stands
pub objects_stand : (events : List Told) (checkpoint : CheckpointRef) (top : Top) → ObjectsMean events checkpoint top → AllStand events (object_paths checkpoint)
objects_stand events (refs.Classic version path) top (bytes, has, means) = ((bytes, has), tt)
objects_stand events (refs.Parts version parts paths) top means = each_stands events paths top means
objects_stand events (refs.V2 version path json) top (bytes, has, means) = ((bytes, has), tt)

within : (events : List Told) (horizon : ℤ) → Lawful events horizon → (checkpoint : CheckpointRef) (version : ℕ) → IsCheckpointOf checkpoint version
    → AllStand events (object_paths checkpoint) → version < next_version events
within events horizon lawful (refs.Classic v path) version (same, at) ((bytes, has), none) =
    ((lawful_is_sound events horizon lawful).tops (Classic version) version refl bytes (record { path = path; is_place = at; has_bytes = has })).within
within events horizon lawful (refs.V2 v path json) version (same, (id, at)) ((bytes, has), none) =
    ((lawful_is_sound events horizon lawful).tops (V2 version id json) version refl bytes (record { path = path; is_place = at; has_bytes = has })).within
within events horizon lawful (refs.Parts v parts []) version (same, some, at_end) none = absurd (omega (arith, some, at_end))
within events horizon lawful (refs.Parts v parts (path ∷ paths)) version (same, some, (at, others)) ((bytes, has), stand) =
    ((lawful_is_sound events horizon lawful).parts version 1 parts bytes (record { path = path; is_place = at; has_bytes = has })).within

pub read_checkpoints_stand : MeansOneList → ReadCheckpointsStand
read_checkpoints_stand one events horizon lawful checkpoint version actions is means =
    let stand = objects_stand events checkpoint means.top means.means in
    let (others, means_other, stands) = checkpoints_stand events horizon lawful checkpoint version is stand in (
      within events horizon lawful checkpoint version is stand,
      subst (λ (xs : List Action). Stands xs (table_at events version) horizon) (checkpoint_means_one one events checkpoint others actions means_other means) stands,
    )

-- a sidecar that a checkpoint of a lawful log names stands
pub named_stands : MeansOneList → (events : List Told) (horizon : ℤ) → Lawful events horizon → (checkpoint : CheckpointRef) (version : ℕ) → IsCheckpointOf checkpoint version
    → (top : Top) → ObjectsMean events checkpoint top → (name : List ℕ) → Among name top.sidecars → Present events (Sidecar name)
named_stands one events horizon lawful (refs.Classic v path) version (same, at) top (bytes, has, means) name among =
    ((lawful_is_sound events horizon lawful).tops (Classic version) version refl bytes (record { path = path; is_place = at; has_bytes = has })).named name (top, means, among)
named_stands one events horizon lawful (refs.V2 v path json) version (same, (id, at)) top (bytes, has, means) name among =
    ((lawful_is_sound events horizon lawful).tops (V2 version id json) version refl bytes (record { path = path; is_place = at; has_bytes = has })).named name
    (top, subst (λ n. HasV2Top n json bytes top) same means, among)
named_stands one events horizon lawful (refs.Parts v parts paths) version (same, some, at) top means name among =
    let front = parts_mean events version parts (table_at events version) horizon (apart_fold (take (version + 1) (commits_of (history events))))
    (shares_of events horizon lawful version parts) paths some at (each_stands events paths top means) in
    let is : top ≡ front.top = objects_mean one events (refs.Parts v parts paths) top front.top means front.means in
    absurd (subst (Among name) (ap (λ (t : Top). t.sidecars) is ∙ front.alone) among)
