-- What is written of a checkpoint stands for the state, and of a part is its share.
use Rattle.std.proofs.Common.{◌≡◌, ℕ, zero, suc, ℤ, ◌≤◌, Bool, true, false, inl, inr, List, [], ◌∷◌, ◌++◌, map, filter, length, take, Option, Some, None, if◌then◌else◌, refl, sym, ap, subst, ◌∙◌, arith, append-nil, append_assoc}
use Rattle.std.specs.Prelude.{is_some}
use Rattle.std.specs.List.{filter_map, list_all}
use Rattle.std.specs.Option.{option_to_list}
use Rattle.std.specs.FinMap.{get, entries, get-entries}
use Rattle.std.proofs.lemmas.Int.{ints}
use Rattle.dk_model.specs.declared.action.AddFile.{AddFile}
use Rattle.dk_model.specs.declared.action.Protocol.{Protocol}
use Rattle.dk_model.specs.declared.action.Metadata.{Metadata}
use Rattle.dk_model.specs.declared.state.Application.{Application}
use Rattle.dk_model.specs.declared.action.Action.{Action}
use Rattle.dk_model.specs.declared.action.Action.TheVariants as action
use Rattle.dk_model.specs.declared.action.SidecarRef.{SidecarRef}
use Rattle.dk_model.specs.declared.state.TableState.{TableState}
use Rattle.dk_model.specs.State.{steps, empty_state}
use Rattle.dk_model.specs.Texts.{ByText}
use Rattle.dk_model.specs.WellKept.{IsWellKept}
use Rattle.dk_lawful.specs.Agree.{Agree}
use Rattle.dk_lawful.specs.Shares.{files_up_to, share_of, files_of, has_file, SetsAllElse}
use Rattle.dk_lawful.specs.Checkpoints.{sidecars_of, marked_version, is_file_action}
use Rattle.dk_model.specs.Contents.{heads, live_file, is_later, removal, recorded, configured, adds, removals, named_actions, canonical_with}
use Rattle.dk_lawful.specs.Contents.{has_v2, mark, v2_content}
use Rattle.dk_lawful.specs.ContentLaws.{ClassicStands, PartHasShare, sidecars_content, V2Stands, V2SaysVersion, SidecarsHaveFiles, StandingComposes, ShareComposes}
use Rattle.dk_lawful.proofs.Words.{AreOf, entries_are_of, drop_is_of, take_is_of}
use Rattle.dk_lawful.proofs.ContentsStand.{sets_files, sets_all_else, says_files, says_all_with, says_first}
use Rattle.dk_lawful.proofs.Joined.{IsApart, UpTo, first_part, more_parts, goes_up, whole_agrees, all_parts, none_in_drop, none_in_take}
use Rattle.dk_lawful.proofs.WholeCheckpoints.{steps_more}

cut_is_of : (state : TableState) (before parts : ℕ) → AreOf state.files (share_of before parts (files_of state))
cut_is_of state before parts =
    drop_is_of state.files (files_up_to before parts (length (files_of state))) (take (files_up_to (suc before) parts (length (files_of state))) (files_of state))
    (take_is_of state.files (files_up_to (suc before) parts (length (files_of state))) (files_of state) (entries_are_of state.files))

cut_among : (state : TableState) (before parts : ℕ) (path : List ℕ) → get state.files path ≡ None → has_file (share_of before parts (files_of state)) path ≡ false
cut_among state before parts path none =
    ap is_some (none_in_drop (files_up_to before parts (length (files_of state))) (take (files_up_to (suc before) parts (length (files_of state))) (files_of state)) path
    (none_in_take (files_up_to (suc before) parts (length (files_of state))) (files_of state) path (sym (get-entries state.files path) ∙ none)))

upto_all : (actions : List Action) (whole : TableState) (cut : ℤ) → SetsAllElse actions whole (files_of whole) cut → UpTo (steps empty_state actions) whole (files_of whole) cut
upto_all actions whole cut sets = record {
  sets = sets.sets;
  protocol = sets.protocol;
  metadata = sets.metadata;
  applications = sets.applications;
  domains = sets.domains;
  none_more = sets.none_more;
  unexpired = sets.unexpired;
}

all_stand : (state : TableState) (cut : ℤ) → IsWellKept state → Agree (steps empty_state (canonical_with state (is_later cut) (files_of state))) state cut
all_stand state cut kept =
    whole_agrees (steps empty_state (canonical_with state (is_later cut) (files_of state))) state cut
    (upto_all (canonical_with state (is_later cut) (files_of state)) state cut
    (sets_all_else (canonical_with state (is_later cut) (files_of state)) state (files_of state) cut kept (says_all_with state cut (files_of state) kept (entries_are_of state.files))))

mark_does_nothing : (marks : Bool) (version : ℕ) (actions : List Action) → steps empty_state actions ≡ steps empty_state ((if marks then mark version ∷ [] else []) ++ actions)
mark_does_nothing true version actions = refl
mark_does_nothing false version actions = refl

pub classic_stands : ClassicStands
classic_stands state version cut kept =
    subst (λ (s : TableState). Agree s state cut) (mark_does_nothing (has_v2 state) version (canonical_with state (is_later cut) (files_of state))) (all_stand state cut kept)

-- ---- sidecars that are named

-- what looks through a list passes over actions of one kind
skips : {E R : Type 0} (look : List Action → R) (act : E → Action) (es : List E) (rest : List Action) → ((e : E) (more : List Action) → look (act e ∷ more) ≡ look more)
    → look (map act es ++ rest) ≡ look rest
skips look act [] rest over = refl
skips look act (e ∷ es) rest over = over e (map act es ++ rest) ∙ skips look act es rest over

skips_all : {E R : Type 0} (look : List Action → R) (act : E → Action) (es : List E) → ((e : E) (more : List Action) → look (act e ∷ more) ≡ look more) → look (map act es) ≡ look []
skips_all look act es over = ap look (sym (append-nil (map act es))) ∙ skips look act es [] over

module _ {R : Type 0} (look : List Action → R) (state : TableState) where
  pub skips_heads : (rest : List Action) → ((p : Protocol) (more : List Action) → look (action.Protocol p ∷ more) ≡ look more)
      → ((m : Metadata) (more : List Action) → look (action.Metadata m ∷ more) ≡ look more) → look (heads state ++ rest) ≡ look rest
  skips_heads rest no_protocol no_metadata =
      ap look (append_assoc (map (λ p. action.Protocol p) (option_to_list state.protocol)) (map (λ m. action.Metadata m) (option_to_list state.metadata)) rest)
      ∙ skips look (λ p. action.Protocol p) (option_to_list state.protocol) (map (λ m. action.Metadata m) (option_to_list state.metadata) ++ rest) no_protocol
      ∙ skips look (λ m. action.Metadata m) (option_to_list state.metadata) rest no_metadata

  pub skips_named : (rest : List Action) → ((e : List ℕ × Application) (more : List Action) → look (recorded e ∷ more) ≡ look more)
      → ((e : List ℕ × List ℕ) (more : List Action) → look (configured e ∷ more) ≡ look more) → look (named_actions state ++ rest) ≡ look rest
  skips_named rest no_record no_domain =
      ap look (append_assoc (map recorded (entries state.applications)) (map configured (entries state.domains)) rest)
      ∙ skips look recorded (entries state.applications) (map configured (entries state.domains) ++ rest) no_record
      ∙ skips look configured (entries state.domains) rest no_domain

  skips_named_all : ((e : List ℕ × Application) (more : List Action) → look (recorded e ∷ more) ≡ look more)
      → ((e : List ℕ × List ℕ) (more : List Action) → look (configured e ∷ more) ≡ look more) → look (named_actions state) ≡ look []
  skips_named_all no_record no_domain = ap look (sym (append-nil (named_actions state))) ∙ skips_named [] no_record no_domain

pub all_quiet : (state : TableState) (cut : ℤ) (files : List (List ℕ × AddFile)) → sidecars_of (canonical_with state (is_later cut) files) ≡ Some []
all_quiet state cut files =
    skips_heads sidecars_of state (adds files ++ (removals state (is_later cut) ++ named_actions state)) (λ p more. refl) (λ m more. refl)
    ∙ skips sidecars_of live_file files (removals state (is_later cut) ++ named_actions state) (λ e more. refl)
    ∙ skips sidecars_of removal (filter (is_later cut) (entries state.tombstones)) (named_actions state) (λ e more. refl)
    ∙ skips_named_all sidecars_of state (λ e more. refl) (λ e more. refl)

pub part_has_share : PartHasShare
part_has_share state cut zero parts kept some most = absurd (omega arith)
part_has_share state cut (suc zero) parts kept some most = (
  sets_all_else (canonical_with state (is_later cut) (share_of 0 parts (files_of state))) state (share_of 0 parts (files_of state)) cut kept
      (says_all_with state cut (share_of 0 parts (files_of state)) kept (cut_is_of state 0 parts)),
  all_quiet state cut (share_of 0 parts (files_of state)),
)
part_has_share state cut (suc (suc before)) parts kept some most = (
  sets_files (adds (share_of (suc before) parts (files_of state))) state (share_of (suc before) parts (files_of state)) (cut_among state (suc before) parts)
      (says_files state cut (share_of (suc before) parts (files_of state)) kept (cut_is_of state (suc before) parts)),
  skips_all sidecars_of live_file (share_of (suc before) parts (files_of state)) (λ e more. refl),
)

-- ---- the form V2

well_kept_apart : (state : TableState) → IsWellKept state → IsApart state
well_kept_apart state kept path time is = elim (kept.apart path) [
  | inl no_file ↦ no_file
  | inr no_tombstone ↦ absurd (let no : ◌≡◌ {A = Option ℤ} None (Some time) = sym no_tombstone ∙ is in cc)
]

module _ (state : TableState) (version : ℕ) (cut : ℤ) (kept : IsWellKept state) (references : List SidecarRef) (count : ℕ) (some : 1 ≤ count) where
  abbrev tops : List Action
  tops = mark version ∷ (heads state ++ (named_actions state ++ map (λ r. action.Sidecar r) references))

  sidecars_upto : (before : ℕ) → suc before ≤ count
      → UpTo (steps empty_state (tops ++ sidecars_content state cut (suc before) count)) state (take (files_up_to (suc before) count (length (files_of state))) (files_of state)) cut
  sidecars_upto zero most =
      first_part (tops ++ (adds (share_of 0 count (files_of state)) ++ removals state (is_later cut))) state count cut
      (sets_all_else (tops ++ (adds (share_of 0 count (files_of state)) ++ removals state (is_later cut))) state (share_of 0 count (files_of state)) cut kept
      (says_first state cut (share_of 0 count (files_of state)) kept (cut_is_of state 0 count) version references))
  sidecars_upto (suc before) most =
      let last = adds (share_of (suc before) count (files_of state)) in
      subst (λ (s : TableState). UpTo s state (take (files_up_to (suc (suc before)) count (length (files_of state))) (files_of state)) cut)
      (sym (ap (steps empty_state) (sym (append_assoc tops (sidecars_content state cut (suc before) count) last)) ∙ steps_more empty_state (tops ++ sidecars_content state cut (suc before) count) last))
      (more_parts (steps empty_state (tops ++ sidecars_content state cut (suc before) count)) state last (files_up_to (suc before) count (length (files_of state)))
      (files_up_to (suc (suc before)) count (length (files_of state))) cut (goes_up (suc before) count (length (files_of state)) some) (well_kept_apart state kept)
      (sets_files last state (share_of (suc before) count (files_of state)) (cut_among state (suc before) count)
      (says_files state cut (share_of (suc before) count (files_of state)) kept (cut_is_of state (suc before) count)))
      (sidecars_upto before (omega arith)))

pub v2_stands : V2Stands
v2_stands state version cut [] kept =
    subst (λ (actions : List Action). Agree (steps empty_state actions) state cut) (sym (append-nil (mark version ∷ canonical_with state (is_later cut) (files_of state)))) (all_stand state cut kept)
v2_stands state version cut (reference ∷ references) kept =
    all_parts (steps empty_state (v2_content state version cut (reference ∷ references) ++ sidecars_content state cut (suc (length references)) (suc (length references)))) state (suc (length references)) cut (omega arith)
    (sidecars_upto state version cut kept (reference ∷ references) (suc (length references)) (omega arith) (length references) (omega arith))

pub v2_says_version : V2SaysVersion
v2_says_version state version cut [] =
    ap (λ vs. version ∷ vs)
    (skips_heads (filter_map marked_version) state (adds (files_of state) ++ (removals state (is_later cut) ++ named_actions state)) (λ p more. refl) (λ m more. refl)
    ∙ skips (filter_map marked_version) live_file (files_of state) (removals state (is_later cut) ++ named_actions state) (λ e more. refl)
    ∙ skips (filter_map marked_version) removal (filter (is_later cut) (entries state.tombstones)) (named_actions state) (λ e more. refl)
    ∙ skips_named_all (filter_map marked_version) state (λ e more. refl) (λ e more. refl))
v2_says_version state version cut (reference ∷ references) =
    ap (λ vs. version ∷ vs)
    (skips_heads (filter_map marked_version) state (named_actions state ++ map (λ r. action.Sidecar r) (reference ∷ references)) (λ p more. refl) (λ m more. refl)
    ∙ skips_named (filter_map marked_version) state (map (λ r. action.Sidecar r) (reference ∷ references)) (λ e more. refl) (λ e more. refl)
    ∙ skips_all (filter_map marked_version) (λ r. action.Sidecar r) (reference ∷ references) (λ r more. refl))

pub sidecars_have_files : SidecarsHaveFiles
sidecars_have_files state cut zero count = refl
sidecars_have_files state cut (suc zero) count =
    skips (list_all is_file_action) live_file (share_of 0 count (files_of state)) (removals state (is_later cut)) (λ e more. refl)
    ∙ skips_all (list_all is_file_action) removal (filter (is_later cut) (entries state.tombstones)) (λ e more. refl)
sidecars_have_files state cut (suc (suc before)) count = skips_all (list_all is_file_action) live_file (share_of (suc before) count (files_of state)) (λ e more. refl)

-- ---- what stands for a state stands for one that it agrees with

pub standing_composes : StandingComposes
standing_composes actions state whole cut horizon greater above_cut above stands agree = record {
  protocol = stands.protocol ∙ agree.protocol;
  metadata = stands.metadata ∙ agree.metadata;
  files = stands.files ∙ agree.files;
  applications = stands.applications ∙ agree.applications;
  domains = stands.domains ∙ agree.domains;
  none_more = λ path time is. agree.none_more path time (stands.none_more path time is);
  unexpired = λ path time is later. stands.unexpired path time (agree.unexpired path time is (omega (arith, ints))) (omega (arith, ints));
}

pub share_composes : ShareComposes
share_composes actions state whole zero parts cut horizon greater above_cut above share agree = share
share_composes actions state whole (suc zero) parts cut horizon greater above_cut above share agree = record {
  sets = λ path. share.sets path ∙ ap (λ (m : ByText AddFile). if has_file (share_of 0 parts (entries m)) path then get m path else None) agree.files;
  protocol = share.protocol ∙ agree.protocol;
  metadata = share.metadata ∙ agree.metadata;
  applications = share.applications ∙ agree.applications;
  domains = share.domains ∙ agree.domains;
  none_more = λ path time is. agree.none_more path time (share.none_more path time is);
  unexpired = λ path time is later. share.unexpired path time (agree.unexpired path time is (omega (arith, ints))) (omega (arith, ints));
}
share_composes actions state whole (suc (suc before)) parts cut horizon greater above_cut above share agree = record {
  sets = λ any path. share.sets any path
      ∙ ap (λ (m : ByText AddFile). if has_file (share_of (suc before) parts (entries m)) path then get m path else get any.files path) agree.files;
  takes = λ any path. share.takes any path
      ∙ ap (λ (m : ByText AddFile). if has_file (share_of (suc before) parts (entries m)) path then None else get any.tombstones path) agree.files;
  protocol = share.protocol;
  metadata = share.metadata;
  applications = share.applications;
  domains = share.domains;
}
