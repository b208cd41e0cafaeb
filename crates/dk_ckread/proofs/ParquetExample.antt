-- Checkpoints in Parquet come lawfully after the example.
use Rattle.std.proofs.Common.{◌≡◌, ℕ, zero, suc, ◌+◌, ℤ, pos, ◌<◌, ◌≤◌, true, false, ◌⊎◌, inl, inr, take, List, [], ◌∷◌, ◌++◌, Some, None, codes, refl, sym, ap, subst, ◌∙◌, arith}
use Rattle.std.proofs.lemmas.Int.{ints}
use Rattle.std.specs.Prelude.{⊤, Bool, Option, cond, length}
use Rattle.std.specs.declared.cmp.Ordering.{Ordering}
use Rattle.std.specs.Ordering.{eq_by_cmp, nat_cmp}
use Rattle.std.specs.Cmp.Lexicographic.{slice_cmp, nat_list_cmp_total}
use Rattle.std.specs.FinMap.{empty, entries, get, put, remove, len-entries, len-empty, get-empty, get-remove, entries-insert, same_map}
use Rattle.percent_encoding.specs.Percent.{percent_decode}
use Rattle.dk_model.specs.declared.action.Action.{Action}
use Rattle.dk_model.specs.declared.action.Action.TheVariants as action
use Rattle.dk_model.specs.declared.action.SidecarRef.{SidecarRef}
use Rattle.dk_model.specs.declared.action.AddFile.{AddFile}
use Rattle.dk_model.specs.declared.state.Application.{Application}
use Rattle.dk_model.specs.declared.state.TableState.{TableState}
use Rattle.dk_model.specs.CheckpointObjects.{checkpoint_meta_of, sidecar_of}
use Rattle.dk_model.specs.CommitText.{commit_of}
use Rattle.dk_model.specs.DomainObject.{domain_of}
use Rattle.dk_model.specs.TxnObject.{txn_of}
use Rattle.dk_model.specs.State.{step, steps, fold, empty_state}
use Rattle.dk_model.specs.WellKept.{IsWellKept}
use Rattle.dk_model.specs.Ranges.{IsInRange}
use Rattle.dk_model.proofs.TextMaps.{text_order}
use Rattle.dk_model.proofs.WellKept.{step_keeps, empty_is_kept}
use Rattle.dk_store.specs.Told.{Told, Made}
use Rattle.dk_paths.specs.Places.{Place, Commit_at, Classic, Part, V2, Sidecar, place_path, IsPlace}
use Rattle.dk_paths.proofs.PlaceLaws.{place_of_path}
use Rattle.dk_lawful.specs.Agree.{Agree}
use Rattle.dk_lawful.specs.CheckpointExample.{mark_text_1, side_text, side_action}
use Rattle.dk_lawful.specs.CheckpointRows.{actions_of_rows, row_means}
use Rattle.dk_lawful.specs.CheckpointSchema.{txn_group, add_group, vector_group, remove_group, format_group, metadata_group, protocol_group, domain_group, checkpoint_group, sidecar_group}
use Rattle.dk_lawful.specs.Checkpoints.{InParquet, sidecar_of_path, sidecars_of}
use Rattle.dk_lawful.specs.ContentLaws.{WrittenOf, sidecars_content}
use Rattle.dk_lawful.specs.Contents.{mark, classic_content, part_content, v2_content}
use Rattle.dk_lawful.specs.Example.{first_text, first_actions, second_actions, example}
use Rattle.dk_lawful.specs.History.{RatifiedCommit, after_made, history, commits_of}
use Rattle.dk_lawful.specs.MoreExamples.{IsLawfulAfter, side_name}
use Rattle.dk_lawful.specs.Present.{Holds, Present, AtMostPublished}
use Rattle.dk_lawful.proofs.CheckpointExample.{OnlyAt, also_at, made, gone}
use Rattle.dk_lawful.proofs.Example.{example_is_lawful, only_commits}
use Rattle.dk_lawful.proofs.MayBeMade.{classic_may_be_made, part_may_be_made, v2_may_be_made}
use Rattle.dk_lawful.proofs.MoreExamples.{free_at, example_published, example_commits}
use Rattle.dk_lawful.proofs.OnTexts.{commits_on_literals, rules_on_literals}
use Rattle.dk_lawful.proofs.SegmentsAgree.{agrees_itself}
use Rattle.dk_lawful.proofs.Standing.{kept_made, made_here}
use Rattle.dk_pqread.proofs.OneList.{one_list}
use Rattle.dk_ckread.specs.ParquetFiles.{head_file, add_file, side_file, top_file}
use Rattle.dk_ckread.specs.ParquetRows.{head_rows, add_rows, side_rows, top_rows}
use Rattle.dk_ckread.specs.ParquetExample.{in_one_object, first_part, in_parts, parts_in_use, sidecar_made, top_text, with_sidecar, top_in_parquet, side_alone}
use Rattle.dk_ckread.proofs.FilesMean.{head_file_means, add_file_means, side_file_means, top_file_means}

unfoldable rows_on_literals : ⊤
unfolding commits_on_literals rules_on_literals txn_group add_group vector_group remove_group format_group metadata_group protocol_group domain_group checkpoint_group sidecar_group txn_of domain_of checkpoint_meta_of sidecar_of row_means
rows_on_literals = tt

-- ---- the states of both versions

abbrev first_state : TableState
first_state = fold (first_actions ∷ [])

abbrev second_state : TableState
second_state = fold (first_actions ∷ second_actions ∷ [])

abbrev AreInRange : List Action → Type 0
AreInRange [] = Unit {0}
AreInRange (a ∷ more) = IsInRange a × AreInRange more

kept_on : (state : TableState) (actions : List Action) → IsWellKept state → AreInRange actions → IsWellKept (steps state actions)
kept_on state [] kept ranges = kept
kept_on state (a ∷ more) kept ranges = kept_on (step state a) more (step_keeps state a kept ranges.0) ranges.1

first_kept : IsWellKept first_state
first_kept = kept_on empty_state first_actions empty_is_kept (record { reader = omega arith; writer = omega arith }, (record { time = tt }, tt))

second_kept : IsWellKept second_state
second_kept = kept_on first_state second_actions first_kept (record { size = omega arith; time = omega arith; row = tt; version = tt }, tt)

-- ---- what the objects have

head_read : actions_of_rows head_rows ≡ Some first_actions
unfolding rows_on_literals
head_read = refl

-- the file as the state has it
abbrev kept_file : AddFile
kept_file = record {
  path = codes "a";
  partition_values = [];
  size = pos 1;
  modification_time = pos 5;
  data_change = false;
  stats = None;
  tags = None;
  base_row_id = None;
  default_row_commit_version = None;
  clustering_provider = None;
  vector = false;
}

abbrev kept_actions : List Action
kept_actions = action.Add kept_file ∷ []

add_read : actions_of_rows add_rows ≡ Some kept_actions
unfolding rows_on_literals
add_read = refl

pub head_has : InParquet head_file first_actions
head_has = record { rows = head_rows; means = head_file_means; read = head_read }

add_has : InParquet add_file kept_actions
add_has = record { rows = add_rows; means = add_file_means; read = add_read }

-- ---- what is to be written of the states

abbrev order : List ℕ → List ℕ → Ordering
order = slice_cmp nat_cmp

no_entries : {X : Type 0} (entries_of : List X) → length entries_of ≡ 0 → entries_of ≡ []
no_entries [] h = refl
no_entries (x ∷ xs) h = absurd (omega (arith, h))

none_in : (X : Type 0) → entries (empty {X = X} {R = order}) ≡ []
none_in X = no_entries (entries empty) (sym (len-entries empty) ∙ len-empty order X)

still_none : (X : Type 0) (key : List ℕ) → remove (empty {X = X} {R = order}) key ≡ empty
still_none X key = same_map nat_list_cmp_total text_order (remove empty key) empty (λ q. get-remove nat_list_cmp_total empty key q ∙ either_none (eq_by_cmp order q key) (get empty q) (get-empty order q) ∙ sym (get-empty order q))
  where
    either_none : {A : Type 0} (b : Bool) (found : Option A) → found ≡ None → cond b None found ≡ None
    either_none true found h = refl
    either_none false found h = h

files_are : entries second_state.files ≡ (codes "a", kept_file) ∷ []
files_are = entries-insert nat_list_cmp_total empty (codes "a") kept_file ∙ ap (put order (codes "a") kept_file) (none_in AddFile)

times_are : entries second_state.tombstones ≡ []
times_are = ap entries (still_none ℤ (codes "a")) ∙ none_in ℤ

classic_is : (cut : ℤ) → classic_content first_state 0 cut ≡ first_actions
unfolding rows_on_literals
classic_is cut = rw (none_in AddFile, none_in ℤ, none_in Application, none_in (List ℕ)) refl

first_part_is : (cut : ℤ) → part_content second_state cut 1 2 ≡ first_actions
unfolding rows_on_literals
first_part_is cut = rw (files_are, times_are, none_in Application, none_in (List ℕ)) refl

second_part_is : (cut : ℤ) → part_content second_state cut 2 2 ≡ kept_actions
unfolding rows_on_literals
second_part_is cut = rw files_are refl

-- ---- what is there

abbrev pub IsCommitPlace : Place → Type 0
IsCommitPlace place = (version : ℕ) × (Commit_at version ≡ place)

classic_place : IsPlace (Classic 0)
classic_place = omega arith

first_place : IsPlace (Part 1 1 2)
first_place = ((omega arith), record { first = omega arith; last = omega arith; small = omega arith })

second_place : IsPlace (Part 1 2 2)
second_place = ((omega arith), record { first = omega arith; last = omega arith; small = omega arith })

pub side_place : IsPlace (Sidecar side_name)
side_place = refl

pub top_place : IsPlace (V2 1 7 true)
top_place = ((omega arith), (omega arith))

only_first : OnlyAt (first_part example) (λ place. (Part 1 1 2 ≡ place) ⊎ IsCommitPlace place)
only_first = also_at example IsCommitPlace (Part 1 1 2) head_file (pos 2) first_place only_commits

pub only_side : OnlyAt (sidecar_made example) (λ place. (Sidecar side_name ≡ place) ⊎ IsCommitPlace place)
only_side = also_at example IsCommitPlace (Sidecar side_name) add_file (pos 2) side_place only_commits

no_classic : (held : List ℕ) → Holds example (Classic 0) held → ⊥
no_classic held holds = let only = only_commits (Classic 0) held holds in let no : Commit_at only.0 ≡ Classic 0 = only.1 in cc

no_first : (held : List ℕ) → Holds example (Part 1 1 2) held → ⊥
no_first held holds = let only = only_commits (Part 1 1 2) held holds in let no : Commit_at only.0 ≡ Part 1 1 2 = only.1 in cc

no_side : (held : List ℕ) → Holds example (Sidecar side_name) held → ⊥
no_side held holds = let only = only_commits (Sidecar side_name) held holds in let no : Commit_at only.0 ≡ Sidecar side_name = only.1 in cc

no_second : (held : List ℕ) → Holds (first_part example) (Part 1 2 2) held → ⊥
no_second held holds = elim (only_first (Part 1 2 2) held holds) [
  | inl is ↦ other_part 1 2 (omega arith) is
  | inr (version, is) ↦ let no : Commit_at version ≡ Part 1 2 2 = is in cc
]
  where
    other_part : (a b : ℕ) → a < b → Part 1 a 2 ≡ Part 1 b 2 → ⊥
    other_part a b less is = let same : a ≡ b = cc in omega arith

no_top : (held : List ℕ) → Holds (sidecar_made example) (V2 1 7 true) held → ⊥
no_top held holds = elim (only_side (V2 1 7 true) held holds) [
  | inl is ↦ let no : Sidecar side_name ≡ V2 1 7 true = is in cc
  | inr (version, is) ↦ let no : Commit_at version ≡ V2 1 7 true = is in cc
]

-- ---- the lists

-- the history stays that of the example, and the last commit stays
quiet : (place : Place) (bytes : List ℕ) (stamp : ℤ) → IsPlace place → ((h : List RatifiedCommit) → after_made h place bytes ≡ h)
    → commits_of (history (Made (place_path place) bytes stamp ∷ example)) ≡ first_actions ∷ second_actions ∷ []
quiet place bytes stamp is adds = ap commits_of (ap (λ p. after_made (history example) p bytes) (place_of_path place is) ∙ adds (history example)) ∙ example_commits

still_published : (place : Place) (bytes : List ℕ) (stamp : ℤ) → IsPlace place → ((held : List ℕ) → Holds example place held → ⊥) → AtMostPublished (Made (place_path place) bytes stamp ∷ example) 1
still_published place bytes stamp is none =
    let (last, most, (held, holds)) = example_published in (last, most, (held, kept_made example (place_path place) bytes stamp (Commit_at last) held (free_at example place is none) holds))

-- a state that was opened of such a log
opened : (events : List Told) (version : ℕ) (state : TableState) (horizon : ℤ) → AtMostPublished events version → commits_of (history events) ≡ first_actions ∷ second_actions ∷ []
    → state ≡ fold (take (version + 1) (first_actions ∷ second_actions ∷ [])) → IsWellKept state → WrittenOf events horizon version state horizon
opened events version state horizon published commits is kept = record {
  published = published;
  agrees = subst (λ (s : TableState). Agree state s horizon) (is ∙ ap (λ cs. fold (take (version + 1) cs)) (sym commits)) (agrees_itself state horizon);
  kept = kept;
  within = omega (arith, ints);
}

pub in_one_object_is_lawful : IsLawfulAfter in_one_object
in_one_object_is_lawful horizon =
    made example (Classic 0) head_file (pos 2) horizon (example_is_lawful horizon) classic_place no_classic
    (classic_may_be_made one_list example horizon 0 first_state horizon head_file
    (opened example 0 first_state horizon (example_published.0, (omega arith), example_published.2) example_commits refl first_kept)
    (subst (InParquet head_file) (sym (classic_is horizon)) head_has))

second_opened : (events : List Told) (horizon : ℤ) → AtMostPublished events 1 → commits_of (history events) ≡ first_actions ∷ second_actions ∷ [] → WrittenOf events horizon 1 second_state horizon
second_opened events horizon published commits = opened events 1 second_state horizon published commits refl second_kept

first_commits : commits_of (history (first_part example)) ≡ first_actions ∷ second_actions ∷ []
first_commits = quiet (Part 1 1 2) head_file (pos 2) first_place (λ h. refl)

first_is_lawful : IsLawfulAfter first_part
first_is_lawful horizon =
    made example (Part 1 1 2) head_file (pos 2) horizon (example_is_lawful horizon) first_place no_first
    (part_may_be_made example horizon 1 1 2 second_state horizon head_file (second_opened example horizon example_published example_commits) (omega arith) (omega arith)
    (subst (InParquet head_file) (sym (first_part_is horizon)) head_has))

pub in_parts_is_lawful : IsLawfulAfter in_parts
in_parts_is_lawful horizon =
    made (first_part example) (Part 1 2 2) add_file (pos 3) horizon (first_is_lawful horizon) second_place no_second
    (part_may_be_made (first_part example) horizon 1 2 2 second_state horizon add_file
    (second_opened (first_part example) horizon (still_published (Part 1 1 2) head_file (pos 2) first_place no_first) first_commits) (omega arith) (omega arith)
    (subst (InParquet add_file) (sym (second_part_is horizon)) add_has))

each_part : (part : ℕ) → 1 ≤ part → part ≤ 2 → Present (in_parts example) (Part 1 part 2)
each_part zero low high = absurd (omega (arith, low))
each_part (suc zero) low high = (
  head_file,
  kept_made (first_part example) (place_path (Part 1 2 2)) add_file (pos 3) (Part 1 1 2) head_file (free_at (first_part example) (Part 1 2 2) second_place no_second)
      (made_here example (place_path (Part 1 1 2)) head_file (pos 2) (Part 1 1 2) (place_of_path (Part 1 1 2) first_place)),
)
each_part (suc (suc zero)) low high = (add_file, made_here (first_part example) (place_path (Part 1 2 2)) add_file (pos 3) (Part 1 2 2) (place_of_path (Part 1 2 2) second_place))
each_part (suc (suc (suc more))) low high = absurd (omega (arith, high))

pub parts_are_used : IsLawfulAfter parts_in_use
parts_are_used horizon =
    gone (in_parts example) (Commit_at 0) horizon (in_parts_is_lawful horizon) (omega arith) ((1, (omega arith), inr (inr (2, (omega arith), each_part))), refl)

-- ---- with a sidecar

abbrev reference : SidecarRef
reference = record { path = codes "x/%73.parquet"; size = pos 1; stamp = pos 2 }

v2_is : (cut : ℤ) → v2_content second_state 1 cut (reference ∷ []) ≡ mark 1 ∷ (first_actions ++ side_action ∷ [])
unfolding rows_on_literals
v2_is cut = rw (none_in Application, none_in (List ℕ)) refl

top_means : commit_of top_text ≡ Some (mark 1 ∷ (first_actions ++ side_action ∷ []))
unfolding commits_on_literals checkpoint_meta_of sidecar_of mark_text_1 first_text side_text
top_means = refl

names_side : sidecars_of (side_action ∷ []) ≡ Some (side_name ∷ [])
unfolding sidecar_of_path percent_decode commits_on_literals
names_side = refl

side_is : (cut : ℤ) → sidecars_content second_state cut 1 1 ≡ kept_actions ++ []
unfolding rows_on_literals
side_is cut = rw (files_are, times_are) refl

side_is_lawful : IsLawfulAfter sidecar_made
side_is_lawful horizon = made example (Sidecar side_name) add_file (pos 2) horizon (example_is_lawful horizon) side_place no_side tt

pub with_sidecar_is_lawful : IsLawfulAfter with_sidecar
with_sidecar_is_lawful horizon =
    made (sidecar_made example) (V2 1 7 true) top_text (pos 3) horizon (side_is_lawful horizon) top_place no_top
    (v2_may_be_made one_list (sidecar_made example) horizon 1 7 true second_state horizon (reference ∷ []) (side_name ∷ []) top_text
    (second_opened (sidecar_made example) horizon (still_published (Sidecar side_name) add_file (pos 2) side_place no_side) (quiet (Sidecar side_name) add_file (pos 2) side_place (λ h. refl)))
    (top_means ∙ ap Some (sym (v2_is horizon))) names_side
    (add_file, kept_actions, [], made_here example (place_path (Sidecar side_name)) add_file (pos 2) (Sidecar side_name) (place_of_path (Sidecar side_name) side_place), (add_has, refl), refl, side_is horizon))

-- ---- a checkpoint of the form V2 in Parquet

top_rows_mean : actions_of_rows top_rows ≡ Some (mark 0 ∷ first_actions)
unfolding rows_on_literals
top_rows_mean = refl

top_has : InParquet top_file (mark 0 ∷ first_actions)
top_has = record { rows = top_rows; means = top_file_means; read = top_rows_mean }

first_v2_is : (cut : ℤ) → v2_content first_state 0 cut [] ≡ mark 0 ∷ first_actions
unfolding rows_on_literals
first_v2_is cut = rw (none_in AddFile, none_in ℤ, none_in Application, none_in (List ℕ)) refl

parquet_place : IsPlace (V2 0 7 false)
parquet_place = ((omega arith), (omega arith))

none_in_parquet : (held : List ℕ) → Holds example (V2 0 7 false) held → ⊥
none_in_parquet held holds = let only = only_commits (V2 0 7 false) held holds in let no : Commit_at only.0 ≡ V2 0 7 false = only.1 in cc

pub top_in_parquet_is_lawful : IsLawfulAfter top_in_parquet
top_in_parquet_is_lawful horizon =
    made example (V2 0 7 false) top_file (pos 2) horizon (example_is_lawful horizon) parquet_place none_in_parquet
    (v2_may_be_made one_list example horizon 0 7 false first_state horizon [] [] top_file
    (opened example 0 first_state horizon (example_published.0, (omega arith), example_published.2) example_commits refl first_kept)
    (subst (InParquet top_file) (sym (first_v2_is horizon)) top_has) refl refl)

-- ---- a part that names a sidecar

side_rows_mean : actions_of_rows side_rows ≡ Some (side_alone ∷ [])
unfolding rows_on_literals
side_rows_mean = refl

pub side_has : InParquet side_file (side_alone ∷ [])
side_has = record { rows = side_rows; means = side_file_means; read = side_rows_mean }

pub names_alone : sidecars_of (side_alone ∷ []) ≡ Some (side_name ∷ [])
unfolding sidecar_of_path percent_decode commits_on_literals
names_alone = refl
