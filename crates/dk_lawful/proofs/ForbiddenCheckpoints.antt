-- Each of these events lacks one condition on checkpoints, or on what is deleted, written over or published.
use Rattle.std.proofs.Common.{◌≡◌, ℕ, ℤ, pos, ◌≤◌, true, inl, inr, List, [], ◌∷◌, ◌++◌, Option, Some, None, codes, length, take, unwrap_or, refl, sym, ap, ap₂, subst, ◌∙◌, arith}
use Rattle.dk_pqmodel.specs.FooterBytes.{magic}
use Rattle.std.specs.List.{filter_map}
use Rattle.dk_model.specs.declared.action.Action.{Action}
use Rattle.dk_model.specs.declared.action.Protocol.{Protocol}
use Rattle.dk_model.specs.CommitText.{commit_of}
use Rattle.dk_model.specs.State.{steps, fold, empty_state}
use Rattle.dk_store.specs.Told.{Told, Made, Over, Deleted, Ratified}
use Rattle.dk_paths.specs.Names.{commit_path}
use Rattle.dk_paths.specs.Places.{Place, Commit_at, Classic, Part, V2, Compacted, Sidecar, Staged, place_path, IsPlace}
use Rattle.dk_paths.specs.Staged.{staged_name}
use Rattle.dk_paths.proofs.PlaceLaws.{place_of_path}
use Rattle.dk_lawful.specs.Present.{AtMostPublished, HasAbove, staged_bytes}
use Rattle.dk_lawful.specs.History.{history, next_version}
use Rattle.dk_lawful.specs.Checkpoints.{InParquet, sidecars_of, marked_version, Among, SidesMean}
use Rattle.dk_lawful.specs.Permits.{Permits, MayMake, MayDelete, MayOver, MakesTop, MakesPart, Backfills}
use Rattle.dk_lawful.specs.Example.{first_text, first_actions, second_text, second_actions, managed_text, example, staged_name_1, staging, ratifying, IsForbidden}
use Rattle.dk_lawful.specs.MoreExamples.{side_name}
use Rattle.dk_lawful.specs.CheckpointExample.{whole_text, lacking_text, lacking_actions, naming_text, naming_actions, older_marked_text, older_marked_actions, unmarked_text, unmarked_actions, marked_twice_text, marked_twice_actions, misnaming_text, misnaming_actions, checkpointing, naming}
use Rattle.dk_lawful.proofs.Standing.{commit_place, found_made, made_here, held_at, held_ratified, was_ratified}
use Rattle.dk_lawful.proofs.Sound.{length_commits}
use Rattle.dk_lawful.proofs.Example.{first_means, second_means, only_commits, staged, ratified}
use Rattle.dk_lawful.proofs.MoreExamples.{at_place, example_commits, unpublished}
use Rattle.dk_lawful.proofs.CheckpointExample.{older_marked_means, unmarked_means, marked_twice_means, misnaming_means, misnamed, lacking_means, naming_means, names_side, has_these, names_these, whole_is, whole_commits, checkpointing_is_lawful}
use Rattle.dk_lawful.proofs.Stays.{complete_is_published, none_beyond_last}

side_is : IsPlace (Sidecar side_name)
side_is = refl

top_at : (version id : ℕ) (bytes : List ℕ) (horizon : ℤ) → IsPlace (V2 version id true) → Permits example (Made (place_path (V2 version id true)) bytes (pos 2)) horizon
    → MakesTop example (V2 version id true) version bytes horizon
top_at version id bytes horizon is may = at_place (V2 version id true) bytes (pos 2) horizon is may

pub checkpoint_beyond : IsForbidden example (Made (place_path (V2 2 7 true)) whole_text (pos 2))
checkpoint_beyond horizon may = unpublished 2 (omega arith) (top_at 2 7 whole_text horizon ((omega arith), (omega arith)) may).published

-- the versions that the object says
says : (version : ℕ) (bytes : List ℕ) (actions : List Action) (said : List ℕ) (horizon : ℤ) → IsPlace (V2 version 7 true) → commit_of bytes ≡ Some actions
    → filter_map marked_version actions ≡ said → Permits example (Made (place_path (V2 version 7 true)) bytes (pos 2)) horizon → said ≡ version ∷ []
says version bytes actions said horizon is means has may =
    let makes = top_at version 7 bytes horizon is may in
    sym has ∙ ap (filter_map marked_version) (sym (has_these bytes actions makes.top means makes.means.0)) ∙ makes.means.1

pub other_version : IsForbidden example (Made (place_path (V2 0 7 true)) older_marked_text (pos 2))
other_version horizon may = differ (says 0 older_marked_text older_marked_actions (1 ∷ []) horizon ((omega arith), (omega arith)) older_marked_means refl may)
  where
    differ : ◌≡◌ {A = List ℕ} (1 ∷ []) (0 ∷ []) → ⊥
    differ is = let same : ◌≡◌ {A = ℕ} 1 0 = cc in omega arith

pub no_version : IsForbidden example (Made (place_path (V2 1 7 true)) unmarked_text (pos 2))
no_version horizon may = differ (says 1 unmarked_text unmarked_actions [] horizon whole_is unmarked_means refl may)
  where
    differ : ◌≡◌ {A = List ℕ} [] (1 ∷ []) → ⊥
    differ is = cc

pub version_twice : IsForbidden example (Made (place_path (V2 1 7 true)) marked_twice_text (pos 2))
version_twice horizon may = differ (says 1 marked_twice_text marked_twice_actions (1 ∷ 1 ∷ []) horizon whole_is marked_twice_means refl may)
  where
    differ : ◌≡◌ {A = List ℕ} (1 ∷ 1 ∷ []) (1 ∷ []) → ⊥
    differ is = let lengths : ◌≡◌ {A = ℕ} 2 1 = ap length is in omega (arith, lengths)

-- a path that is none of a sidecar
pub no_sidecar_name : IsForbidden example (Made (place_path (V2 1 7 true)) misnaming_text (pos 2))
no_sidecar_name horizon may =
    let makes = top_at 1 7 misnaming_text horizon whole_is may in
    let same = has_these misnaming_text misnaming_actions makes.top misnaming_means makes.means.0 in
    none_is_some makes.top.sidecars (sym misnamed ∙ ap sidecars_of (sym same) ∙ makes.means.0.named)
  where
    none_is_some : (names : List (List ℕ)) → ◌≡◌ {A = Option (List (List ℕ))} None (Some names) → ⊥
    none_is_some names is = cc

pub does_other : IsForbidden example (Made (place_path (V2 1 7 true)) lacking_text (pos 2))
does_other horizon may =
    let makes = top_at 1 7 lacking_text horizon whole_is may in
    let same = has_these lacking_text lacking_actions makes.top lacking_means makes.means.0 in
    let alone : makes.top.sidecars ≡ [] = names_these lacking_text lacking_actions [] makes.top lacking_means refl makes.means.0 in
    let none : makes.sides ≡ [] = subst (λ names. SidesMean example names makes.sides) alone makes.sides_mean in
    none_is_some _ (ap (λ actions. (steps empty_state actions).protocol) (ap₂ (λ xs ys. xs ++ ys) (sym same) (sym none)) ∙ makes.stands.protocol ∙ ap (λ commits. (fold (take 2 commits)).protocol) example_commits)
  where
    none_is_some : (p : Protocol) → ◌≡◌ {A = Option Protocol} None (Some p) → ⊥
    none_is_some p is = cc

pub sidecar_absent : IsForbidden example (Made (place_path (V2 1 7 true)) naming_text (pos 2))
sidecar_absent horizon may =
    let makes = top_at 1 7 naming_text horizon whole_is may in
    let named : makes.top.sidecars ≡ side_name ∷ [] = names_these naming_text naming_actions (side_name ∷ []) makes.top naming_means names_side makes.means.0 in
    let side = makes.named side_name (makes.top, makes.means, subst (Among side_name) (sym named) (inl refl)) in
    let only = only_commits (Sidecar side_name) side.0 side.1 in
    let no : Commit_at only.0 ≡ Sidecar side_name = only.1 in cc

-- a text in JSON is no Parquet file, which begins with other bytes
first_bytes : (byte other : ℕ) (bytes others : List ℕ) → byte ∷ bytes ≡ other ∷ others → byte ≡ other
first_bytes byte other bytes others is = cc

first_of_file : (byte : ℕ) (bytes before content rest : List ℕ) → byte ∷ bytes ≡ before ++ rest → before ≡ magic ++ content → byte ≡ 80
first_of_file byte bytes before content rest whole front = first_bytes byte 80 bytes _ (whole ∙ ap (λ b. b ++ rest) front)

not_json : (actions : List Action) → InParquet (codes "{}") actions → ⊥
not_json actions parquet =
    let framed = parquet.means.framed in
    let first : ◌≡◌ {A = ℕ} 123 80 = first_of_file 123 _ parquet.means.before framed.content _ framed.whole framed.front in
    omega arith

pub classic_in_json : IsForbidden example (Made (place_path (Classic 1)) (codes "{}") (pos 2))
classic_in_json horizon may =
    let makes : MakesTop example (Classic 1) 1 (codes "{}") horizon = at_place (Classic 1) (codes "{}") (pos 2) horizon (omega arith) may in
    not_json makes.top.actions makes.means.means

pub part_in_json : IsForbidden example (Made (place_path (Part 1 1 2)) (codes "{}") (pos 2))
part_in_json horizon may =
    let makes : MakesPart example 1 1 2 (codes "{}") horizon =
    at_place (Part 1 1 2) (codes "{}") (pos 2) horizon ((omega arith), record { first = omega arith; last = omega arith; small = omega arith }) may in
    not_json makes.share.actions makes.share.means

-- ---- what is written over

over_at : (place : Place) (bytes : List ℕ) (stamp horizon : ℤ) → IsPlace place → Permits example (Over (place_path place) bytes stamp) horizon → MayOver place
over_at place bytes stamp horizon is may = subst MayOver (place_of_path place is) may

pub over_checkpoint : IsForbidden example (Over (place_path (V2 1 7 true)) whole_text (pos 2))
over_checkpoint horizon may = over_at (V2 1 7 true) whole_text (pos 2) horizon whole_is may

pub over_classic : IsForbidden example (Over (place_path (Classic 1)) whole_text (pos 2))
over_classic horizon may = over_at (Classic 1) whole_text (pos 2) horizon (omega arith) may

pub over_part : IsForbidden example (Over (place_path (Part 1 1 2)) whole_text (pos 2))
over_part horizon may = over_at (Part 1 1 2) whole_text (pos 2) horizon ((omega arith), record { first = omega arith; last = omega arith; small = omega arith }) may

pub over_compacted : IsForbidden example (Over (place_path (Compacted 0 1)) whole_text (pos 2))
over_compacted horizon may = over_at (Compacted 0 1) whole_text (pos 2) horizon ((omega arith), (omega arith)) may

pub over_sidecar : IsForbidden example (Over (place_path (Sidecar side_name)) whole_text (pos 2))
over_sidecar horizon may = over_at (Sidecar side_name) whole_text (pos 2) horizon side_is may

pub over_staged : IsForbidden example (Over (place_path (Staged 2 7)) whole_text (pos 2))
over_staged horizon may = over_at (Staged 2 7) whole_text (pos 2) horizon (record { version_small = omega arith; id_small = omega arith }) may

-- ---- what is deleted

gone_at : (events : List Told) (place : Place) (horizon : ℤ) → IsPlace place → Permits events (Deleted (place_path place)) horizon → MayDelete events place
gone_at events place horizon is may = subst (MayDelete events) (place_of_path place is) may

-- no checkpoint is above the last commit
none_above : (version : ℕ) → 1 ≤ version → HasAbove (checkpointing example) version → ⊥
none_above version most (checkpoint, above, complete) =
    let lawful = checkpointing_is_lawful (pos 0) in
    let (last, high, at) = complete_is_published (checkpointing example) (pos 0) lawful checkpoint complete in
    let below = none_beyond_last (checkpointing example) (pos 0) lawful last (inl at) in
    let two : next_version (checkpointing example) ≡ 2 = sym (length_commits (history (checkpointing example))) ∙ ap length whole_commits in
    omega arith

pub commit_of_checkpoint : IsForbidden (checkpointing example) (Deleted (commit_path 1))
commit_of_checkpoint horizon may = none_above 1 (omega arith) (gone_at (checkpointing example) (Commit_at 1) horizon (omega arith) may).0

pub newest_checkpoint : IsForbidden (checkpointing example) (Deleted (place_path (V2 1 7 true)))
newest_checkpoint horizon may = none_above 1 (omega arith) (gone_at (checkpointing example) (V2 1 7 true) horizon whole_is may)

pub newest_classic : IsForbidden (checkpointing example) (Deleted (place_path (Classic 1)))
newest_classic horizon may = none_above 1 (omega arith) (gone_at (checkpointing example) (Classic 1) horizon (omega arith) may)

pub newest_part : IsForbidden (checkpointing example) (Deleted (place_path (Part 1 1 2)))
newest_part horizon may =
    none_above 1 (omega arith) (gone_at (checkpointing example) (Part 1 1 2) horizon ((omega arith), record { first = omega arith; last = omega arith; small = omega arith }) may)

pub compacted_above : IsForbidden (checkpointing example) (Deleted (place_path (Compacted 2 3)))
compacted_above horizon may =
    let (checkpoint, least, complete) = gone_at (checkpointing example) (Compacted 2 3) horizon ((omega arith), (omega arith)) may in
    none_above 1 (omega arith) (checkpoint, (omega arith), complete)

pub named_sidecar : IsForbidden naming (Deleted (place_path (Sidecar side_name)))
named_sidecar horizon may =
    gone_at naming (Sidecar side_name) horizon side_is may (V2 1 7 true) (
      1,
      refl,
      (
        naming_text,
        made_here (Made (place_path (Sidecar side_name)) (codes "s") (pos 3) ∷ example) (place_path (V2 1 7 true)) naming_text (pos 4) (V2 1 7 true) (place_of_path (V2 1 7 true) whole_is),
        (record { actions = naming_actions; sidecars = side_name ∷ [] }, (record { means = naming_means; named = names_side }, refl), inl refl),
      ),
    )

-- ---- a table that a catalogue manages

staged_is : IsPlace (Staged 1 7)
staged_is = record { version_small = omega arith; id_small = omega arith }

none_published : AtMostPublished ratifying 1 → ⊥
none_published (last, most, (held, holds)) = elim (found_made (Made (commit_path 0) managed_text (pos 0) ∷ []) (place_path (Staged 1 7)) second_text (pos 1) (Commit_at last) held (was_ratified staging 1 staged_name_1 (Commit_at last) held holds)) [
  | inl (at, same) ↦ let no : Staged 1 7 ≡ Commit_at last = sym (place_of_path (Staged 1 7) staged_is) ∙ at in cc
  | inr before ↦ elim (found_made [] (commit_path 0) managed_text (pos 0) (Commit_at last) held before) [
    | inl (at, same) ↦ let is : Commit_at 0 ≡ Commit_at last = sym (commit_place 0 (omega arith)) ∙ at in let zero_is : 0 ≡ last = cc in omega arith
    | inr none ↦ let no : ◌≡◌ {A = Option (List ℕ)} None (Some held) = none.has_bytes in cc
  ]
]

pub staged_of_ratified : IsForbidden ratifying (Deleted (place_path (Staged 1 7)))
staged_of_ratified horizon may = elim (gone_at ratifying (Staged 1 7) horizon staged_is may) [
  | inl unratified ↦ unratified 1 refl
  | inr published ↦ none_published published
]

pub ratified_commit : IsForbidden ratifying (Deleted (commit_path 1))
ratified_commit horizon may =
    let stands = (gone_at ratifying (Commit_at 1) horizon (omega arith) may).1 in
    let no : ◌≡◌ {A = Option (List ℕ)} (Some staged_name_1) None = stands in cc

pub unstaged : IsForbidden (Made (commit_path 0) managed_text (pos 0) ∷ []) (Ratified 1 staged_name_1)
unstaged horizon may = elim (found_made [] (commit_path 0) managed_text (pos 0) (Staged 1 may.id) may.bytes may.staged) [
  | inl (at, same) ↦ let no : Commit_at 0 ≡ Staged 1 may.id = sym (commit_place 0 (omega arith)) ∙ at in cc
  | inr none ↦ let no : ◌≡◌ {A = Option (List ℕ)} None (Some may.bytes) = none.has_bytes in cc
]

pub ratified_beyond : IsForbidden staging (Ratified 2 (staged_name 2 7))
ratified_beyond horizon may = let next = may.next in let one : next_version staging ≡ 1 = ap length staged in omega arith

pub other_bytes : IsForbidden ratifying (Made (commit_path 1) first_text (pos 2))
other_bytes horizon may = elim (subst (λ place. MayMake ratifying place first_text horizon) (commit_place 1 (omega arith)) may.1) [
  | inl adds ↦ let next = adds.2.next in let two : next_version ratifying ≡ 2 = ap length ratified in omega arith
  | inr fills ↦ differ (staged_of fills)
]
  where
    staged_of : Backfills ratifying 1 first_text → first_text ≡ second_text
    staged_of fills =
        let name : fills.name ≡ staged_name_1 = (let both : Some fills.name ≡ Some staged_name_1 = sym fills.stands in cc) in
        let both : Some first_text ≡ Some second_text = sym fills.staged ∙ ap (staged_bytes ratifying) name ∙ held_at ratifying (Staged 1 7) second_text (held_ratified staging 1 staged_name_1 (Staged 1 7) second_text
        (made_here (Made (commit_path 0) managed_text (pos 0) ∷ []) (place_path (Staged 1 7)) second_text (pos 1) (Staged 1 7) (place_of_path (Staged 1 7) staged_is))) in
        cc

    lengths_differ : Some first_actions ≡ Some second_actions → ⊥
    lengths_differ same = let lengths : length first_actions ≡ length second_actions = ap (λ found. length (unwrap_or found [])) same in omega arith

    differ : first_text ≡ second_text → ⊥
    differ same = lengths_differ (sym first_means ∙ ap commit_of same ∙ second_means)
