-- Checkpoints in Parquet that lack one condition.
use Rattle.std.proofs.Common.{◌≡◌, ℕ, pos, List, [], ◌∷◌, Option, Some, None, sym, ap, subst, ◌∙◌, arith}
use Rattle.dk_model.specs.declared.action.Action.{Action}
use Rattle.dk_model.specs.declared.action.Protocol.{Protocol}
use Rattle.dk_model.specs.State.{steps, empty_state}
use Rattle.dk_store.specs.Told.{Made}
use Rattle.dk_paths.specs.Places.{Place, Part, place_path, IsPlace}
use Rattle.dk_paths.proofs.PlaceLaws.{place_of_path}
use Rattle.dk_lawful.specs.Example.{IsForbidden, first_actions, example}
use Rattle.dk_lawful.specs.Checkpoints.{sidecars_of}
use Rattle.dk_lawful.specs.MoreExamples.{side_name}
use Rattle.dk_lawful.specs.Permits.{MayMake, MakesPart}
use Rattle.dk_lawful.proofs.MoreExamples.{at_place, unpublished}
use Rattle.dk_lawful.proofs.OneMeaning.{actions_in_parquet}
use Rattle.dk_pqread.proofs.OneList.{one_list}
use Rattle.dk_ckread.specs.ParquetFiles.{head_file, side_file}
use Rattle.dk_ckread.specs.ParquetExample.{first_part, side_alone}
use Rattle.dk_ckread.proofs.ParquetExample.{head_has, side_has, names_alone}

second_place : IsPlace (Part 1 2 2)
second_place = ((omega arith), record { first = omega arith; last = omega arith; small = omega arith })

beyond_place : IsPlace (Part 2 1 2)
beyond_place = ((omega arith), record { first = omega arith; last = omega arith; small = omega arith })

none_is_some : (p : Protocol) → ◌≡◌ {A = Option Protocol} (Some p) None → ⊥
none_is_some p is = cc

-- a second part that has what the first has
pub other_share : IsForbidden (first_part example) (Made (place_path (Part 1 2 2)) head_file (pos 3))
other_share horizon may =
    let makes : MakesPart (first_part example) 1 2 2 head_file horizon = subst (λ (place : Place). MayMake (first_part example) place head_file horizon) (place_of_path (Part 1 2 2) second_place) may.1 in
    let same : makes.share.actions ≡ first_actions = actions_in_parquet one_list head_file makes.share.actions first_actions makes.share.means head_has in
    none_is_some _ (ap (λ (actions : List Action). (steps empty_state actions).protocol) (sym same) ∙ makes.share.share.protocol empty_state)

-- a part of a version that isn't published
pub part_beyond : IsForbidden example (Made (place_path (Part 2 1 2)) head_file (pos 3))
part_beyond horizon may =
    let makes : MakesPart example 2 1 2 head_file horizon = at_place (Part 2 1 2) head_file (pos 3) horizon beyond_place may in
    unpublished 2 (omega arith) makes.published

-- a part that would be whole, but that it names a sidecar
naming_place : IsPlace (Part 0 2 2)
naming_place = ((omega arith), record { first = omega arith; last = omega arith; small = omega arith })

pub part_names_sidecar : IsForbidden example (Made (place_path (Part 0 2 2)) side_file (pos 2))
part_names_sidecar horizon may =
    let makes : MakesPart example 0 2 2 side_file horizon = at_place (Part 0 2 2) side_file (pos 2) horizon naming_place may in
    let same : makes.share.actions ≡ side_alone ∷ [] = actions_in_parquet one_list side_file makes.share.actions (side_alone ∷ []) makes.share.means side_has in
    let both : Some (side_name ∷ []) ≡ Some [] = sym names_alone ∙ ap sidecars_of (sym same) ∙ makes.share.alone in
    some_is_none side_name [] (let names : side_name ∷ [] ≡ [] = cc in names)
  where
    some_is_none : (name : List ℕ) (names : List (List ℕ)) → name ∷ names ≡ [] → ⊥
    some_is_none name names is = cc
