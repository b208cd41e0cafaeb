-- Tombstones on both sides of a cut.
use Rattle.std.specs.Prelude.{◌≡◌, ℕ, pos, false, List, [], ◌∷◌, codes}
use Rattle.dk_model.specs.declared.action.Action.{Action}
use Rattle.dk_model.specs.declared.action.Action.TheVariants as action
use Rattle.dk_model.specs.declared.state.TableState.{TableState}
use Rattle.dk_model.specs.State.{steps, empty_state}
use Rattle.dk_lawful.specs.Contents.{sidecar_content}

abbrev pub removed : List ℕ → ℕ → Action
removed path time = action.Remove (record { path = path; deletion_timestamp = pos time; data_change = false })

-- two files were removed, at 5 and at 9
abbrev pub removed_twice : TableState
removed_twice = steps empty_state (removed (codes "a") 5 ∷ removed (codes "b") 9 ∷ [])

-- At a cut of 7 the later one alone is written, at 4 both are, at 9 neither.
pub record CutTells : Type 0 where
  pub later_alone : sidecar_content removed_twice (pos 7) 1 1 ≡ removed (codes "b") 9 ∷ []
  pub all : sidecar_content removed_twice (pos 4) 1 1 ≡ removed (codes "a") 5 ∷ removed (codes "b") 9 ∷ []
  pub none : sidecar_content removed_twice (pos 9) 1 1 ≡ []
