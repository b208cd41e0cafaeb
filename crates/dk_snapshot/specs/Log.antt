-- What the objects of a log mean as commits, and how commits are joined.
use Rattle.std.specs.Prelude.{ℕ, ◌++◌, List, [], ◌∷◌, Option, Some, None, Result, Ok, Err}
use Rattle.dk_model.specs.declared.action.Action.{Action}
use Rattle.dk_model.specs.CommitText.{reading_of}
use Rattle.dk_engine.specs.declared.refusal.Refusal.{Refusal}
use Rattle.dk_engine.specs.declared.refusal.Refusal.TheVariants.{Missing, Damaged}

-- what the bytes of a commit mean, by their reading
abbrev pub meant : List ℕ → Result (List Action) ℕ → Result (List Action) Refusal
meant path (Ok commit) = Ok commit
meant path (Err line) = Err (Damaged path line)

-- what an object means as a commit
abbrev pub commit_of_object : List ℕ → Option (List ℕ) → Result (List Action) Refusal
commit_of_object path None = Err (Missing path)
commit_of_object path (Some bytes) = meant path (reading_of bytes)

-- older commits, and these behind them
abbrev pub behind_older : Result (List (List Action)) Refusal → List (List Action) → Result (List (List Action)) Refusal
behind_older (Ok older) newer = Ok (older ++ newer)
behind_older (Err refusal) newer = Err refusal

-- one commit behind the older ones; its own refusal comes first
abbrev pub newest_behind : Result (List Action) Refusal → Result (List (List Action)) Refusal → Result (List (List Action)) Refusal
newest_behind (Ok commit) older = behind_older older (commit ∷ [])
newest_behind (Err refusal) older = Err refusal
