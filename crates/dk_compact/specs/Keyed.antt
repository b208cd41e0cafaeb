-- Actions under texts, in the byte order of these.
use Rattle.std.specs.Prelude.{ℕ, List, [], ◌∷◌, map}
use Rattle.std.specs.Ordering.{nat_cmp}
use Rattle.std.specs.Cmp.Lexicographic.{slice_cmp}
use Rattle.std.specs.Borrow.{Bor}
use Rattle.std.specs.FinMap.{put}
use Rattle.dk_model.specs.declared.action.Action.{Action}

-- each action with its key
abbrev pub Keyed : Type 0
Keyed = List (List ℕ × Action)

-- the action at its place; under a key that is there it stands in place of the one before
abbrev pub put_text : Keyed → List ℕ → Action → Keyed
put_text es key a = put (slice_cmp nat_cmp) key a es

-- in the order of the keys; of several under one key the first
abbrev pub in_order : Keyed → Keyed
in_order [] = []
in_order (e ∷ es) = put_text (in_order es) e.0 e.1

abbrev pub actions_in : Keyed → List Action
actions_in es = map (λ e. e.1) es

-- what stands behind references
abbrev pub lent : List (Bor (List ℕ) × Bor Action) → Keyed
lent [] = []
lent (e ∷ es) = (e.0.now, e.1.now) ∷ lent es
