use Rattle.std.proofs.Common.{◌≡◌, drop}
use Rattle.std.specs.Prelude.{ℕ, List, Option, find, is_none, option_map}
use Rattle.std.specs.Str.{bytes_eq}
use Rattle.dk_rules.proofs.rules.lacks.Given as goal

abbrev pub invariant-entries : goal.invariant-entries
invariant-entries l =
    is_none (option_map (λ (pair : List ℕ × Option (List ℕ)). pair.1) (find (λ (pair : List ℕ × Option (List ℕ)). bytes_eq pair.0 l.key) (drop l.pair-index l.pair-items)))
    ≡ is_none (option_map (λ (pair : List ℕ × Option (List ℕ)). pair.1) (find (λ (pair : List ℕ × Option (List ℕ)). bytes_eq pair.0 l.key) l.pair-items))
