-- Lists of versions.
use Rattle.std.specs.Prelude.{ℕ, ◌==◌, max, Bool, List, [], ◌∷◌, Option, Some, None}
use Rattle.std.specs.List.{list_any}

-- whether a version is among these
abbrev pub have_version : List ℕ → ℕ → Bool
have_version versions version = list_any (λ v. v == version) versions

abbrev pub greater_so_far : Option ℕ → ℕ → Option ℕ
greater_so_far None version = Some version
greater_so_far (Some best) version = Some (max best version)

-- the greatest of these versions and one before them
abbrev pub greatest_from : Option ℕ → List ℕ → Option ℕ
greatest_from best [] = best
greatest_from best (version ∷ versions) = greatest_from (greater_so_far best version) versions

abbrev pub greatest_version : List ℕ → Option ℕ
greatest_version versions = greatest_from None versions
