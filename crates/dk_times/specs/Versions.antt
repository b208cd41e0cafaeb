-- The versions whose times are told: those that a listing of the log shows, back to the first gap (Delta Lake's PROTOCOL.md, "Delta Log
-- Entries", "Catalog-managed tables").
use Rattle.std.specs.Prelude.{ℕ, zero, suc, ◌==◌, Bool, Option, Some, None, List, [], ◌∷◌, ◌++◌, map, if◌then◌else◌}
use Rattle.std.specs.List.{list_any, filter_map}
use Rattle.dk_paths.specs.Places.{Place, Commit_at}
use Rattle.dk_lawful.specs.Segments.{greatest}

abbrev pub commit_version : Place → Option ℕ
commit_version (Commit_at version) = Some version
commit_version _ = None

-- those of a commit that is listed in the log, and those that stand ratified
abbrev pub versions_shown : List Place → List (ℕ × List ℕ) → List ℕ
versions_shown places ratified = filter_map commit_version places ++ map (λ r. r.0) ratified

abbrev pub is_shown : List ℕ → ℕ → Bool
is_shown shown version = list_any (λ v. v == version) shown

-- from the first gap on up to a version, oldest first
unfoldable pub run_up_to : (ℕ → Bool) → ℕ → List ℕ
run_up_to has zero = zero ∷ []
run_up_to has (suc version) = if has version then run_up_to has version ++ suc version ∷ [] else suc version ∷ []

abbrev pub run_to_newest : List ℕ → Option ℕ → List ℕ
run_to_newest shown None = []
run_to_newest shown (Some newest) = run_up_to (is_shown shown) newest

-- the last unbroken run
abbrev pub listed_versions : List Place → List (ℕ × List ℕ) → List ℕ
listed_versions places ratified = run_to_newest (versions_shown places ratified) (greatest (versions_shown places ratified))
