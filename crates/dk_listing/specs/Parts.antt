-- The parts of checkpoints as a set.
use Rattle.std.specs.Prelude.{ℕ, ◌≡◌, Bool, List}
use Rattle.std.specs.Ordering.{nat_cmp, ordering_then}
use Rattle.std.specs.declared.cmp.Ordering.{Ordering}
use Rattle.std.specs.BTreeSet.{BTreeSet, contains}
use Rattle.dk_listing.specs.declared.named.Named.{Named}
use Rattle.dk_listing.specs.Newest.{lists_part}

-- by version, then by the number of parts, then by its own number
abbrev pub part_cmp : ℕ × ℕ × ℕ → ℕ × ℕ × ℕ → Ordering
part_cmp x y = ordering_then (ordering_then (nat_cmp x.0 y.0) (nat_cmp x.1 y.1)) (nat_cmp x.2 y.2)

abbrev pub has_part : BTreeSet (ℕ × ℕ × ℕ) → ℕ → ℕ → ℕ → Bool
has_part set version parts part = contains part_cmp set (version, parts, part)

-- the set has the parts that are listed
abbrev pub HasParts : BTreeSet (ℕ × ℕ × ℕ) → List Named → Type 0
HasParts set log = (version parts part : ℕ) → has_part set version parts part ≡ lists_part log version parts part
