-- How many optional and repeated nodes of the file are above what is read.
use Rattle.std.specs.Prelude.{ℕ, ◌+◌, max}
use Rattle.dk_pqmodel.specs.Projection.{Plan, missing, value, members, elements, entries, Plans, no_plans, one_plan}
use Rattle.dk_pqmodel.specs.FileMeans.{one_if}

abbrev mutual
  pub depth_in : Plan → ℕ
  depth_in missing = 0
  depth_in (value b kind path) = one_if b
  depth_in (members b ps) = one_if b + depth_of ps
  depth_in (elements b p) = one_if b + 1 + depth_in p
  depth_in (entries b k path p) = one_if b + 1 + max (one_if k) (depth_in p)

  pub depth_of : Plans → ℕ
  depth_of no_plans = 0
  depth_of (one_plan p ps) = max (depth_in p) (depth_of ps)
