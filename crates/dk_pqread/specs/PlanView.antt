-- What is read of a file, as plain data.
use Rattle.std.specs.Prelude.{List, [], ◌∷◌, map, string_bytes, String}
use Rattle.std.specs.declared.alloc.Global.{Global}
use Rattle.dk_pqmodel.specs.Projection as plain
use Rattle.dk_pqmodel.specs.Projection.{Path, Plan, Plans, no_plans, one_plan}
use Rattle.dk_pqread.specs.LeafView.{leaf_of}
use Rattle.dk_pqread.specs.declared.plan.Plan as code
use Rattle.dk_pqread.specs.declared.plan.Plan.{fold-Plan}
use Rattle.dk_pqread.specs.declared.plan.Plan.TheOpen.{Plan-F}

-- the names of a path
abbrev pub path_of : List (String Global) → Path
path_of names = map string_bytes names

abbrev pub plans_of_list : List Plan → Plans
plans_of_list [] = no_plans
plans_of_list (p ∷ ps) = one_plan p (plans_of_list ps)

abbrev pub plan_step : Plan-F Plan → Plan
plan_step Plan-F.Missing = plain.missing
plan_step (Plan-F.Value optional kind path) = plain.value optional (leaf_of kind) (path_of path.items)
plan_step (Plan-F.Members optional plans) = plain.members optional (plans_of_list plans.items)
plan_step (Plan-F.Elements optional plan) = plain.elements optional plan.value
plan_step (Plan-F.Entries optional key_optional path value) = plain.entries optional key_optional (path_of path.items) value.value

abbrev pub plan_of : code.Plan → Plan
plan_of = fold-Plan Plan plan_step

abbrev pub plans_of : List code.Plan → Plans
plans_of ps = plans_of_list (map plan_of ps)
