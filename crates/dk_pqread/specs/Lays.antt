-- What laying a wanted schema over a file's own answers.
use Rattle.std.specs.Prelude.{◌≡◌, Option, Some, None, Result, Ok, Err, ⊤}
use Rattle.dk_pqmodel.specs.Projection.{Path, Plans, no_plans, one_plan, field_then}
use Rattle.dk_pqmodel.specs.Shape.{Field, Fields, no_fields, one_field}
use Rattle.dk_pqread.specs.PlanView.{path_of}
use Rattle.dk_pqread.specs.declared.fault.LayFault.{LayFault}
use Rattle.dk_pqread.specs.declared.fault.LayFault.TheVariants.{Shape, OutOfMemory}

-- the refusal names the first wanted leaf that differs
abbrev pub IsMisfit : LayFault → Option Path → Type 0
IsMisfit (Shape names) misfit = misfit ≡ Some (path_of names.items)
IsMisfit OutOfMemory misfit = ⊤

-- what is laid, where nothing differs
abbrev pub Lays : {X Y : Type 0} → (X → Y) → Result X LayFault → Option Path → Y → Type 0
Lays view (Ok x) misfit plan = (misfit ≡ None) × (plan ≡ view x)
Lays view (Err fault) misfit plan = IsMisfit fault misfit

-- plans, and those behind them
abbrev pub plans_then : Plans → Plans → Plans
plans_then no_plans more = more
plans_then (one_plan p ps) more = one_plan p (plans_then ps more)

-- fields, and those behind them
abbrev pub fields_then : Fields → Fields → Fields
fields_then no_fields more = more
fields_then (one_field f fs) more = one_field f (fields_then fs more)

-- the fields with this one behind them, if there is one
pub record AddsField (before : Fields) (field : Option Field) (after : Fields) : Type 0 where
  pub added : (more : Fields) → fields_then after more ≡ fields_then before (field_then field more)
