-- Loops over plans and nodes: what is done, and then what is left, is the whole.
use Rattle.std.proofs.Common.{◌≡◌, ℕ, zero, suc, ◌+◌, ◌<◌, List, [], ◌∷◌, ◌++◌, length, get_or, drop, Option, Some, None, refl, sym, ap, add-one, arith}
use Rattle.std.specs.Option.{option_map}
use Rattle.dk_pqmodel.specs.Projection.{Plans, no_plans, one_plan}
use Rattle.dk_pqmodel.specs.Datum.{Cells, no_cells, one_cell, appended}
use Rattle.dk_pqmodel.specs.Shape.{Fields, no_fields, one_field}
use Rattle.dk_pqmodel.specs.NodeView.{field_of, fields_of}
use Rattle.dk_pqmodel.specs.RowView.{datum_of, cells_of}
use Rattle.dk_pqmodel.specs.declared.node.Node.{Node}
use Rattle.dk_pqmodel.specs.declared.row.Cell.{Cell}
use Rattle.dk_pqread.specs.PlanView.{plan_of, plans_of}
use Rattle.dk_pqread.specs.Lays.{plans_then, fields_then}
use Rattle.dk_pqread.specs.Cells.{cells_then}
use Rattle.dk_pqread.specs.declared.plan.Plan as code

plans_of-drop_suc : (ps : List code.Plan) (i : ℕ) (p : code.Plan) → i < length ps → p ≡ get_or ps i p → plans_of (drop i ps) ≡ one_plan (plan_of p) (plans_of (drop (suc i) ps))
plans_of-drop_suc [] i p h e = absurd (omega arith)
plans_of-drop_suc (m ∷ ps) zero p h e = ap (λ x. one_plan (plan_of x) (plans_of ps)) (sym e)
plans_of-drop_suc (m ∷ ps) (suc i) p h e = plans_of-drop_suc ps i p (omega arith) e

pub plans_of-drop : (ps : List code.Plan) (i : ℕ) (p : code.Plan) → i < length ps → p ≡ get_or ps i p → plans_of (drop i ps) ≡ one_plan (plan_of p) (plans_of (drop (i + 1) ps))
plans_of-drop ps i p h e = rw add-one (plans_of-drop_suc ps i p h e)

pub plans_then_push : (ps : List code.Plan) (p : code.Plan) (more : Plans) → plans_then (plans_of (ps ++ p ∷ [])) more ≡ plans_then (plans_of ps) (one_plan (plan_of p) more)
plans_then_push [] p more = refl
plans_then_push (x ∷ ps) p more = ap (one_plan (plan_of x)) (plans_then_push ps p more)

pub plans_then_nothing : (ps : Plans) → plans_then ps no_plans ≡ ps
plans_then_nothing no_plans = refl
plans_then_nothing (one_plan p ps) = ap (one_plan p) (plans_then_nothing ps)

-- ---- fields

pub fields_then_push : (ns : List Node) (n : Node) (more : Fields) → fields_then (fields_of (ns ++ n ∷ [])) more ≡ fields_then (fields_of ns) (one_field (field_of n) more)
fields_then_push [] n more = refl
fields_then_push (x ∷ ns) n more = ap (one_field (field_of x)) (fields_then_push ns n more)

pub fields_then_nothing : (fs : Fields) → fields_then fs no_fields ≡ fs
fields_then_nothing no_fields = refl
fields_then_nothing (one_field f fs) = ap (one_field f) (fields_then_nothing fs)

-- ---- cells

pub appended_push : (cs : List Cell) (c : Cell) (more : Cells) → appended (cells_of (cs ++ c ∷ [])) more ≡ appended (cells_of cs) (one_cell (datum_of c) more)
appended_push [] c more = refl
appended_push (x ∷ cs) c more = ap (one_cell (datum_of x)) (appended_push cs c more)

pub appended_nothing : (cs : Cells) → appended cs no_cells ≡ cs
appended_nothing no_cells = refl
appended_nothing (one_cell c cs) = ap (one_cell c) (appended_nothing cs)

pub cells_then_push : (cs : List Cell) (c : Cell) (more : Option Cells) → cells_then (cells_of (cs ++ c ∷ [])) more ≡ cells_then (cells_of cs) (option_map (one_cell (datum_of c)) more)
cells_then_push cs c None = refl
cells_then_push cs c (Some more) = ap Some (appended_push cs c more)
