-- The part of the file's schema that is read, node by node.
use Rattle.std.proofs.Common.{◌≡◌, ℕ, ◌+◌, ◌<◌, ◌≤◌, Option, Some, None, List, [], ◌∷◌, ◌++◌, length, get_or, drop, string_bytes, refl, sym, ap, ◌∙◌}
use Rattle.std.proofs.lemmas.List.{drop_all}
use Rattle.dk_pqmodel.specs.Projection.{projected_field, projected_fields, field_then, first_leaf, first_leaf_of, Path}
use Rattle.dk_pqmodel.specs.Shape.{Field, Fields, no_fields}
use Rattle.dk_pqmodel.specs.NodeView.{field_of, fields_of, shape_of}
use Rattle.dk_pqmodel.specs.declared.node.Node.{Node}
use Rattle.dk_pqmodel.proofs.NodeViews.{field_of-is, fields_of-drop}
use Rattle.dk_pqread.specs.Lays.{AddsField, fields_then}
use Rattle.dk_pqread.specs.PlanView.{plan_of, plans_of}
use Rattle.dk_pqread.specs.declared.plan.Plan as code
use Rattle.dk_pqread.proofs.Going.{plans_of-drop, fields_then_push, fields_then_nothing}

pub one_added : (done now : List Node) (node : Node) → now ≡ done ++ node ∷ [] → AddsField (fields_of done) (Some (field_of node)) (fields_of now)
one_added done now node pushed = record { added = λ more. ap (λ x. fields_then (fields_of x) more) pushed ∙ fields_then_push done node more }

pub none_added : (fs : Fields) → AddsField fs None fs
none_added fs = record { added = λ more. refl }

pub cut_more : (plans : List code.Plan) (i : ℕ) (plan : code.Plan) (done now : Fields) (o : Option Field) (all : Fields) → i < length plans → plan ≡ get_or plans i plan
    → o ≡ projected_field (plan_of plan) → AddsField done o now → fields_then done (projected_fields (plans_of (drop i plans))) ≡ all → fields_then now (projected_fields (plans_of (drop (i + 1) plans))) ≡ all
cut_more plans i plan done now o all h is e adds left =
    let rest = projected_fields (plans_of (drop (i + 1) plans)) in
    adds.added rest ∙ ap (λ x. fields_then done (field_then x rest)) e ∙ sym (ap (λ ps. fields_then done (projected_fields ps)) (plans_of-drop plans i plan h is)) ∙ left

pub all_cut : (plans : List code.Plan) (i : ℕ) (done all : Fields) → length plans ≤ i → fields_then done (projected_fields (plans_of (drop i plans))) ≡ all → done ≡ all
all_cut plans i done all h left =
    let e : fields_then done no_fields ≡ all = rw (drop_all i plans h) at left in
    sym (fields_then_nothing done) ∙ e

-- the first leaf is in the first field
pub first_named : (nodes : List Node) (node : Node) (path : Path) → 0 < length nodes → node ≡ get_or nodes 0 node
    → first_leaf_of (fields_of nodes) path ≡ first_leaf (shape_of node.kind) (path ++ string_bytes node.name ∷ [])
first_named nodes node path h is = ap (λ fs. first_leaf_of fs path) (fields_of-drop nodes 0 node h is) ∙ rw (field_of-is node) refl
