-- Laying a wanted schema over a file's own, step by step.
use Rattle.std.proofs.Common.{◌≡◌, ℕ, ◌+◌, ◌<◌, ◌≤◌, List, [], ◌∷◌, ◌++◌, length, get_or, drop, Option, None, refl, sym, ap, ◌∙◌}
use Rattle.std.proofs.lemmas.List.{drop_all}
use Rattle.dk_pqmodel.specs.Shape.{Fields, no_fields}
use Rattle.dk_pqmodel.specs.FileSchema.{FileNodes}
use Rattle.dk_pqmodel.specs.Projection.{Path, Plans, projection_each, projection_named, misfit_each, misfit_named}
use Rattle.dk_pqmodel.specs.NodeView.{field_of, fields_of}
use Rattle.dk_pqmodel.specs.declared.node.Node.{Node}
use Rattle.dk_pqmodel.proofs.NodeViews.{fields_of-drop}
use Rattle.dk_pqread.specs.PlanView.{plan_of, plans_of}
use Rattle.dk_pqread.specs.Lays.{IsMisfit, plans_then}
use Rattle.dk_pqread.specs.declared.plan.Plan as code
use Rattle.dk_pqread.specs.declared.fault.LayFault.{LayFault}
use Rattle.dk_pqread.specs.declared.fault.LayFault.TheVariants.{Shape, OutOfMemory}
use Rattle.dk_pqread.proofs.Going.{plans_then_push, plans_then_nothing}

-- nothing differed so far, and the plans done and those left are all
pub record LeftToLay (fs : Fields) (path written : Path) (ns : FileNodes) (done : Plans) (misfit : Option Path) (all : Plans) : Type 0 where
  pub differs : misfit_each fs written ns ≡ misfit
  pub projection : plans_then done (projection_each fs path ns) ≡ all

module _ (nodes : List Node) (i : ℕ) (node : Node) (path written : Path) (ns : FileNodes) (done : List code.Plan) (misfit : Option Path) (all : Plans)
    (h : i < length nodes) (is : node ≡ get_or nodes i node) (left : LeftToLay (fields_of (drop i nodes)) path written ns (plans_of done) misfit all) where
  pub lay_more : (p : code.Plan) (now : List code.Plan) → misfit_named (field_of node) written ns ≡ None → projection_named (field_of node) path ns ≡ plan_of p → now ≡ done ++ p ∷ []
      → LeftToLay (fields_of (drop (i + 1) nodes)) path written ns (plans_of now) misfit all
  lay_more p now fits lays pushed =
      let opened = fields_of-drop nodes i node h is in
      record {
        differs = sym (ap (λ fs. misfit_each fs written ns) opened ∙ rw fits refl) ∙ left.differs;
        projection =
            ap (λ x. plans_then (plans_of x) (projection_each (fields_of (drop (i + 1) nodes)) path ns)) pushed
            ∙ plans_then_push done p (projection_each (fields_of (drop (i + 1) nodes)) path ns)
            ∙ sym (ap (λ fs. plans_then (plans_of done) (projection_each fs path ns)) opened ∙ rw lays refl) ∙ left.projection;
      }

  pub lay_refused : (fault : LayFault) → IsMisfit fault (misfit_named (field_of node) written ns) → IsMisfit fault misfit
  lay_refused (Shape names) differs =
      let opened = fields_of-drop nodes i node h is in
      sym left.differs ∙ ap (λ fs. misfit_each fs written ns) opened ∙ rw differs refl
  lay_refused OutOfMemory differs = tt

pub all_laid : (nodes : List Node) (i : ℕ) (path written : Path) (ns : FileNodes) (done : List code.Plan) (misfit : Option Path) (all : Plans)
    → length nodes ≤ i → LeftToLay (fields_of (drop i nodes)) path written ns (plans_of done) misfit all → (misfit ≡ None) × (all ≡ plans_of done)
all_laid nodes i path written ns done misfit all h left =
    let none = drop_all i nodes h in
    let differs : None ≡ misfit = rw none at left.differs in
    let projection : plans_then (plans_of done) (projection_each no_fields path ns) ≡ all = rw none at left.projection in
    (sym differs, sym projection ∙ plans_then_nothing (plans_of done))
