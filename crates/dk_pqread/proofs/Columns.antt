-- The columns of plans, one plan after another.
use Rattle.std.proofs.Common.{◌≡◌, ℕ, ◌+◌, ◌<◌, ◌≤◌, max, List, [], ◌++◌, length, get_or, drop, sym, ap, ◌∙◌, arith}
use Rattle.std.proofs.lemmas.List.{append_assoc, append-nil, drop_all}
use Rattle.dk_pqmodel.specs.Projection.{Plans}
use Rattle.dk_pqmodel.specs.FilePages.{ColumnAt}
use Rattle.dk_pqmodel.specs.FileMeans.{columns_in, columns_of}
use Rattle.dk_pqread.specs.Depth.{depth_in, depth_of}
use Rattle.dk_pqread.specs.PlanView.{plan_of, plans_of}
use Rattle.dk_pqread.specs.declared.plan.Plan as code
use Rattle.dk_pqread.proofs.Going.{plans_of-drop}

-- the columns done and those of the plans left are all, and the levels of those left have room
pub record LeftToAdd (ps : Plans) (rep def : ℕ) (done all : List ColumnAt) : Type 0 where
  pub adds : done ++ columns_of ps rep def ≡ all
  pub deep : def + depth_of ps < 256

module _ (plans : List code.Plan) (i : ℕ) (plan : code.Plan) (rep def : ℕ) (done all : List ColumnAt) (h : i < length plans) (is : plan ≡ get_or plans i plan)
    (left : LeftToAdd (plans_of (drop i plans)) rep def done all) where
  pub deep_here : def + depth_in (plan_of plan) < 256
  deep_here =
      let deep : def + max (depth_in (plan_of plan)) (depth_of (plans_of (drop (i + 1) plans))) < 256 = rw (plans_of-drop plans i plan h is) at left.deep in
      omega arith

  pub add_more : (now : List ColumnAt) → now ≡ done ++ columns_in (plan_of plan) rep def → LeftToAdd (plans_of (drop (i + 1) plans)) rep def now all
  add_more now added =
      let opened = plans_of-drop plans i plan h is in
      let deep : def + max (depth_in (plan_of plan)) (depth_of (plans_of (drop (i + 1) plans))) < 256 = rw opened at left.deep in
      record {
        adds =
            ap (λ x. x ++ columns_of (plans_of (drop (i + 1) plans)) rep def) added
            ∙ append_assoc done (columns_in (plan_of plan) rep def) (columns_of (plans_of (drop (i + 1) plans)) rep def)
            ∙ sym (ap (λ ps. done ++ columns_of ps rep def) opened) ∙ left.adds;
        deep = omega arith;
      }

pub all_added : (plans : List code.Plan) (i rep def : ℕ) (done all : List ColumnAt) → length plans ≤ i → LeftToAdd (plans_of (drop i plans)) rep def done all → done ≡ all
all_added plans i rep def done all h left =
    let e : done ++ [] ≡ all = rw (drop_all i plans h) at left.adds in
    sym (append-nil done) ∙ e
