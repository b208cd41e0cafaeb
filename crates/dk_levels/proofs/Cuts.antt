-- What is read of a file for a schema can be read.
use Rattle.std.proofs.Common.{◌≡◌, ℕ, ◌+◌, ◌*◌, ◌<◌, ◌≤◌, Bool, true, false, cond, ◌&&◌, [], ◌∷◌, ◌++◌, Option, Some, None, refl, arith}
use Rattle.std.specs.Option.{option_map}
use Rattle.dk_pqmodel.specs.Shape.{chars, Shape, leaf, map_of, Field, field, Fields, no_fields, one_field, width_of, deepest_in, deepest_of}
use Rattle.dk_pqmodel.specs.Shape as shape
use Rattle.dk_pqmodel.specs.Schema.{levels_at, levels_in, levels_of, IsSchema}
use Rattle.dk_pqmodel.specs.FileSchema.{FileNode, FileNodes, node_name, is_optional, named_in, leaf_kind, group_nodes, repeated_node, only_node, two_nodes}
use Rattle.dk_pqmodel.specs.Projection.{Path, Plan, missing, members, elements, entries, Plans, is_missing, all_missing, on_some, elements_of, projection_at, projection_in, projection_each, projection_named, projection, field_then, projected_field, projected_fields}
use Rattle.dk_levels.specs.Solid.{IsSolid, AreSolid, AreReadable}
use Rattle.dk_levels.proofs.Begins.{wide}
use Rattle.dk_levels.proofs.Readable.{optional_most}

-- the cut of a plan is there unless the plan is missing, and then it has a column and is so deep at most
abbrev Tight : Option Field → Bool → ℕ → Type 0
Tight None lacks n = lacks ≡ true
Tight (Some f) lacks n = (lacks ≡ false) × IsSolid f × (deepest_in f ≤ n)

abbrev TightPlan : Plan → ℕ → Type 0
TightPlan p n = Tight (projected_field p) (is_missing p) n

record TightPlans (ps : Plans) (n : ℕ) : Type 0 where
  pub solid : AreSolid (projected_fields ps)
  pub deep : deepest_of (projected_fields ps) ≤ n
  pub some : all_missing ps ≡ false → 0 < width_of (projected_fields ps)

tight_up : (o : Option Field) (lacks : Bool) (m n : ℕ) → m ≤ n → Tight o lacks m → Tight o lacks n
tight_up None lacks m n h t = t
tight_up (Some f) lacks m n h t = (t.0, t.1, omega (arith, t.2))

plan_up : (p : Plan) (m n : ℕ) → m ≤ n → TightPlan p m → TightPlan p n
plan_up p m n h t = tight_up (projected_field p) (is_missing p) m n h t

on_some_tight : {A : Type 0} (o : Option A) (f : A → Plan) (n : ℕ) → ((x : A) → TightPlan (f x) n) → TightPlan (on_some o f) n
on_some_tight None f n h = refl
on_some_tight (Some x) f n h = h x

then_solid : (o : Option Field) (lacks : Bool) (n : ℕ) (fs : Fields) → Tight o lacks n → AreSolid fs → AreSolid (field_then o fs)
then_solid None lacks n fs t h = h
then_solid (Some f) lacks n fs t h = (t.1, h)

then_deep : (o : Option Field) (lacks : Bool) (n : ℕ) (fs : Fields) → Tight o lacks n → deepest_of fs ≤ n → deepest_of (field_then o fs) ≤ n
then_deep None lacks n fs t h = h
then_deep (Some f) lacks n fs t h = omega (arith, t.2, h)

then_some : (o : Option Field) (lacks rest : Bool) (n : ℕ) (fs : Fields) → Tight o lacks n → (rest ≡ false → 0 < width_of fs) → (lacks && rest) ≡ false → 0 < width_of (field_then o fs)
then_some None true rest n fs t h e = h e
then_some None false rest n fs t h e = cc
then_some (Some f) lacks rest n fs t h e = omega (arith, wide f t.1)

members_tight : (all : Bool) (b : Bool) (ps : Plans) (n : ℕ) → all_missing ps ≡ all → TightPlans ps n → TightPlan (cond all missing (members b ps)) (1 + n)
members_tight true b ps n e t = refl
members_tight false b ps n e t = (refl, (t.some e, t.solid), omega (arith, t.deep, optional_most b))

list_tight : (o : Option Field) (lacks b : Bool) (n : ℕ) → lacks ≡ false → Tight o lacks n → Tight (option_map (λ f. field [] b (shape.list f)) o) false (2 + n)
list_tight None lacks b n e t = cc
list_tight (Some f) lacks b n e t = (refl, t.1, omega (arith, t.2, optional_most b))

elements_tight : (lacks b : Bool) (p : Plan) (n : ℕ) → is_missing p ≡ lacks → TightPlan p n → TightPlan (cond lacks missing (elements b p)) (2 + n)
elements_tight true b p n e t = refl
elements_tight false b p n e t = list_tight (projected_field p) (is_missing p) b n e t

entries_tight : (b k : Bool) (path : Path) (p : Plan) (n : ℕ) → 1 ≤ n → TightPlan p n → TightPlan (entries b k path p) (2 + n)
entries_tight b k path p n h t = (
  refl,
  (omega arith, (tt, then_solid (projected_field p) (is_missing p) n no_fields t tt)),
  omega (arith, optional_most b, optional_most k, h, then_deep (projected_field p) (is_missing p) n no_fields t (omega arith)),
)

-- two levels for each level of fields, but one for the field's own shape
abbrev bound : Field → ℕ
bound (field name nullable s) = 1 + 2 * levels_at s

bound_is : (f : Field) → 1 + bound f ≡ 2 * levels_in f
bound_is (field name nullable s) = omega arith

bound_some : (f : Field) → 1 ≤ bound f
bound_some (field name nullable s) = omega arith

mutual
  at_tight : (s : Shape) (path : Path) (n : FileNode) → TightPlan (projection_at s path n) (1 + 2 * levels_at s)
  at_tight (leaf l) path n = on_some_tight (leaf_kind l n) _ 1 (λ kind. (refl, tt, omega (arith, optional_most (is_optional n))))
  at_tight (shape.group fs) path n =
      on_some_tight (group_nodes n) _ (1 + 2 * levels_of fs) (λ ns. members_tight _ (is_optional n) (projection_each fs path ns) (2 * levels_of fs) refl (each_tight fs path ns))
  at_tight (shape.list f) path n =
      on_some_tight (repeated_node n) _ (1 + 2 * levels_in f) (λ r. on_some_tight (only_node r) _ (1 + 2 * levels_in f) (λ e.
      let p : Plan = projection_in f (path ++ node_name r ∷ node_name e ∷ []) e in
      plan_up (elements_of (is_optional n) p) (2 + bound f) (1 + 2 * levels_in f) (omega (arith, bound_is f))
      (elements_tight (is_missing p) (is_optional n) p (bound f) refl (in_tight f (path ++ node_name r ∷ node_name e ∷ []) e))))
  at_tight (map_of f) path n =
      on_some_tight (repeated_node n) _ (1 + 2 * levels_in f) (λ r. on_some_tight (two_nodes r) _ (1 + 2 * levels_in f) (λ pair. on_some_tight (leaf_kind chars pair.0) _ (1 + 2 * levels_in f) (λ l.
      let p : Plan = projection_in f (path ++ node_name r ∷ node_name pair.1 ∷ []) pair.1 in
      let key : Path = path ++ node_name r ∷ node_name pair.0 ∷ [] in
      plan_up (entries (is_optional n) (is_optional pair.0) key p) (2 + bound f) (1 + 2 * levels_in f) (omega (arith, bound_is f))
      (entries_tight (is_optional n) (is_optional pair.0) key p (bound f) (bound_some f) (in_tight f (path ++ node_name r ∷ node_name pair.1 ∷ []) pair.1)))))

  in_tight : (f : Field) (path : Path) (n : FileNode) → TightPlan (projection_in f path n) (bound f)
  in_tight (field name nullable s) path n = at_tight s path n

  each_tight : (fs : Fields) (path : Path) (ns : FileNodes) → TightPlans (projection_each fs path ns) (2 * levels_of fs)
  each_tight no_fields path ns = record { solid = tt; deep = omega arith; some = λ h. cc }
  each_tight (one_field f fs) path ns =
      let p : Plan = projection_named f path ns in
      let t = tight_up (projected_field p) (is_missing p) (bound f) (2 * levels_of (one_field f fs)) (omega (arith, bound_is f)) (named_tight f path ns) in
      let ts = each_tight fs path ns in
      record {
        solid = then_solid (projected_field p) (is_missing p) (2 * levels_of (one_field f fs)) (projected_fields (projection_each fs path ns)) t ts.solid;
        deep = then_deep (projected_field p) (is_missing p) (2 * levels_of (one_field f fs)) (projected_fields (projection_each fs path ns)) t (omega (arith, ts.deep));
        some = λ e. then_some (projected_field p) (is_missing p) (all_missing (projection_each fs path ns)) (2 * levels_of (one_field f fs)) (projected_fields (projection_each fs path ns)) t ts.some e;
      }

  named_tight : (f : Field) (path : Path) (ns : FileNodes) → TightPlan (projection_named f path ns) (bound f)
  named_tight (field name nullable s) path ns = on_some_tight (named_in name ns) _ _ (λ n. at_tight s (path ++ name ∷ []) n)

-- whatever is wanted, each field of the cut has a column
pub record IsSolidCut (fs : Fields) : Type 0 where
  pub wide : 0 < width_of fs
  pub solid : AreSolid fs

pub projected_is_solid : (fs : Fields) (ns : FileNodes) → all_missing (projection fs ns) ≡ false → IsSolidCut (projected_fields (projection fs ns))
projected_is_solid fs ns e = let t = each_tight fs [] ns in record { wide = t.some e; solid = t.solid }

pub projected_is_readable : (fs : Fields) (ns : FileNodes) → IsSchema fs → all_missing (projection fs ns) ≡ false → AreReadable (projected_fields (projection fs ns))
projected_is_readable fs ns h e =
    let t = each_tight fs [] ns in record { wide = t.some e; solid = t.solid; deep = omega (arith, t.deep, h.levels) }
