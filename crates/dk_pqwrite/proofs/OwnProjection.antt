-- A schema fits over the one that is written for it, and each field is read as it is wanted.
use Rattle.std.proofs.Common.{◌≡◌, ℕ, Bool, true, false, not, ◌&&◌, List, [], ◌∷◌, ◌++◌, codes, Some, None, option_map, refl, ap, ap₂, ◌∙◌}
use Rattle.std.specs.Str.{bytes_eq}
use Rattle.std.proofs.lemmas.Bool.{and_parts, or_parts, false≢true}
use Rattle.dk_pqmodel.specs.Shape.{Leaf, flag, int32, int64, chars, Shape, leaf, map_of, Field, field, Fields, no_fields, one_field, field_name}
use Rattle.dk_pqmodel.specs.Shape as shape
use Rattle.dk_pqmodel.specs.Schema.{has_fields, is_named, are_distinct, is_sound_shape, is_sound, are_sound, IsSchema}
use Rattle.dk_pqmodel.specs.FileSchema.{FileNode, file_node, FileNodes, no_nodes, one_node, node_name, named_in}
use Rattle.dk_pqmodel.specs.FilePages.{physical_type}
use Rattle.dk_pqmodel.specs.FileMeans.{one_if}
use Rattle.dk_grammar.specs.Structs.{first_of_two}
use Rattle.dk_pqmodel.specs.Projection.{Path, Plan, Plans, is_missing, all_missing, members, members_of, elements, elements_of, entries, unnamed_field, field_then, file_entry, projection_at, projection_in, projection_named, projection_each, projection, projected_field, projected_fields, misfit_at, misfit_in, misfit_each, misfit_named, first_misfit}
use Rattle.dk_pqmodel.specs.Projection as laying
use Rattle.dk_pqwrite.specs.Written.{written_as, written_in, written_nodes, nodes_at, physical_at}
use Rattle.dk_pqwrite.specs.OverItself.{bare_at, bare_in, bare, own_plan_at, own_plan_in, own_plan_named, own_plans}
use Rattle.dk_pqwrite.proofs.Names.{same_name, names_turned, not_true}

-- ---- each field is found by its name

-- each field stands among the nodes, as it is written
abbrev pub Finds : FileNodes → Fields → Type 0
Finds ns no_fields = Unit {0}
Finds ns (one_field f fs) = (named_in (field_name f) ns ≡ Some (written_in f)) × Finds ns fs

finds_more : (n : FileNode) (ns : FileNodes) (fs : Fields) → is_named (node_name n) fs ≡ false → Finds ns fs → Finds (one_node n ns) fs
finds_more n ns no_fields h t = tt
finds_more n ns (one_field f fs) h t =
    let apart = or_parts (bytes_eq (node_name n) (field_name f)) (is_named (node_name n) fs) h in
    (rw (names_turned (node_name n) (field_name f) apart.0) t.0, finds_more n ns fs apart.1 t.1)

pub finds_own : (fs : Fields) → are_distinct fs ≡ true → Finds (written_nodes fs) fs
finds_own no_fields h = tt
finds_own (one_field (field name b s) fs) h =
    let p = and_parts (not (is_named name fs)) (are_distinct fs) h in
    (rw (same_name name) refl, finds_more (written_in (field name b s)) (written_nodes fs) fs (not_true (is_named name fs) p.0) (finds_own fs p.1))

-- ---- nothing is missing

there : (s : Shape) (b : Bool) (path : Path) → is_missing (own_plan_at s b path) ≡ false
there (leaf l) b path = refl
there (shape.group fs) b path = refl
there (shape.list f) b path = refl
there (map_of f) b path = refl

pub plan_there : (f : Field) (path : Path) → is_missing (own_plan_in f path) ≡ false
plan_there (field name b s) path = there s b path

pub named_there : (f : Field) (path : Path) → is_missing (own_plan_named f path) ≡ false
named_there (field name b s) path = there s b (path ++ name ∷ [])

some_there : (fs : Fields) (path : Path) → has_fields fs ≡ true → all_missing (own_plans fs path) ≡ false
some_there no_fields path h = absurd (false≢true h)
some_there (one_field f fs) path h = rw (named_there f path) refl

-- ---- the plans

over_leaf : (l : Leaf) (name : List ℕ) (b : Bool) (path : Path) → projection_at (leaf l) path (file_node name (one_if b) (Some (physical_type l)) no_nodes) ≡ laying.value b l path
over_leaf flag name true path = refl
over_leaf flag name false path = refl
over_leaf int32 name true path = refl
over_leaf int32 name false path = refl
over_leaf int64 name true path = refl
over_leaf int64 name false path = refl
over_leaf chars name true path = refl
over_leaf chars name false path = refl

over_group : (fs : Fields) (name : List ℕ) (b : Bool) (path : Path) (ps : Plans) → has_fields fs ≡ true → projection_each fs path (written_nodes fs) ≡ ps → all_missing ps ≡ false
    → projection_at (shape.group fs) path (file_node name (one_if b) None (written_nodes fs)) ≡ members b ps
over_group no_fields name b path ps some e m = absurd (false≢true some)
over_group (one_field f fs) name true path ps some e m = ap (members_of true) e ∙ rw m refl
over_group (one_field f fs) name false path ps some e m = ap (members_of false) e ∙ rw m refl

over_list : (f : Field) (name : List ℕ) (b : Bool) (path : Path) (p : Plan) → projection_in f (path ++ codes "list" ∷ codes "element" ∷ []) (written_as (codes "element") f) ≡ p → is_missing p ≡ false
    → projection_at (shape.list f) path (file_node name (one_if b) None (nodes_at (shape.list f))) ≡ elements b p
over_list (field own n s) name true path p e m = ap (elements_of true) e ∙ rw m refl
over_list (field own n s) name false path p e m = ap (elements_of false) e ∙ rw m refl

over_map : (f : Field) (name : List ℕ) (b : Bool) (path : Path) (p : Plan) → projection_in f (path ++ codes "key_value" ∷ codes "value" ∷ []) (written_as (codes "value") f) ≡ p
    → projection_at (map_of f) path (file_node name (one_if b) None (nodes_at (map_of f))) ≡ entries b false (path ++ codes "key_value" ∷ codes "key" ∷ []) p
over_map (field own n s) name true path p e = ap (entries true false (path ++ codes "key_value" ∷ codes "key" ∷ [])) e
over_map (field own n s) name false path p e = ap (entries false false (path ++ codes "key_value" ∷ codes "key" ∷ [])) e

mutual
  at_own : (s : Shape) (name : List ℕ) (b : Bool) (path : Path) → is_sound_shape s ≡ true → projection_at s path (file_node name (one_if b) (physical_at s) (nodes_at s)) ≡ own_plan_at s b path
  at_own (leaf l) name b path h = over_leaf l name b path
  at_own (shape.group fs) name b path h =
      let p = and_parts (has_fields fs && are_distinct fs) (are_sound fs) h in
      let q = and_parts (has_fields fs) (are_distinct fs) p.0 in
      over_group fs name b path (own_plans fs path) q.0 (each_own fs (written_nodes fs) path p.1 (finds_own fs q.1)) (some_there fs path q.0)
  at_own (shape.list f) name b path h =
      let inner = path ++ codes "list" ∷ codes "element" ∷ [] in over_list f name b path (own_plan_in f inner) (as_own f (codes "element") inner h) (plan_there f inner)
  at_own (map_of f) name b path h = let inner = path ++ codes "key_value" ∷ codes "value" ∷ [] in over_map f name b path (own_plan_in f inner) (as_own f (codes "value") inner h)

  as_own : (f : Field) (name : List ℕ) (path : Path) → is_sound f ≡ true → projection_in f path (written_as name f) ≡ own_plan_in f path
  as_own (field own b s) name path h = at_own s name b path h

  each_own : (fs : Fields) (ns : FileNodes) (path : Path) → are_sound fs ≡ true → Finds ns fs → projection_each fs path ns ≡ own_plans fs path
  each_own no_fields ns path h t = refl
  each_own (one_field f fs) ns path h t = let p = and_parts (is_sound f) (are_sound fs) h in ap₂ laying.one_plan (named_own f ns path p.0 t.0) (each_own fs ns path p.1 t.1)

  named_own : (f : Field) (ns : FileNodes) (path : Path) → is_sound f ≡ true → named_in (field_name f) ns ≡ Some (written_in f) → projection_named f path ns ≡ own_plan_named f path
  named_own (field name b s) ns path h found = rw found (at_own s name b (path ++ name ∷ []) h)

pub own_projection : (fs : Fields) → IsSchema fs → projection fs (written_nodes fs) ≡ own_plans fs []
own_projection fs is = each_own fs (written_nodes fs) [] is.sound (finds_own fs is.distinct)

-- ---- nothing differs

fits_leaf : (l : Leaf) (name : List ℕ) (b : Bool) (path : Path) → misfit_at (leaf l) path (file_node name (one_if b) (Some (physical_type l)) no_nodes) ≡ None
fits_leaf flag name true path = refl
fits_leaf flag name false path = refl
fits_leaf int32 name true path = refl
fits_leaf int32 name false path = refl
fits_leaf int64 name true path = refl
fits_leaf int64 name false path = refl
fits_leaf chars name true path = refl
fits_leaf chars name false path = refl

fits_group : (fs : Fields) (name : List ℕ) (b : Bool) (path : Path) → has_fields fs ≡ true → misfit_each fs path (written_nodes fs) ≡ None
    → misfit_at (shape.group fs) path (file_node name (one_if b) None (written_nodes fs)) ≡ None
fits_group no_fields name b path some e = absurd (false≢true some)
fits_group (one_field f fs) name true path some e = e
fits_group (one_field f fs) name false path some e = e

fits_list : (f : Field) (name : List ℕ) (b : Bool) (path : Path) → misfit_in f (path ++ codes "list" ∷ codes "element" ∷ []) (written_as (codes "element") f) ≡ None
    → misfit_at (shape.list f) path (file_node name (one_if b) None (nodes_at (shape.list f))) ≡ None
fits_list (field own n s) name true path e = e
fits_list (field own n s) name false path e = e

fits_map : (f : Field) (name : List ℕ) (b : Bool) (path : Path) → misfit_in f (path ++ codes "key_value" ∷ codes "value" ∷ []) (written_as (codes "value") f) ≡ None
    → misfit_at (map_of f) path (file_node name (one_if b) None (nodes_at (map_of f))) ≡ None
fits_map (field own n s) name true path e = e
fits_map (field own n s) name false path e = e

mutual
  at_fits : (s : Shape) (name : List ℕ) (b : Bool) (path : Path) → is_sound_shape s ≡ true → misfit_at s path (file_node name (one_if b) (physical_at s) (nodes_at s)) ≡ None
  at_fits (leaf l) name b path h = fits_leaf l name b path
  at_fits (shape.group fs) name b path h =
      let p = and_parts (has_fields fs && are_distinct fs) (are_sound fs) h in
      let q = and_parts (has_fields fs) (are_distinct fs) p.0 in
      fits_group fs name b path q.0 (each_fits fs (written_nodes fs) path p.1 (finds_own fs q.1))
  at_fits (shape.list f) name b path h = fits_list f name b path (as_fits f (codes "element") (path ++ codes "list" ∷ codes "element" ∷ []) h)
  at_fits (map_of f) name b path h = fits_map f name b path (as_fits f (codes "value") (path ++ codes "key_value" ∷ codes "value" ∷ []) h)

  as_fits : (f : Field) (name : List ℕ) (path : Path) → is_sound f ≡ true → misfit_in f path (written_as name f) ≡ None
  as_fits (field own b s) name path h = at_fits s name b path h

  each_fits : (fs : Fields) (ns : FileNodes) (path : Path) → are_sound fs ≡ true → Finds ns fs → misfit_each fs path ns ≡ None
  each_fits no_fields ns path h t = refl
  each_fits (one_field f fs) ns path h t =
      let p = and_parts (is_sound f) (are_sound fs) h in
      ap (λ first. first_of_two first (misfit_each fs path ns)) (named_fits f ns path p.0 t.0) ∙ each_fits fs ns path p.1 t.1

  named_fits : (f : Field) (ns : FileNodes) (path : Path) → is_sound f ≡ true → named_in (field_name f) ns ≡ Some (written_in f) → misfit_named f path ns ≡ None
  named_fits (field name b s) ns path h found = rw found (at_fits s name b (path ++ name ∷ []) h)

pub fits_own : (fs : Fields) → IsSchema fs → first_misfit fs (written_nodes fs) ≡ None
fits_own fs is = each_fits fs (written_nodes fs) [] is.sound (finds_own fs is.distinct)

-- ---- what is cut is the schema without names

mutual
  cut_own : (s : Shape) (b : Bool) (path : Path) → projected_field (own_plan_at s b path) ≡ Some (field [] b (bare_at s))
  cut_own (leaf l) b path = refl
  cut_own (shape.group fs) b path = ap (λ fs. unnamed_field b (shape.group fs)) (cuts_own fs path)
  cut_own (shape.list f) b path = ap (λ cut. option_map (λ f. field [] b (shape.list f)) cut) (cut_own_in f (path ++ codes "list" ∷ codes "element" ∷ []))
  cut_own (map_of f) b path = ap (λ cut. unnamed_field b (shape.list (file_entry false cut))) (cut_own_in f (path ++ codes "key_value" ∷ codes "value" ∷ []))

  cut_own_in : (f : Field) (path : Path) → projected_field (own_plan_in f path) ≡ Some (bare_in f)
  cut_own_in (field name b s) path = cut_own s b path

  cuts_own : (fs : Fields) (path : Path) → projected_fields (own_plans fs path) ≡ bare fs
  cuts_own no_fields path = refl
  cuts_own (one_field (field name b s) fs) path = ap₂ field_then (cut_own s b (path ++ name ∷ [])) (cuts_own fs path)

pub projected_is_bare : (fs : Fields) → IsSchema fs → projected_fields (projection fs (written_nodes fs)) ≡ bare fs
projected_is_bare fs is = ap projected_fields (own_projection fs is) ∙ cuts_own fs []
