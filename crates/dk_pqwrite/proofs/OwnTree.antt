-- The schema that is written is a tree as a footer has it.
use Rattle.std.proofs.Common.{◌≡◌, ◌≤◌, ℕ, ◌+◌, ◌*◌, nat_le, Bool, true, false, not, ◌&&◌, List, [], ◌∷◌, ◌++◌, codes, None, refl, ap, arith}
use Rattle.std.specs.Str.{bytes_eq}
use Rattle.std.proofs.lemmas.Bool.{and_parts, and_from, or_from, or_parts}
use Rattle.dk_pqmodel.specs.Shape.{Shape, leaf, map_of, Field, field, Fields, no_fields, one_field, field_name}
use Rattle.dk_pqmodel.specs.Shape as shape
use Rattle.dk_pqmodel.specs.Schema as schema
use Rattle.dk_pqmodel.specs.Schema.{has_fields, is_named, are_distinct, is_sound_shape, IsSchema}
use Rattle.dk_pqmodel.specs.FileSchema.{FileNode, file_node, no_nodes, one_node, node_name}
use Rattle.dk_pqmodel.specs.FileMeans.{one_if}
use Rattle.dk_pqmodel.specs.Footer.{Element, is_among_names, are_new, is_sound, are_sound, levels_in, levels_of, flat_of, count_of, IsTree}
use Rattle.dk_pqwrite.specs.Written.{written_as, written_in, written_nodes, nodes_at}
use Rattle.dk_pqwrite.proofs.Names.{names_turned, not_true}

-- ---- names

-- no field has one of the names
abbrev NoneOf : List (List ℕ) → Fields → Type 0
NoneOf names no_fields = Unit {0}
NoneOf names (one_field f fs) = (is_among_names (field_name f) names ≡ false) × NoneOf names fs

has_name_behind : (name other : List ℕ) (before : List (List ℕ)) → is_among_names name before ≡ false → bytes_eq name other ≡ false → is_among_names name (before ++ other ∷ []) ≡ false
has_name_behind name other [] h k = or_from (bytes_eq name other) false k refl
has_name_behind name other (n ∷ ns) h k =
    let p = or_parts (bytes_eq name n) (is_among_names name ns) h in or_from (bytes_eq name n) (is_among_names name (ns ++ other ∷ [])) p.0 (has_name_behind name other ns p.1 k)

none_behind : (name : List ℕ) (before : List (List ℕ)) (fs : Fields) → is_named name fs ≡ false → NoneOf before fs → NoneOf (before ++ name ∷ []) fs
none_behind name before no_fields h t = tt
none_behind name before (one_field f fs) h t =
    let p = or_parts (bytes_eq name (field_name f)) (is_named name fs) h in
    (has_name_behind (field_name f) name before t.0 (names_turned name (field_name f) p.0), none_behind name before fs p.1 t.1)

written_name : (f : Field) → node_name (written_in f) ≡ field_name f
written_name (field name b s) = refl

new_names : (before : List (List ℕ)) (fs : Fields) → are_distinct fs ≡ true → NoneOf before fs → are_new before (written_nodes fs) ≡ true
new_names before no_fields h t = refl
new_names before (one_field f fs) h t =
    let p = and_parts (not (is_named (field_name f) fs)) (are_distinct fs) h in
    rw (written_name f) (and_from (not (is_among_names (field_name f) before)) (are_new (before ++ field_name f ∷ []) (written_nodes fs)) (ap not t.0)
    (new_names (before ++ field_name f ∷ []) fs p.1 (none_behind (field_name f) before fs (not_true (is_named (field_name f) fs) p.0) t.1)))

none_at_first : (fs : Fields) → NoneOf [] fs
none_at_first no_fields = tt
none_at_first (one_field f fs) = (refl, none_at_first fs)

few : (b : Bool) → nat_le (one_if b) 2 ≡ true
few true = refl
few false = refl

-- ---- each group has distinct names

one_sound : (n : FileNode) → is_sound n ≡ true → are_sound (one_node n no_nodes) ≡ true
one_sound n h = and_from (is_sound n) true h refl

mutual
  sound_as : (name : List ℕ) (f : Field) → schema.is_sound f ≡ true → is_sound (written_as name f) ≡ true
  sound_as name (field own b s) h =
      let inner = sound_at s h in
      and_from (nat_le (one_if b) 2 && are_new [] (nodes_at s)) (are_sound (nodes_at s)) (and_from (nat_le (one_if b) 2) (are_new [] (nodes_at s)) (few b) inner.0) inner.1

  sound_in : (f : Field) → schema.is_sound f ≡ true → is_sound (written_in f) ≡ true
  sound_in (field name b s) h =
      let inner = sound_at s h in
      and_from (nat_le (one_if b) 2 && are_new [] (nodes_at s)) (are_sound (nodes_at s)) (and_from (nat_le (one_if b) 2) (are_new [] (nodes_at s)) (few b) inner.0) inner.1

  sound_at : (s : Shape) → is_sound_shape s ≡ true → (are_new [] (nodes_at s) ≡ true) × (are_sound (nodes_at s) ≡ true)
  sound_at (leaf l) h = (refl, refl)
  sound_at (shape.group fs) h =
      let p = and_parts (has_fields fs && are_distinct fs) (schema.are_sound fs) h in
      let q = and_parts (has_fields fs) (are_distinct fs) p.0 in
      (new_names [] fs q.1 (none_at_first fs), sound_each fs p.1)
  sound_at (shape.list f) h = (refl, one_sound (file_node (codes "list") 2 None (one_node (written_as (codes "element") f) no_nodes)) (list_sound f (sound_as (codes "element") f h)))
  sound_at (map_of f) h = (refl, map_sound f (sound_as (codes "value") f h))

  list_sound : (f : Field) → is_sound (written_as (codes "element") f) ≡ true → is_sound (file_node (codes "list") 2 None (one_node (written_as (codes "element") f) no_nodes)) ≡ true
  list_sound (field own b s) h = rw h refl

  map_sound : (f : Field) → is_sound (written_as (codes "value") f) ≡ true → are_sound (nodes_at (map_of f)) ≡ true
  map_sound (field own b s) h = rw h refl

  sound_each : (fs : Fields) → schema.are_sound fs ≡ true → are_sound (written_nodes fs) ≡ true
  sound_each no_fields h = refl
  sound_each (one_field f fs) h =
      let p = and_parts (schema.is_sound f) (schema.are_sound fs) h in and_from (is_sound (written_in f)) (are_sound (written_nodes fs)) (sound_in f p.0) (sound_each fs p.1)

-- ---- levels: a list or a map has one more than its schema says

mutual
  levels_as : (name : List ℕ) (f : Field) → levels_in (written_as name f) + 1 ≤ 2 * schema.levels_in f
  levels_as name (field own b s) = let h = levels_at s in omega (arith, h)

  levels_named : (f : Field) → levels_in (written_in f) + 1 ≤ 2 * schema.levels_in f
  levels_named (field name b s) = let h = levels_at s in omega (arith, h)

  levels_at : (s : Shape) → levels_of (nodes_at s) ≤ 2 * schema.levels_at s
  levels_at (leaf l) = omega arith
  levels_at (shape.group fs) = levels_each fs
  levels_at (shape.list f) = let h = levels_as (codes "element") f in omega (arith, h)
  levels_at (map_of f) = let h = levels_as (codes "value") f in omega (arith, h)

  levels_each : (fs : Fields) → levels_of (written_nodes fs) ≤ 2 * schema.levels_of fs
  levels_each no_fields = omega arith
  levels_each (one_field f fs) = let h = levels_named f in let k = levels_each fs in omega (arith, h, k)

pub own_tree : (fs : Fields) (root : Element) → IsSchema fs → root.children ≡ count_of (written_nodes fs) → IsTree (root ∷ flat_of (written_nodes fs)) (written_nodes fs)
own_tree fs root is count = record {
  root = root;
  whole = refl;
  count = count;
  distinct = new_names [] fs is.distinct (none_at_first fs);
  sound = sound_each fs is.sound;
  levels = omega (arith, levels_each fs, is.levels);
}
