-- The schema that is written for fields has no others.
use Rattle.std.proofs.Common.{◌≡◌, ℕ, Bool, true, false, ◌&&◌, List, codes, refl, sym, subst}
use Rattle.std.specs.Prelude.{IsSomeAnd}
use Rattle.std.specs.Str.{bytes_eq}
use Rattle.std.proofs.lemmas.Bool.{and_parts, and_from, or_right}
use Rattle.dk_pqmodel.specs.Shape.{Shape, leaf, map_of, Field, field, Fields, no_fields, one_field, field_name}
use Rattle.dk_pqmodel.specs.Shape as shape
use Rattle.dk_pqmodel.specs.Datum.{Cells}
use Rattle.dk_pqmodel.specs.Schema.{has_fields, is_named, are_distinct, is_sound_shape, is_sound, are_sound, IsSchema}
use Rattle.dk_pqmodel.specs.FileSchema.{file_node, FileNodes, no_nodes, one_node, node_name}
use Rattle.dk_pqmodel.specs.FileMeans.{one_if}
use Rattle.dk_pqwrite.specs.Written.{written_as, written_in, written_nodes, nodes_at, physical_at}
use Rattle.dk_pqwrite.specs.WrittenFile.{MeansAsWritten}
use Rattle.dk_pqwrite.proofs.Names.{same_name}
use Rattle.dk_pqwrite.proofs.OwnProjection.{Finds, finds_own}
use Rattle.dk_engine.specs.OwnFields.{are_named, HasOwnAt, HasOwnIn, HasOwnEach, HasOwnFields, MeansAlone}

-- ---- each node is that of a field

named_behind : (ns : FileNodes) (f : Field) (fs : Fields) → are_named ns fs ≡ true → are_named ns (one_field f fs) ≡ true
named_behind no_nodes f fs h = refl
named_behind (one_node n ns) f fs h =
    let p = and_parts (is_named (node_name n) fs) (are_named ns fs) h in
    and_from (is_named (node_name n) (one_field f fs)) (are_named ns (one_field f fs)) (or_right (bytes_eq (node_name n) (field_name f)) (is_named (node_name n) fs) p.0) (named_behind ns f fs p.1)

named_own : (fs : Fields) → are_named (written_nodes fs) fs ≡ true
named_own no_fields = refl
named_own (one_field (field name b s) fs) = rw (same_name name) (named_behind (written_nodes fs) (field name b s) fs (named_own fs))

-- ---- each field has its node

mutual
  at_own : (s : Shape) (name : List ℕ) (b : Bool) → is_sound_shape s ≡ true → HasOwnAt s (file_node name (one_if b) (physical_at s) (nodes_at s))
  at_own (leaf l) name b h = tt
  at_own (shape.group fs) name b h =
      let p = and_parts (has_fields fs && are_distinct fs) (are_sound fs) h in
      let q = and_parts (has_fields fs) (are_distinct fs) p.0 in
      (named_own fs, each_own fs (written_nodes fs) p.1 (finds_own fs q.1))
  at_own (shape.list f) name true h = as_own f (codes "element") h
  at_own (shape.list f) name false h = as_own f (codes "element") h
  at_own (map_of f) name true h = as_own f (codes "value") h
  at_own (map_of f) name false h = as_own f (codes "value") h

  as_own : (f : Field) (name : List ℕ) → is_sound f ≡ true → HasOwnIn f (written_as name f)
  as_own (field own b s) name h = at_own s name b h

  in_own : (f : Field) → is_sound f ≡ true → HasOwnIn f (written_in f)
  in_own (field name b s) h = at_own s name b h

  each_own : (fs : Fields) (ns : FileNodes) → are_sound fs ≡ true → Finds ns fs → HasOwnEach fs ns
  each_own no_fields ns h t = tt
  each_own (one_field f fs) ns h t =
      let p = and_parts (is_sound f) (are_sound fs) h in (subst (λ found. IsSomeAnd found (HasOwnIn f)) (sym t.0) (in_own f p.0), each_own fs ns p.1 t.1)

own_fields : (fs : Fields) → IsSchema fs → HasOwnFields fs (written_nodes fs)
own_fields fs is = (named_own fs, each_own fs (written_nodes fs) is.sound (finds_own fs is.distinct))

-- what means the rows as they are written has no other fields
pub means_alone : (fs : Fields) (bytes : List ℕ) (rows : Cells) → IsSchema fs → MeansAsWritten fs bytes rows → MeansAlone fs bytes rows
means_alone fs bytes rows is written = record { means = written.means; own = subst (HasOwnFields fs) (sym written.own) (own_fields fs is) }
