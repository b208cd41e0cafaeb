-- Rows as they are read back: by the names of the schema, and by the places of their cells.
use Rattle.std.proofs.Common.{◌≡◌, false, [], ◌∷◌, refl, ap, ap₂}
use Rattle.std.specs.Str.{bytes_eq}
use Rattle.dk_pqmodel.specs.Shape.{Field, Fields, no_fields, one_field, field_name}
use Rattle.dk_pqmodel.specs.Datum.{Datum, null, atom, group, list, Cells, no_cells, one_cell}
use Rattle.dk_model.specs.declared.action_key.ActionKey.TheVariants as key
use Rattle.dk_model.specs.ActionKeys.{name_of}
use Rattle.dk_lawful.specs.CheckpointSchema.{fields, keyed_group, txn_group, add_group, remove_group, metadata_group, protocol_group, domain_group, checkpoint_group, sidecar_group, written_fields}
use Rattle.dk_lawful.specs.CheckpointRows.{each_by}
use Rattle.dk_rowmap.specs.WrittenRows.{with_vector, row_read, rows_read}
use Rattle.dk_ckwrite.proofs.ReadRows.{vectorless, first_vectorless, cells_vectorless, row_vectorless, rows_vectorless}

other_same : (f : Field) (c : Datum) → bytes_eq (field_name f) (name_of key.Add) ≡ false → with_vector f c ≡ c
other_same f null h = refl
other_same f (atom v) h = refl
other_same f (list cs) h = refl
other_same f (group cs) h = rw h refl

-- no field is that of adds
abbrev AreOthers : Fields → Type 0
AreOthers no_fields = Unit {0}
AreOthers (one_field f fs) = (bytes_eq (field_name f) (name_of key.Add) ≡ false) × AreOthers fs

others_same : (fs : Fields) (cs : Cells) → AreOthers fs → each_by with_vector fs cs ≡ cs
others_same no_fields cs h = refl
others_same (one_field f fs) no_cells h = refl
others_same (one_field f fs) (one_cell c cs) h = ap₂ one_cell (other_same f c h.0) (others_same fs cs h.1)

add_same : (c : Datum) → with_vector (keyed_group key.Add add_group) c ≡ vectorless c
add_same null = refl
add_same (atom v) = refl
add_same (list cs) = refl
add_same (group cs) = refl

abbrev others : Fields
others = fields (
    keyed_group key.Remove remove_group
    ∷ keyed_group key.Metadata metadata_group
    ∷ keyed_group key.Protocol protocol_group
    ∷ keyed_group key.Domain domain_group
    ∷ keyed_group key.CheckpointMeta checkpoint_group
    ∷ keyed_group key.Sidecar sidecar_group
    ∷ []
    )

first_same : (cs : Cells) → each_by with_vector (one_field (keyed_group key.Add add_group) others) cs ≡ first_vectorless cs
first_same no_cells = refl
first_same (one_cell c cs) = ap₂ one_cell (add_same c) (others_same others cs (refl, (refl, (refl, (refl, (refl, (refl, tt)))))))

cells_same : (cs : Cells) → each_by with_vector written_fields cs ≡ cells_vectorless cs
cells_same no_cells = refl
cells_same (one_cell c cs) = ap₂ one_cell (other_same (keyed_group key.Txn txn_group) c refl) (first_same cs)

row_same : (row : Datum) → row_read row ≡ row_vectorless row
row_same null = refl
row_same (atom v) = refl
row_same (list cs) = refl
row_same (group cs) = ap group (cells_same cs)

pub rows_same : (rows : Cells) → rows_read rows ≡ rows_vectorless rows
rows_same no_cells = refl
rows_same (one_cell row rows) = ap₂ one_cell (row_same row) (rows_same rows)
