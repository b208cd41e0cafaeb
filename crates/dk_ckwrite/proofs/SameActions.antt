-- Rows that are read back mean the actions of those that were written.
use Rattle.std.proofs.Common.{◌≡◌, Bool, true, false, ◌&&◌, List, Option, option_map, option_and_then, refl, ap, ◌∙◌}
use Rattle.std.specs.Prelude.{if◌then◌else◌}
use Rattle.dk_pqmodel.specs.Shape.{Field, Fields, no_fields, one_field, field_name, shape_in, fields_at}
use Rattle.dk_pqmodel.specs.Datum.{Datum, null, atom, group, list, Cells, no_cells, one_cell, appended}
use Rattle.dk_pqmodel.specs.Object.{json_in, members_of, put_present, data_of}
use Rattle.serde_json.specs.Data.{Members, no_members, object, put}
use Rattle.dk_model.specs.declared.action.Action.{Action}
use Rattle.dk_model.specs.ActionObject.{action_of}
use Rattle.dk_lawful.specs.CheckpointSchema.{read_fields}
use Rattle.dk_lawful.specs.CheckpointRows.{is_vector_name, counted_cell, each_by, turned_group, counted, row_means, with_action, actions_of_rows}
use Rattle.dk_rowmap.specs.WrittenRows.{rows_read}
use Rattle.dk_ckwrite.proofs.RowsRead.{rows_same}
use Rattle.dk_ckwrite.proofs.ReadRows.{vectorless, first_vectorless, cells_vectorless, row_vectorless, rows_vectorless}

-- ---- a null cell behind the others

null_counts : (f : Field) → counted_cell f null ≡ null
null_counts f = by (is_vector_name (field_name f))
  where
    by : (b : Bool) → (if b && false then null else null) ≡ null
    by true = refl
    by false = refl

null_behind : (fs : Fields) (cs : Cells) → members_of (each_by counted_cell fs (appended cs (one_cell null no_cells))) fs ≡ members_of (each_by counted_cell fs cs) fs
null_behind no_fields no_cells = refl
null_behind no_fields (one_cell c cs) = refl
null_behind (one_field f fs) no_cells = ap (λ c. put_present (field_name f) c (json_in c f) (members_of (each_by counted_cell fs no_cells) fs)) (null_counts f) ∙ nothing_more fs
  where
    nothing_more : (fs : Fields) → members_of (each_by counted_cell fs no_cells) fs ≡ no_members
    nothing_more no_fields = refl
    nothing_more (one_field f fs) = refl
null_behind (one_field f fs) (one_cell c cs) = ap (put_present (field_name f) (counted_cell f c) (json_in (counted_cell f c) f)) (null_behind fs cs)

-- ---- in the group of an add

-- a cell of a row, counted
abbrev in_row : Field → Datum → Datum
in_row = turned_group counted_cell

-- the members of an object, whose first is that of a field
abbrev with_member : Field → Datum → Members → Members
with_member f c ms = put_present (field_name f) c (json_in c f) ms

same_add : (f : Field) (c : Datum) (ms : Members) → with_member f (in_row f (vectorless c)) ms ≡ with_member f (in_row f c) ms
same_add f null ms = refl
same_add f (atom v) ms = refl
same_add f (list cs) ms = refl
same_add f (group cs) ms = ap (λ inner. put (field_name f) (object inner) ms) (null_behind (fields_at (shape_in f)) cs)

same_first : (fs : Fields) (cs : Cells) → members_of (each_by in_row fs (first_vectorless cs)) fs ≡ members_of (each_by in_row fs cs) fs
same_first fs no_cells = refl
same_first no_fields (one_cell c cs) = refl
same_first (one_field f fs) (one_cell c cs) = same_add f c (members_of (each_by in_row fs cs) fs)

same_cells : (fs : Fields) (cs : Cells) → members_of (each_by in_row fs (cells_vectorless cs)) fs ≡ members_of (each_by in_row fs cs) fs
same_cells fs no_cells = refl
same_cells no_fields (one_cell c cs) = refl
same_cells (one_field f fs) (one_cell c cs) = ap (with_member f (in_row f c)) (same_first fs cs)

-- ---- the rows

same_data : (fs : Fields) (row : Datum) → data_of fs (counted fs (row_vectorless row)) ≡ data_of fs (counted fs row)
same_data fs null = refl
same_data fs (atom v) = refl
same_data fs (list cs) = refl
same_data fs (group cs) = ap object (same_cells fs cs)

same_row : (row : Datum) → row_means (row_vectorless row) ≡ row_means row
unfolding row_means
same_row row = ap action_of (same_data read_fields row)

by_places : (rows : Cells) → actions_of_rows (rows_vectorless rows) ≡ actions_of_rows rows
by_places no_cells = refl
by_places (one_cell row rows) =
    ap (λ (meant : Option (Option Action)). option_and_then (λ a. option_map (with_action a) (actions_of_rows (rows_vectorless rows))) meant) (same_row row)
    ∙ ap (λ (rest : Option (List Action)). option_and_then (λ a. option_map (with_action a) rest) (row_means row)) (by_places rows)

pub same_actions : (rows : Cells) → actions_of_rows (rows_read rows) ≡ actions_of_rows rows
same_actions rows = ap actions_of_rows (rows_same rows) ∙ by_places rows
