-- The row of an action fits the schema, stands for the action's object, and is read as the action.
use Rattle.std.proofs.Common.{◌≡◌, Bool, true, false, cond, List, [], ◌∷◌, ◌++◌, map, Some, None, option_map, option_and_then, refl, sym, ap, ◌∙◌, append_assoc, append-nil}
use Rattle.std.specs.Prelude.{if◌then◌else◌}
use Rattle.std.specs.Option.{option_to_list}
use Rattle.std.specs.List.{AllByRecursion}
use Rattle.serde_json.specs.Data.{Data, no_members, member, object}
use Rattle.dk_pqmodel.specs.Shape.{Fields, root}
use Rattle.dk_pqmodel.specs.Shape as shape
use Rattle.dk_pqmodel.specs.Datum.{Datum, Cells}
use Rattle.dk_pqmodel.specs.RowView.{cells_of_list}
use Rattle.dk_pqmodel.specs.Fits.{CellBy, fits_leaf, Fit}
use Rattle.dk_pqmodel.specs.Object.{members_of, data_of}
use Rattle.dk_model.specs.Shown.{object_with}
use Rattle.dk_model.specs.declared.action.Action.{Action}
use Rattle.dk_model.specs.declared.action.Action.TheVariants as action
use Rattle.dk_model.specs.ProtocolObject.{protocol_fields}
use Rattle.dk_model.specs.MetadataObject.{metadata_fields}
use Rattle.dk_model.specs.AddObject.{add_fields}
use Rattle.dk_model.specs.RemoveObject.{remove_fields}
use Rattle.dk_model.specs.TxnObject.{txn_fields}
use Rattle.dk_model.specs.DomainObject.{domain_fields}
use Rattle.dk_model.specs.CheckpointObjects.{checkpoint_meta_fields, sidecar_fields}
use Rattle.dk_model.specs.ActionObject.{action_of, object_of, key_name}
use Rattle.dk_model.specs.Ranges.{IsInRange}
use Rattle.dk_model.specs.ReadBack.{HasRisingKeys, HasVersionsInRange, has_vector, is_written, written_of, IsReadable}
use Rattle.dk_model.proofs.ObjectsBack.{action_back}
use Rattle.dk_lawful.specs.CheckpointSchema.{fields, txn_group, add_group, vector_group, remove_group, metadata_group, protocol_group, domain_group, checkpoint_group, sidecar_group, written_fields, read_fields}
use Rattle.dk_lawful.specs.CheckpointRows.{counted, row_means, with_action, actions_of_rows}
use Rattle.dk_rowmap.specs.ActionRows.{Table, each_cell, field_cell, row_for, rows_for, row_if}
use Rattle.dk_rowmap.specs.WrittenRows.{HasOrderedMaps, RowsHaveOrderedMaps, IsKept, objects_in, row_read, rows_read}
use Rattle.dk_rowmap.proofs.FieldOrders.{in_any_order}
use Rattle.dk_rowmap.proofs.HeldFields.{ordered, group_fits, group_in_order, group_shown}
use Rattle.dk_rowmap.proofs.HeldKinds.{HasFields, txn_has, add_has, remove_has, metadata_has, protocol_has, domain_has, checkpoint_has, sidecar_has}

-- ---- the group of a table of fields

abbrev cells_for : Fields → Table → Cells
cells_for fs table = cells_of_list (each_cell (field_cell table) fs)

object_for : (fs : Fields) (table : Table) → HasFields fs table → object (members_of (cells_for fs table) fs) ≡ object_with table
unfolding object_with
object_for fs table h = ap object (group_shown fs table h.held ∙ sym (in_any_order (ordered fs table) table h.order))

-- ---- the row of an action

abbrev pub Ready : Action → Type 0
Ready a = (is_written a ≡ true) × (HasVersionsInRange a × HasRisingKeys a)

-- under a key alone
abbrev alone : Action → Data → Data
alone a d = object (member (key_name a) d no_members)

pub row_fits : (a : Action) → Ready a → CellBy fits_leaf (row_for written_fields a) (root written_fields)
row_fits (action.Protocol p) h = (refl, (refl, (refl, (refl, (group_fits _ _ (protocol_has p h.1.0).held, (refl, (refl, (refl, tt))))))))
row_fits (action.Metadata m) h = (refl, (refl, (refl, (group_fits _ _ (metadata_has m h.1.1.0 h.1.1.1).held, (refl, (refl, (refl, (refl, tt))))))))
row_fits (action.Add f) h = (refl, (group_fits _ _ (add_has f h.1.1.0 h.1.1.1).held, (refl, (refl, (refl, (refl, (refl, (refl, tt))))))))
row_fits (action.Remove r) h = (refl, (refl, (group_fits _ _ (remove_has r).held, (refl, (refl, (refl, (refl, (refl, tt))))))))
row_fits (action.Txn t) h = (group_fits _ _ (txn_has t).held, (refl, (refl, (refl, (refl, (refl, (refl, (refl, tt))))))))
row_fits (action.Domain d) h = (refl, (refl, (refl, (refl, (refl, (group_fits _ _ (domain_has d).held, (refl, (refl, tt))))))))
row_fits (action.Info i) h = cc
row_fits action.Cdc h = cc
row_fits (action.CheckpointMeta m) h = (refl, (refl, (refl, (refl, (refl, (refl, (group_fits _ _ (checkpoint_has m).held, (refl, tt))))))))
row_fits (action.Sidecar r) h = (refl, (refl, (refl, (refl, (refl, (refl, (refl, (group_fits _ _ (sidecar_has r).held, tt))))))))

row_in_order : (a : Action) → Ready a → HasOrderedMaps (shape.group written_fields) (row_for written_fields a)
row_in_order (action.Protocol p) h = (tt, (tt, (tt, (tt, (group_in_order _ _ (protocol_has p h.1.0).held, (tt, (tt, (tt, tt))))))))
row_in_order (action.Metadata m) h = (tt, (tt, (tt, (group_in_order _ _ (metadata_has m h.1.1.0 h.1.1.1).held, (tt, (tt, (tt, (tt, tt))))))))
row_in_order (action.Add f) h = (tt, (group_in_order _ _ (add_has f h.1.1.0 h.1.1.1).held, (tt, (tt, (tt, (tt, (tt, (tt, tt))))))))
row_in_order (action.Remove r) h = (tt, (tt, (group_in_order _ _ (remove_has r).held, (tt, (tt, (tt, (tt, (tt, tt))))))))
row_in_order (action.Txn t) h = (group_in_order _ _ (txn_has t).held, (tt, (tt, (tt, (tt, (tt, (tt, (tt, tt))))))))
row_in_order (action.Domain d) h = (tt, (tt, (tt, (tt, (tt, (group_in_order _ _ (domain_has d).held, (tt, (tt, tt))))))))
row_in_order (action.Info i) h = cc
row_in_order action.Cdc h = cc
row_in_order (action.CheckpointMeta m) h = (tt, (tt, (tt, (tt, (tt, (tt, (group_in_order _ _ (checkpoint_has m).held, (tt, tt))))))))
row_in_order (action.Sidecar r) h = (tt, (tt, (tt, (tt, (tt, (tt, (tt, (group_in_order _ _ (sidecar_has r).held, tt))))))))

pub row_stands : (a : Action) → Ready a → data_of written_fields (row_for written_fields a) ≡ object_of a
unfolding object_with
row_stands (action.Protocol p) h = ap (alone (action.Protocol p)) (object_for (fields protocol_group) (protocol_fields p) (protocol_has p h.1.0))
row_stands (action.Metadata m) h = ap (alone (action.Metadata m)) (object_for (fields metadata_group) (metadata_fields m) (metadata_has m h.1.1.0 h.1.1.1))
row_stands (action.Add f) h = ap (alone (action.Add f)) (object_for (fields add_group) (add_fields f) (add_has f h.1.1.0 h.1.1.1))
row_stands (action.Remove r) h = ap (alone (action.Remove r)) (object_for (fields remove_group) (remove_fields r) (remove_has r))
row_stands (action.Txn t) h = ap (alone (action.Txn t)) (object_for (fields txn_group) (txn_fields t) (txn_has t))
row_stands (action.Domain d) h = ap (alone (action.Domain d)) (object_for (fields domain_group) (domain_fields d) (domain_has d))
row_stands (action.Info i) h = cc
row_stands action.Cdc h = cc
row_stands (action.CheckpointMeta m) h = ap (alone (action.CheckpointMeta m)) (object_for (fields checkpoint_group) (checkpoint_meta_fields m) (checkpoint_has m))
row_stands (action.Sidecar r) h = ap (alone (action.Sidecar r)) (object_for (fields sidecar_group) (sidecar_fields r) (sidecar_has r))

-- and so does the row as it is read
read_stands : (a : Action) → Ready a → data_of read_fields (counted read_fields (row_read (row_for written_fields a))) ≡ object_of a
unfolding object_with txn_group add_group vector_group remove_group metadata_group protocol_group domain_group checkpoint_group sidecar_group protocol_fields metadata_fields add_fields remove_fields txn_fields domain_fields checkpoint_meta_fields sidecar_fields
read_stands (action.Protocol p) h = ap (alone (action.Protocol p)) (object_for (fields protocol_group) (protocol_fields p) (protocol_has p h.1.0))
read_stands (action.Metadata m) h = ap (alone (action.Metadata m)) (object_for (fields metadata_group) (metadata_fields m) (metadata_has m h.1.1.0 h.1.1.1))
read_stands (action.Add f) h = ap (alone (action.Add f)) (object_for (fields add_group) (add_fields f) (add_has f h.1.1.0 h.1.1.1))
read_stands (action.Remove r) h = ap (alone (action.Remove r)) (object_for (fields remove_group) (remove_fields r) (remove_has r))
read_stands (action.Txn t) h = ap (alone (action.Txn t)) (object_for (fields txn_group) (txn_fields t) (txn_has t))
read_stands (action.Domain d) h = ap (alone (action.Domain d)) (object_for (fields domain_group) (domain_fields d) (domain_has d))
read_stands (action.Info i) h = cc
read_stands action.Cdc h = cc
read_stands (action.CheckpointMeta m) h = ap (alone (action.CheckpointMeta m)) (object_for (fields checkpoint_group) (checkpoint_meta_fields m) (checkpoint_has m))
read_stands (action.Sidecar r) h = ap (alone (action.Sidecar r)) (object_for (fields sidecar_group) (sidecar_fields r) (sidecar_has r))

pub row_back : (a : Action) → Ready a → IsInRange a → has_vector a ≡ false → row_means (row_read (row_for written_fields a)) ≡ Some (Some a)
unfolding row_means
row_back a h range bare = ap action_of (read_stands a h) ∙ action_back a h.0 range bare h.1.1

-- ---- the rows of a list

record IsRowable (a : Action) : Type 0 where
  ready : Ready a
  range : IsInRange a
  bare : has_vector a ≡ false

chosen : (a : Action) (rest : List Action) (b : Bool) → is_written a ≡ b → IsReadable a → IsKept a → AllByRecursion IsRowable rest → AllByRecursion IsRowable (cond b (a ∷ rest) rest)
chosen a rest true is readable kept h = (record { ready = (is, (readable.versions, kept.keys)); range = kept.range readable.versions; bare = readable.no_vector }, h)
chosen a rest false is readable kept h = h

rowable : (actions : List Action) → AllByRecursion IsReadable actions → AllByRecursion IsKept actions → AllByRecursion IsRowable (written_of actions)
rowable [] readable kept = tt
rowable (a ∷ actions) readable kept = chosen a (written_of actions) (is_written a) refl readable.0 kept.0 (rowable actions readable.1 kept.1)

each_fits : (actions : List Action) → AllByRecursion IsRowable actions → Fit written_fields (rows_for written_fields actions)
each_fits [] h = tt
each_fits (a ∷ actions) h = (row_fits a h.0.ready, each_fits actions h.1)

each_in_order : (actions : List Action) → AllByRecursion IsRowable actions → RowsHaveOrderedMaps written_fields (rows_for written_fields actions)
each_in_order [] h = tt
each_in_order (a ∷ actions) h = (row_in_order a h.0.ready, each_in_order actions h.1)

each_stands : (actions : List Action) → AllByRecursion IsRowable actions → objects_in written_fields (rows_for written_fields actions) ≡ map object_of actions
each_stands [] h = refl
each_stands (a ∷ actions) h = ap (λ d. d ∷ objects_in written_fields (rows_for written_fields actions)) (row_stands a h.0.ready) ∙ ap (λ ds. object_of a ∷ ds) (each_stands actions h.1)

each_back : (actions : List Action) → AllByRecursion IsRowable actions → actions_of_rows (rows_read (rows_for written_fields actions)) ≡ Some actions
each_back [] h = refl
each_back (a ∷ actions) h =
    let more : actions_of_rows (rows_read (rows_for written_fields actions)) ≡ Some actions = each_back actions h.1 in
    ap (λ m. option_and_then (λ x. option_map (with_action x) (actions_of_rows (rows_read (rows_for written_fields actions)))) m) (row_back a h.0.ready h.0.range h.0.bare)
    ∙ ap (option_map (with_action (Some a))) more

pub rows_fit : (actions : List Action) → AllByRecursion IsReadable actions → AllByRecursion IsKept actions → Fit written_fields (rows_for written_fields (written_of actions))
rows_fit actions readable kept = each_fits (written_of actions) (rowable actions readable kept)

pub rows_in_order : (actions : List Action) → AllByRecursion IsReadable actions → AllByRecursion IsKept actions → RowsHaveOrderedMaps written_fields (rows_for written_fields (written_of actions))
rows_in_order actions readable kept = each_in_order (written_of actions) (rowable actions readable kept)

pub rows_stand : (actions : List Action) → AllByRecursion IsReadable actions → AllByRecursion IsKept actions → objects_in written_fields (rows_for written_fields (written_of actions)) ≡ map object_of (written_of actions)
rows_stand actions readable kept = each_stands (written_of actions) (rowable actions readable kept)

pub rows_back : (actions : List Action) → AllByRecursion IsReadable actions → AllByRecursion IsKept actions → actions_of_rows (rows_read (rows_for written_fields (written_of actions))) ≡ Some (written_of actions)
rows_back actions readable kept = each_back (written_of actions) (rowable actions readable kept)

-- ---- the rows of a list, one after another

abbrev pub written_row : Action → Datum
written_row a = row_for written_fields a

pub row_more : (front now : List Datum) (a : Action) (rest : List Action) → now ≡ front ++ option_to_list (row_if a) → now ++ map written_row (written_of rest) ≡ front ++ map written_row (written_of (a ∷ rest))
row_more front now a rest is = ap (λ rows. rows ++ map written_row (written_of rest)) is ∙ by_written (is_written a)
  where
    by_written : (b : Bool) → (front ++ option_to_list (if b then Some (written_row a) else None)) ++ map written_row (written_of rest) ≡ front ++ map written_row (cond b (a ∷ written_of rest) (written_of rest))
    by_written true = append_assoc front (written_row a ∷ []) (map written_row (written_of rest))
    by_written false = append_assoc front [] (map written_row (written_of rest))

pub rows_whole : (front : List Datum) (rest actions : List Action) → rest ≡ [] → front ++ map written_row (written_of rest) ≡ map written_row (written_of actions) → cells_of_list front ≡ rows_for written_fields (written_of actions)
rows_whole front rest actions none h = ap cells_of_list (sym (ap (λ left. front ++ map written_row (written_of left)) none ∙ append-nil front) ∙ h)
