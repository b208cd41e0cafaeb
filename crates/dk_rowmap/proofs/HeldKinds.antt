-- The group of each kind of action has just the keys of its table of fields, and holds them.
use Rattle.std.proofs.Common.{ℕ, List, Some, codes, refl, sym, ap, subst}
use Rattle.std.specs.Prelude.{IfSome}
use Rattle.serde_json.specs.Data.{no_members, put, object}
use Rattle.dk_pqmodel.specs.Shape.{leaf, chars, Field, Fields}
use Rattle.dk_pqmodel.specs.Shape as shape
use Rattle.dk_pqmodel.specs.Datum.{group, no_cells, one_cell}
use Rattle.dk_model.specs.Pairs.{AreKeysRising}
use Rattle.dk_model.specs.Ranges.{IsProtocolInRange}
use Rattle.dk_model.specs.Shown.{text_data, whole_data, names_data, pairs_data, object_with}
use Rattle.dk_model.specs.declared.action.Protocol.{Protocol}
use Rattle.dk_model.specs.declared.action.Metadata.{Metadata}
use Rattle.dk_model.specs.declared.action.AddFile.{AddFile}
use Rattle.dk_model.specs.declared.action.RemoveFile.{RemoveFile}
use Rattle.dk_model.specs.declared.action.Txn.{Txn}
use Rattle.dk_model.specs.declared.action.Domain.{Domain}
use Rattle.dk_model.specs.declared.action.CheckpointMeta.{CheckpointMeta}
use Rattle.dk_model.specs.declared.action.SidecarRef.{SidecarRef}
use Rattle.dk_model.specs.ProtocolObject.{protocol_fields}
use Rattle.dk_model.specs.MetadataObject.{format_fields, metadata_fields}
use Rattle.dk_model.specs.AddObject.{add_fields}
use Rattle.dk_model.specs.RemoveObject.{remove_fields}
use Rattle.dk_model.specs.TxnObject.{txn_fields}
use Rattle.dk_model.specs.DomainObject.{domain_fields}
use Rattle.dk_model.specs.CheckpointObjects.{checkpoint_meta_fields, sidecar_fields}
use Rattle.dk_model.proofs.FormsBack.{pairs_back}
use Rattle.dk_lawful.specs.CheckpointSchema.{nullable_field, fields, txn_group, add_group, remove_group, format_group, metadata_group, protocol_group, domain_group, checkpoint_group, sidecar_group}
use Rattle.dk_rowmap.specs.ActionRows.{Table, held, text_cell, pairs_cell}
use Rattle.dk_rowmap.proofs.FieldOrders.{IsOrderOf}
use Rattle.dk_rowmap.proofs.HeldFields.{Holds, IsHeld, AllHeld, ordered, held_if, any_held, text_held, flag_held, whole_held, count_held, version_held, names_held, pairs_held, pairs_are_held}

-- the fields are those of the table, and each is held
pub record HasFields (fs : Fields) (table : Table) : Type 0 where
  pub order : IsOrderOf (ordered fs table) table
  pub held : AllHeld table fs

pub txn_has : (t : Txn) → HasFields (fields txn_group) (txn_fields t)
unfolding txn_group txn_fields
txn_has t = record {
  order = (refl, (refl, (refl, (refl, (refl, (refl, refl))))));
  held = (text_held _ _, (whole_held _ _, (any_held _ _ whole_data t.last_updated (whole_held _), tt)));
}

pub add_has : (f : AddFile) → AreKeysRising f.partition_values → IfSome f.tags AreKeysRising → HasFields (fields add_group) (add_fields f)
unfolding add_group add_fields
add_has f values tags = record {
  order = (refl, (refl, (refl, (refl, (refl, (refl, (refl, (refl, (refl, (refl, (refl, (refl, (refl, (refl, (refl, (refl, (refl, (refl, (refl, (refl, refl))))))))))))))))))));
  held = (
    text_held _ _,
    (
      pairs_held _ _ values,
      (
        whole_held _ _,
        (
          whole_held _ _,
          (
            flag_held _ _,
            (
              any_held _ _ text_data f.stats (text_held _),
              (
                held_if _ _ pairs_data AreKeysRising f.tags tags (pairs_held _),
                (any_held _ _ whole_data f.base_row_id (whole_held _), (any_held _ _ whole_data f.default_row_commit_version (whole_held _), (any_held _ _ text_data f.clustering_provider (text_held _), tt))),
              ),
            ),
          ),
        ),
      ),
    ),
  );
}

pub remove_has : (r : RemoveFile) → HasFields (fields remove_group) (remove_fields r)
unfolding remove_group remove_fields
remove_has r = record { order = (refl, (refl, (refl, (refl, (refl, (refl, refl)))))); held = (text_held _ _, (whole_held _ _, (flag_held _ _, tt))) }

-- a format is an object with both its fields
format_held : (k : List ℕ) (m : Metadata) → AreKeysRising m.options → IsHeld (nullable_field k (shape.group (fields format_group))) (Some (object_with (format_fields m)))
unfolding format_group format_fields object_with
format_held k m rising =
    let options = pairs_are_held (codes "options") m.options rising in
    let f = nullable_field k (shape.group (fields format_group)) in
    subst (λ c. Holds f (group (one_cell (text_cell m.provider) (one_cell c no_cells))) (Some (object_with (format_fields m)))) (sym (ap (held pairs_cell) (pairs_back m.options rising)))
    (record { fits = (refl, (options.fits, tt)); shows = λ ms. ap (λ es. put k (object (put (codes "provider") (text_data m.provider) es)) ms) (options.shows no_members); in_order = (tt, (options.in_order, tt)) })

pub metadata_has : (m : Metadata) → AreKeysRising m.options → AreKeysRising m.configuration → HasFields (fields metadata_group) (metadata_fields m)
unfolding metadata_group metadata_fields
metadata_has m options configuration = record {
  order = (refl, (refl, (refl, (refl, (refl, (refl, (refl, (refl, (refl, (refl, (refl, (refl, (refl, (refl, (refl, (refl, refl))))))))))))))));
  held = (
    text_held _ _,
    (
      any_held _ _ text_data m.name (text_held _),
      (
        any_held _ _ text_data m.description (text_held _),
        (
          format_held _ m options,
          (text_held _ _, (names_held _ _, (pairs_held _ _ configuration, (any_held _ _ whole_data m.created_time (whole_held _), tt)))),
        ),
      ),
    ),
  );
}

pub protocol_has : (p : Protocol) → IsProtocolInRange p → HasFields (fields protocol_group) (protocol_fields p)
unfolding protocol_group protocol_fields
protocol_has p range = record {
  order = (refl, (refl, (refl, (refl, (refl, (refl, (refl, (refl, refl))))))));
  held = (version_held _ _ range.reader, (version_held _ _ range.writer, (any_held _ _ names_data p.reader_features (names_held _), (any_held _ _ names_data p.writer_features (names_held _), tt))));
}

pub domain_has : (d : Domain) → HasFields (fields domain_group) (domain_fields d)
unfolding domain_group domain_fields
domain_has d = record { order = (refl, (refl, (refl, (refl, (refl, (refl, refl)))))); held = (text_held _ _, (text_held _ _, (flag_held _ _, tt))) }

pub checkpoint_has : (m : CheckpointMeta) → HasFields (fields checkpoint_group) (checkpoint_meta_fields m)
unfolding checkpoint_group checkpoint_meta_fields
checkpoint_has m = record { order = (refl, (refl, refl)); held = (count_held _ _, tt) }

pub sidecar_has : (r : SidecarRef) → HasFields (fields sidecar_group) (sidecar_fields r)
unfolding sidecar_group sidecar_fields
sidecar_has r = record { order = (refl, (refl, (refl, (refl, (refl, (refl, refl)))))); held = (text_held _ _, (whole_held _ _, (whole_held _ _, tt))) }
