-- The objects of actions that stand in checkpoints alone (Delta Lake's PROTOCOL.md, "Checkpoint Metadata", "Sidecar File Information").
use Rattle.std.specs.Prelude.{List, [], ◌∷◌, Option, Some, codes}
use Rattle.serde_json.specs.Data.{Data}
use Rattle.dk_model.specs.declared.action.CheckpointMeta.{CheckpointMeta}
use Rattle.dk_model.specs.declared.action.SidecarRef.{SidecarRef}
use Rattle.dk_model.specs.Fields.{◌>>=◌, needed, whole, count, text}
use Rattle.dk_model.specs.Shown.{Field, text_data, whole_data, version_data}

unfoldable pub checkpoint_meta_of : Data → Option CheckpointMeta
checkpoint_meta_of d = do
  version ← needed count (codes "version") d
  Some (record { version = version })

unfoldable pub checkpoint_meta_fields : CheckpointMeta → List Field
checkpoint_meta_fields m = (codes "version", Some (version_data m.version)) ∷ []

unfoldable pub sidecar_of : Data → Option SidecarRef
sidecar_of d = do
  path ← needed text (codes "path") d
  size ← needed whole (codes "sizeInBytes") d
  stamp ← needed whole (codes "modificationTime") d
  Some (record { path = path; size = size; stamp = stamp })

unfoldable pub sidecar_fields : SidecarRef → List Field
sidecar_fields r =
    (codes "modificationTime", Some (whole_data r.stamp))
    ∷ (codes "path", Some (text_data r.path))
    ∷ (codes "sizeInBytes", Some (whole_data r.size))
    ∷ []
