-- The object of a file that is removed (Delta Lake's PROTOCOL.md, "Add File and Remove File").
use Rattle.std.specs.Prelude.{pos, List, [], ◌∷◌, true, Option, Some, unwrap_or, codes}
use Rattle.serde_json.specs.Data.{Data}
use Rattle.dk_model.specs.declared.action.RemoveFile.{RemoveFile}
use Rattle.dk_model.specs.Fields.{◌>>=◌, needed, optional, whole, text, flag}
use Rattle.dk_model.specs.Shown.{Field, text_data, whole_data, flag_data}

unfoldable pub remove_of : Data → Option RemoveFile
remove_of d = do
  path ← needed text (codes "path") d
  time ← optional whole (codes "deletionTimestamp") d
  change ← optional flag (codes "dataChange") d
  Some (record { path = path; deletion_timestamp = unwrap_or time (pos 0); data_change = unwrap_or change true })

unfoldable pub remove_fields : RemoveFile → List Field
remove_fields r =
    (codes "dataChange", Some (flag_data r.data_change))
    ∷ (codes "deletionTimestamp", Some (whole_data r.deletion_timestamp))
    ∷ (codes "path", Some (text_data r.path))
    ∷ []
