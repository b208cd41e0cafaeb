-- The object of a protocol (Delta Lake's PROTOCOL.md, "Protocol Evolution").
use Rattle.std.specs.Prelude.{List, [], ◌∷◌, Option, Some, option_map, codes}
use Rattle.serde_json.specs.Data.{Data}
use Rattle.dk_model.specs.declared.action.Protocol.{Protocol}
use Rattle.dk_model.specs.Fields.{◌>>=◌, needed, optional, version, names}
use Rattle.dk_model.specs.Shown.{Field, version_data, names_data}

unfoldable pub protocol_of : Data → Option Protocol
protocol_of d = do
  reader ← needed version (codes "minReaderVersion") d
  writer ← needed version (codes "minWriterVersion") d
  readers ← optional names (codes "readerFeatures") d
  writers ← optional names (codes "writerFeatures") d
  Some (record { min_reader = reader; min_writer = writer; reader_features = readers; writer_features = writers })

unfoldable pub protocol_fields : Protocol → List Field
protocol_fields p =
    (codes "minReaderVersion", Some (version_data p.min_reader))
    ∷ (codes "minWriterVersion", Some (version_data p.min_writer))
    ∷ (codes "readerFeatures", option_map names_data p.reader_features)
    ∷ (codes "writerFeatures", option_map names_data p.writer_features)
    ∷ []
