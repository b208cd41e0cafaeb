-- Tables whose commits a catalogue ratifies (Delta Lake's PROTOCOL.md, "Catalog-managed tables").
use Rattle.std.specs.Prelude.{Bool}
use Rattle.dk_model.specs.declared.state.TableState.{TableState}
use Rattle.dk_features.specs.Names.{catalog_managed}
use Rattle.dk_features.specs.InForce.{has_feature}

-- the table is managed
abbrev pub is_managed : TableState → Bool
is_managed state = has_feature state.protocol catalog_managed
