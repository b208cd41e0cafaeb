-- The names of the kinds of conflict, as answers write them.
use Rattle.std.specs.Prelude.{ℕ, List, codes}
use Rattle.dk_model.specs.declared.kind.Kind.{Kind}
use Rattle.dk_model.specs.declared.kind.Kind.TheVariants as kind

abbrev pub kind_name : Kind → List ℕ
kind_name kind.ProtocolChanged = codes "ProtocolChanged"
kind_name kind.MetadataChanged = codes "MetadataChanged"
kind_name kind.ConcurrentTransaction = codes "ConcurrentTransaction"
kind_name kind.DomainChanged = codes "DomainChanged"
kind_name kind.ConcurrentAppend = codes "ConcurrentAppend"
kind_name kind.ConcurrentDeleteRead = codes "ConcurrentDeleteRead"
kind_name kind.ConcurrentDeleteDelete = codes "ConcurrentDeleteDelete"
