-- What a transaction would have of its own, as sets of names.
use Rattle.std.specs.Prelude.{◌≡◌, List}
use Rattle.std.specs.List.{list_any}
use Rattle.dk_model.specs.NameSets.{HasNames}
use Rattle.dk_model.specs.declared.action.Action.{Action}
use Rattle.dk_conflicts.specs.declared.topic.Topic.TheVariants as topic
use Rattle.dk_conflicts.specs.declared.reads.Reads.{Reads}
use Rattle.dk_conflicts.specs.declared.claims.Claims.{Claims}
use Rattle.dk_conflicts.specs.Conflicts.{files_read, is_protocol, is_table, names_in}

-- the claims are those of what was read and of the own commit
pub record AreClaims (claims : Claims) (read : Reads) (own : List Action) : Type 0 where
  pub protocol : claims.has_protocol ≡ list_any is_protocol own
  pub table : claims.reads_table ≡ is_table read
  pub files : HasNames claims.files (files_read read)
  pub applications : HasNames claims.applications (names_in topic.Application own)
  pub domains : HasNames claims.domains (names_in topic.Domain own)
  pub removed : HasNames claims.removed (names_in topic.Removed own)
