-- The object of a domain's settings (Delta Lake's PROTOCOL.md, "Domain Metadata").
use Rattle.std.specs.Prelude.{List, [], ◌∷◌, Option, Some, codes}
use Rattle.serde_json.specs.Data.{Data}
use Rattle.dk_model.specs.declared.action.Domain.{Domain}
use Rattle.dk_model.specs.Fields.{◌>>=◌, needed, text, flag}
use Rattle.dk_model.specs.Shown.{Field, text_data, flag_data}

unfoldable pub domain_of : Data → Option Domain
domain_of d = do
  domain ← needed text (codes "domain") d
  configuration ← needed text (codes "configuration") d
  removed ← needed flag (codes "removed") d
  Some (record { domain = domain; configuration = configuration; removed = removed })

unfoldable pub domain_fields : Domain → List Field
domain_fields d =
    (codes "configuration", Some (text_data d.configuration))
    ∷ (codes "domain", Some (text_data d.domain))
    ∷ (codes "removed", Some (flag_data d.removed))
    ∷ []
