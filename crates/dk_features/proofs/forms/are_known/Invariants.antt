use Rattle.std.proofs.Common.{◌≡◌, drop}
use Rattle.std.specs.Prelude.{◌||◌}
use Rattle.std.specs.List.{list_all}
use Rattle.dk_features.specs.Forms.{asks_writers_alone}
use Rattle.dk_model.specs.NameSets.{has_name}
use Rattle.dk_features.proofs.forms.are_known.Given as goal

abbrev pub invariant-list : goal.invariant-list
invariant-list l =
    list_all (λ name. asks_writers_alone name || has_name l.names name) (drop l.name-index l.list) ≡ list_all (λ name. asks_writers_alone name || has_name l.names name) l.list
