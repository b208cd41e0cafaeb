use Rattle.std.proofs.Common.{◌≡◌, drop}
use Rattle.std.specs.List.{list_all}
use Rattle.dk_model.specs.NameSets.{has_name}
use Rattle.dk_features.proofs.forms.are_among.Given as goal

abbrev pub invariant-list : goal.invariant-list
invariant-list l = list_all (has_name l.names) (drop l.name-index l.list) ≡ list_all (has_name l.names) l.list
