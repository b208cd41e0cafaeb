use Rattle.std.proofs.Common.{◌≡◌, drop}
use Rattle.std.specs.List.{list_all}
use Rattle.dk_features.specs.Forms.{asks_writers_alone}
use Rattle.dk_features.proofs.forms.all_ask_writers_alone.Given as goal

abbrev pub invariant-names : goal.invariant-names
invariant-names l = list_all asks_writers_alone (drop l.name-index l.names) ≡ list_all asks_writers_alone l.names
