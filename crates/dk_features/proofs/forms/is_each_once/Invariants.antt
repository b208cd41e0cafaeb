use Rattle.std.proofs.Common.{◌≡◌, drop}
use Rattle.dk_features.specs.Forms.{is_each_once}
use Rattle.dk_model.specs.NameSets.{has_name}
use Rattle.dk_features.proofs.Gathered.{each_new}
use Rattle.dk_features.proofs.forms.is_each_once.Given as goal

-- whether the names that are left are new tells it of all
abbrev pub invariant-list : goal.invariant-list
invariant-list l = each_new (has_name l.seen) (drop l.name-index l.list) ≡ is_each_once l.list
