use Rattle.std.proofs.Common.{◌≡◌, drop}
use Rattle.dk_model.specs.NameSets.{is_one_of}
use Rattle.dk_features.proofs.features.is_listed.Given as goal

-- whether the name stands among those that are left tells it of all
abbrev pub invariant-names : goal.invariant-names
invariant-names l = is_one_of (drop l.listed-index l.names) l.name ≡ is_one_of l.names l.name
