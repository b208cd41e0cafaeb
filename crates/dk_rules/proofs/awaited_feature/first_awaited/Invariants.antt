use Rattle.std.proofs.Common.{◌≡◌, drop}
use Rattle.std.specs.Prelude.{find}
use Rattle.dk_model.specs.NameSets.{is_one_of}
use Rattle.dk_lawful.specs.Written.{of_commits}
use Rattle.dk_rules.proofs.awaited_feature.first_awaited.Given as goal

abbrev pub invariant-names : goal.invariant-names
invariant-names l = find (is_one_of of_commits) (drop l.name-index l.names) ≡ find (is_one_of of_commits) l.names
