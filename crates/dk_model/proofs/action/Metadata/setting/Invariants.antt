use Rattle.std.proofs.Common.{◌≡◌, drop}
use Rattle.dk_model.specs.Settings.{setting_in}
use Rattle.dk_model.proofs.action.Metadata.setting.Given as goal

abbrev pub invariant-settings : goal.invariant-settings
invariant-settings l = setting_in l.key (drop l.pair-index l.pair-items) ≡ setting_in l.key l.pair-items
