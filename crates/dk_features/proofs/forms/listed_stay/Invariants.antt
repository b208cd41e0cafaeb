use Rattle.std.proofs.Common.{◌≡◌, drop}
use Rattle.std.specs.List.{list_all}
use Rattle.dk_features.specs.Forms.{stays_in_force}
use Rattle.dk_features.proofs.forms.listed_stay.Given as goal

abbrev pub invariant-names : goal.invariant-names
invariant-names l =
    list_all (stays_in_force l.before.protocol.now l.after.protocol.now) (drop l.name-index l.names)
    ≡ list_all (stays_in_force l.before.protocol.now l.after.protocol.now) l.names
