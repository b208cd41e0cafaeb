use Rattle.std.proofs.Common.{◌≡◌, drop, map}
use Rattle.std.specs.List.{list_all}
use Rattle.dk_features.specs.InForce.{implied}
use Rattle.dk_features.specs.Forms.{stays_in_force}
use Rattle.dk_features.proofs.forms.implied_stay.Given as goal

abbrev pub invariant-places : goal.invariant-places
invariant-places l =
    list_all (stays_in_force l.before.protocol.now l.after.protocol.now) (drop l.place (map (λ feature. feature.0) implied))
    ≡ list_all (stays_in_force l.before.protocol.now l.after.protocol.now) (map (λ feature. feature.0) implied)
