use Rattle.std.proofs.Common.{arith, rules, map}
use Rattle.dk_features.specs.InForce.{implied}
use Rattle.dk_features.specs.Forms.{stays_in_force}
use Rattle.dk_features.proofs.Places.{passed_on}
use Rattle.dk_features.proofs.forms.implied_stay.Goals as goal

pub places-preserved : goal.places-preserved
places-preserved c =
    passed_on (stays_in_force c.args.before.now.protocol.now c.args.after.now.protocol.now) (map (λ feature. feature.0) implied) c.places.place c.implied_name.result.now _ (omega arith) c.implied_name.ensures (search rules)
    c.places.invariant
