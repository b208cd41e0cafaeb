use Rattle.std.proofs.Common.{true, false, refl, sym, ap, ◌∙◌}
use Rattle.std.specs.List.{list_all}
use Rattle.dk_features.specs.Forms.{stays_in_force}
use Rattle.dk_features.proofs.StayInForce.{keeps_is}
use Rattle.dk_features.proofs.forms.keeps_features.Goals as goal

pub returns-then-not-implied_stay : goal.returns-then-not-implied_stay
returns-then-not-implied_stay c =
    keeps_is c.args.before.now c.args.after.now c.in_ok-earlier.earlier.protocol.now c.in_ok-later.later.protocol.now false _ c.in_ok-earlier.ensures.of c.in_ok-later.ensures.of
    (sym c.if-not-implied_stay.true ∙ c.implied_stay.ensures) refl

pub returns : goal.returns
returns c =
    keeps_is c.args.before.now c.args.after.now c.in_ok-earlier.earlier.protocol.now c.in_ok-later.later.protocol.now true c.listed_stay.result c.in_ok-earlier.ensures.of c.in_ok-later.ensures.of
    (sym c.if-not-implied_stay.false ∙ c.implied_stay.ensures) (c.listed_stay.ensures ∙ ap (list_all (stays_in_force c.in_ok-earlier.earlier.protocol.now c.in_ok-later.later.protocol.now)) c.listed.ensures)
