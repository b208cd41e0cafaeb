-- Each is computed.
use Rattle.dk_lawful.proofs.ActorExample as at_work
use Rattle.dk_lawful.proofs.actor_laws.actors_at_work.Goals as goal

pub returns-clause-fit : goal.returns-clause-fit
returns-clause-fit c = at_work.both_fit

pub returns-clause-lawful : goal.returns-clause-lawful
returns-clause-lawful c = at_work.signed_twice_is_lawful

pub returns-clause-not_once : goal.returns-clause-not_once
returns-clause-not_once c = at_work.signed_twice_is_not_once

pub returns-clause-adds_again : goal.returns-clause-adds_again
returns-clause-adds_again c = at_work.adds_again

pub returns-clause-adds_one : goal.returns-clause-adds_one
returns-clause-adds_one c = at_work.adds_one

pub returns-clause-own_lawful : goal.returns-clause-own_lawful
returns-clause-own_lawful c = at_work.own_is_lawful

pub returns-clause-own_fits : goal.returns-clause-own_fits
returns-clause-own_fits c = at_work.own_fits_there
