-- The laws are lemmas.
use Rattle.dk_lawful.proofs.StayFit as fit
use Rattle.dk_lawful.proofs.actor_laws.others_stay_fit.Goals as goal

pub returns-clause-transactions : goal.returns-clause-transactions
returns-clause-transactions c = fit.transactions_stay_fit

pub returns-clause-jobs : goal.returns-clause-jobs
returns-clause-jobs c = fit.jobs_stay_fit

pub returns-clause-all : goal.returns-clause-all
returns-clause-all c = fit.others_stay_fit

pub returns-clause-horizon : goal.returns-clause-horizon
returns-clause-horizon c = fit.greater_horizon_fits

pub returns-clause-start : goal.returns-clause-start
returns-clause-start c = fit.nobody_fits

pub returns-clause-begun : goal.returns-clause-begun
returns-clause-begun c = fit.begun_fits

pub returns-clause-put : goal.returns-clause-put
returns-clause-put c = fit.put_stays_fit

pub returns-clause-with_begun : goal.returns-clause-with_begun
returns-clause-with_begun c = fit.all_fit_with_begun
