use Rattle.std.proofs.Common.{ap, rules, ◌∙◌}
use Rattle.dk_txn.specs.Transactions.{reached_view, At_own, After}
use Rattle.dk_txn.specs.declared.winners.Found.{Found}
use Rattle.dk_txn.proofs.Refusals.{read_is_gone}
use Rattle.dk_txn.proofs.Preparing.{reach_refused, reach_found}
use Rattle.dk_txn.proofs.prepared.reach.Goals as goal

pub returns-in-Err-clause-means : goal.returns-in-Err-clause-means
returns-in-Err-clause-means g c =
    reach_refused c.args.limit c.args.transaction.now c.args.winners.now.first c.in_ok-state.state c.args.winners.now.steps.items c.args.winners.now.sizes.items c.deref.result.now c.as_str.result.now
    c.in_ok-state.ensures c.deref.ensures.value (c.as_str.ensures.value ∙ c.in_ok-id.ensures) _ c.in-Err.refusal c.gone.result c.gone.ensures
    (c.in-Err.ensures.means c.args.transaction.now.reads c.deref.result.now c.in_ok-claims.ensures)

pub returns-in-Ok-Own-clause-means : goal.returns-in-Ok-Own-clause-means
returns-in-Ok-Own-clause-means g c =
    reach_found c.args.limit c.args.transaction.now c.args.winners.now.first c.in_ok-state.state c.args.winners.now.steps.items c.args.winners.now.sizes.items c.deref.result.now c.as_str.result.now
    c.in_ok-state.ensures c.deref.ensures.value (c.as_str.ensures.value ∙ c.in_ok-id.ensures) _ c.read_winners.new.state c.in-Ok-Own.field-0 (At_own c.in-Ok-Own.version)
    (ap (λ (f : Found). reached_view c.read_winners.new.state f) c.in-Ok-Own.field-0-is)
    (c.in-Ok-Own.ensures.means c.args.transaction.now.reads c.deref.result.now c.in_ok-claims.ensures)

pub returns-clause-means : goal.returns-clause-means
returns-clause-means g c =
    reach_found c.args.limit c.args.transaction.now c.args.winners.now.first c.in_ok-state.state c.args.winners.now.steps.items c.args.winners.now.sizes.items c.deref.result.now c.as_str.result.now
    c.in_ok-state.ensures c.deref.ensures.value (c.as_str.ensures.value ∙ c.in_ok-id.ensures) _ c.read_winners.new.state c.in-Ok-Others.field-0 (After c.read_winners.new.state c.in-Ok-Others.conflict)
    (ap (λ (f : Found). reached_view c.read_winners.new.state f) c.in-Ok-Others.field-0-is)
    (c.in-Ok-Others.ensures.means c.args.transaction.now.reads c.deref.result.now c.in_ok-claims.ensures)

pub returns-in-Err-clause-effects : goal.returns-in-Err-clause-effects
returns-in-Err-clause-effects g c = record { reads = search rules; refusals = read_is_gone c.in-Err.refusal c.gone.result c.gone.ensures c.in-Err.ensures.refusals }
