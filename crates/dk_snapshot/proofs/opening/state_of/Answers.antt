use Rattle.dk_snapshot.proofs.Effects.{opened_is_complete}
use Rattle.dk_snapshot.proofs.opening.state_of.Goals as goal

pub returns-in-Ok-clause-complete : goal.returns-in-Ok-clause-complete
returns-in-Ok-clause-complete c = opened_is_complete c.args.oldest.now c.in_ok-state.state _ c.in-Ok.cut c.in_ok-state.ensures.kept c.in-Ok.ensures.means
