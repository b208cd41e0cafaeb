use Rattle.std.proofs.Common.{rules, nat_lt}
use Rattle.std.proofs.lemmas.Map.Made.{filter_same_pairs}
use Rattle.dk_store.proofs.standings.forget.Goals as goal

pub returns : goal.returns
returns c = filter_same_pairs _ (λ e. nat_lt c.args.upto e.0) _ (λ k v b w f' t. search rules) _ _ c.retain.ensures.filtered
