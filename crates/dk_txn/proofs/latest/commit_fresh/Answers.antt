use Rattle.std.proofs.Common.{refl}
use Rattle.dk_txn.proofs.AtLatest.{at_moment, begun_commits, begun_comes, begun_says}
use Rattle.dk_txn.proofs.latest.commit_fresh.Goals as goal

pub returns-clause-commits : goal.returns-clause-commits
returns-clause-commits g c =
    begun_commits c.args.options.limits c.args.options.now _ c.args.fresh.now c.args.fresh.now.actions.items c.args.fresh.now.id refl refl refl _ _ c.commit_with_retry.result c.requires c.commit_with_retry.ensures.commits

pub returns-clause-concludes : goal.returns-clause-concludes
returns-clause-concludes g c = at_moment c.args.options.limits c.args.options.now _ c.args.fresh.now _ _ c.commit_with_retry.result refl c.commit_with_retry.ensures.commits

pub returns-clause-lawful : goal.returns-clause-lawful
returns-clause-lawful g c = λ begun.
    c.commit_with_retry.ensures.lawful (begun_comes c.args.options.limits c.args.options.now _ c.args.fresh.now c.args.fresh.now.actions.items c.args.fresh.now.id refl refl refl _ c.requires begun)

pub returns-clause-history : goal.returns-clause-history
returns-clause-history g c = λ begun.
    begun_says c.args.options.limits c.args.options.now _ c.args.fresh.now c.args.fresh.now.actions.items c.args.fresh.now.id refl refl refl _ _ c.commit_with_retry.result c.requires begun c.commit_with_retry.ensures.commits
    (c.commit_with_retry.ensures.history (begun_comes c.args.options.limits c.args.options.now _ c.args.fresh.now c.args.fresh.now.actions.items c.args.fresh.now.id refl refl refl _ c.requires begun))
