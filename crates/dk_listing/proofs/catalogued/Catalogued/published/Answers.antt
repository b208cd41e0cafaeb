use Rattle.std.proofs.Common.{◌≡◌, ◌<◌, ◌^◌, sym, subst, ap, ◌∙◌}
use Rattle.std.specs.Prelude.{Option, IfSome, ℕ}
use Rattle.dk_listing.specs.Newest.{newest_commit}
use Rattle.dk_listing.proofs.Small.{newest_commit-small}
use Rattle.dk_listing.proofs.catalogued.Catalogued.published.Goals as goal

pub returns-clause-small : goal.returns-clause-small
returns-clause-small c =
    let is : c.newest_commit.result ≡ newest_commit c.args.self.now.log.items = c.newest_commit.ensures ∙ ap newest_commit c.deref.ensures.value in
    subst (λ (found : Option ℕ). IfSome found (λ v. v < 2 ^ 63)) (sym is) (newest_commit-small (2 ^ 63) c.args.self.now.log.items c.args.self.now.names_small)
