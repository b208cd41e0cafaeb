use Rattle.std.proofs.Common.{rules, ◌≡◌, ◌<◌, ◌^◌, sym, subst}
use Rattle.std.specs.Prelude.{Option, IfSome, ℕ}
use Rattle.dk_listing.specs.Newest.{later, newest_commit, newest_checkpoint, newest_ratified}
use Rattle.dk_listing.specs.Latest.{latest_of}
use Rattle.dk_listing.proofs.Small.{later_small, newest_commit-small, newest_checkpoint-small, newest_ratified-small}
use Rattle.dk_listing.proofs.catalogued.Catalogued.latest.Goals as goal

pub returns-clause-small : goal.returns-clause-small
returns-clause-small c =
    let is : c.later-2.result ≡ latest_of c.args.self.now = search rules in
    let log = c.args.self.now.log.items in
    subst (λ (found : Option ℕ). IfSome found (λ v. v < 2 ^ 63)) (sym is)
    (later_small (2 ^ 63) (later (newest_commit log) (newest_checkpoint log)) (newest_ratified c.args.self.now.ratified.items)
    (later_small (2 ^ 63) (newest_commit log) (newest_checkpoint log) (newest_commit-small (2 ^ 63) log c.args.self.now.names_small) (newest_checkpoint-small (2 ^ 63) log c.args.self.now.names_small))
    (newest_ratified-small (2 ^ 63) c.args.self.now.ratified.items c.args.self.now.ratified_small))
