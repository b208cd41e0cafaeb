use Rattle.std.proofs.Common.{ap, ◌∙◌}
use Rattle.dk_listing.specs.Newest.{newest_by, checkpoint_version}
use Rattle.dk_listing.proofs.CompleteNames.{newest_complete}
use Rattle.dk_listing.proofs.catalogued.Catalogued.newest_checkpoint.Goals as goal

pub returns : goal.returns
returns c =
    c.newest_named.ensures ∙ ap (newest_by checkpoint_version) c.complete_checkpoints.ensures ∙ newest_complete c.args.self.now.log.items
