use Rattle.std.proofs.Common.{ap, ◌∙◌}
use Rattle.dk_compact.specs.Keyed.{put_text, lent}
use Rattle.dk_compact.proofs.LentEntries.{lent_put}
use Rattle.dk_compact.proofs.latest.Latest.set.Goals as goal

pub returns : goal.returns
returns c =
    ap lent c.in_ok-insert.ensures.entries ∙ lent_put c.self.inside.tree.entries c.args.key c.args.action
    ∙ ap (λ es. put_text es c.args.key.now c.args.action.now) c.self.view_is
