use Rattle.std.proofs.Common.{◌∙◌, sym, ap}
use Rattle.std.specs.Option.{option_copied}
use Rattle.dk_store.proofs.Newest.{content-absent, content-present}
use Rattle.dk_store.proofs.objects.bytes_at.Goals as goal

pub returns-in_err-newest_about : goal.returns-in_err-newest_about
returns-in_err-newest_about c =
    ap option_copied c.from_residual.ensures ∙ sym (content-absent c.args.events.now c.args.path.now (sym c.newest_about.ensures ∙ ap option_copied (c.in_err-newest_about.was)))

pub returns : goal.returns
returns c =
    c.bytes_of.ensures ∙ sym (content-present c.args.events.now c.args.path.now c.in_ok-newest_about.field-0.now (sym c.newest_about.ensures ∙ ap option_copied (c.in_ok-newest_about.was)))
