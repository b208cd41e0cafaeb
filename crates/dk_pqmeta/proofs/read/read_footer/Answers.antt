use Rattle.std.proofs.Common.{sym, subst, ◌∙◌}
use Rattle.dk_pqmodel.specs.FooterBytes.{SpellsFooter}
use Rattle.dk_pqmeta.specs.View.{footer_view}
use Rattle.dk_pqmeta.proofs.Footers.{footer_found, footer_only}
use Rattle.dk_pqmeta.proofs.Framing.{framed_once}
use Rattle.dk_pqmeta.proofs.Trees.{none_is_not_some}
use Rattle.dk_pqmeta.proofs.read.read_footer.Goals as goal

pub returns-in-Ok : goal.returns-in-Ok
returns-in-Ok c =
    let part = c.in-Some.part.now in
    let framed = c.in-Some.ensures in
    (framed.0, part, framed.1, footer_found part (footer_view c.in-Ok.footer) c.in-Ok.ensures)

pub returns-in-Err-Broken : goal.returns-in-Err-Broken
returns-in-Err-Broken c =
    let part = c.in-Some.part.now in
    let framed = c.in-Some.ensures in
    let broken = rw c.in-Err-Broken.field-0-is at c.in-Err-Broken.ensures in (
      (framed.0, part, framed.1),
      λ footer has.
          let same = framed_once c.args.bytes.now has.0 has.1 framed.0 part has.2 framed.1 in
          none_is_not_some footer (sym broken ∙ footer_only part footer (subst (λ b. SpellsFooter b footer) same has.3)),
    )
