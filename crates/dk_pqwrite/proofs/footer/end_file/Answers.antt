use Rattle.std.proofs.Common.{rules, ◌≡◌, ◌+◌, ◌≤◌, length, subst, sym}
use Rattle.dk_pqmodel.specs.FooterBytes.{SpellsFooter}
use Rattle.dk_pqmodel.specs.SchemaView.{fields_in}
use Rattle.dk_pqwrite.specs.Footers.{file_said, footer_of, footer_size}
use Rattle.dk_pqwrite.specs.Said.{SpellsFileSaid}
use Rattle.dk_pqwrite.proofs.WholeFooters.{file_ended, file_size}
use Rattle.dk_pqwrite.proofs.footer.end_file.Goals as goal

pub returns : goal.returns
returns c =
    let footer = footer_of (fields_in c.args.schema.now) c.args.group.now in
    let said = file_said (fields_in c.args.schema.now) c.args.group.now in
    let part = c.deref.result.now in
    let begun = c.requires.begun in
    let same : part ≡ c.in_ok-footer.footer.items = search rules in
    let most = footer_size (fields_in c.args.schema.now) c.args.group.now.chunks.items in
    record {
      ended = file_ended footer said c.args.bytes.now.items part c.close.new.bytes.items begun.0 (subst (λ bytes. SpellsFooter bytes footer) (sym same) c.in_ok-footer.ensures.spelled) (subst (λ bytes. SpellsFileSaid bytes said) (sym same) c.in_ok-footer.ensures.says) begun.1
          c.in_ok-close.ensures.small c.in_ok-close.ensures.closed;
      size = file_size c.args.bytes.now.items part c.close.new.bytes.items most c.in_ok-close.ensures.closed (subst (λ bytes. length bytes ≤ 70 + most) (sym same) c.in_ok-footer.ensures.size);
    }
