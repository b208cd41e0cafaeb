use Rattle.std.proofs.Common.{rules, ◌≡◌, ◌+◌, ◌≤◌, length, subst}
use Rattle.dk_pqmodel.specs.SchemaView.{fields_in}
use Rattle.dk_pqmodel.specs.NodeView.{fields_of}
use Rattle.dk_pqwrite.specs.Footers.{SpellsFileFields, footer_size}
use Rattle.dk_pqwrite.proofs.WholeFooters.{footer_spelled}
use Rattle.dk_pqwrite.proofs.footer.write_footer.Goals as goal

pub returns : goal.returns
returns c =
    let schema = c.args.schema.now in
    let group = c.args.group.now in
    let bytes = c.in_ok-footer.footer.items in
    let nodes : c.deref.result.now ≡ schema.nodes.items = search rules in
    record {
      spelled = footer_spelled (fields_in schema) group bytes schema.is_schema c.requires.fit.chunks c.requires.columns
          (subst (λ ns. SpellsFileFields (fields_of ns) group bytes) nodes c.in_ok-footer.ensures.spelled);
      says = (subst (λ ns. SpellsFileFields (fields_of ns) group bytes) nodes c.in_ok-footer.ensures.spelled).spelled;
      size = subst (λ ns. length bytes ≤ 70 + footer_size (fields_of ns) group.chunks.items) nodes c.in_ok-footer.ensures.size;
    }
