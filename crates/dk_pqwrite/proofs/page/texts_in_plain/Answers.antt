use Rattle.std.proofs.Common.{[], arith}
use Rattle.dk_pqwrite.proofs.BuildingPages.{short_at, text_more}
use Rattle.dk_pqwrite.proofs.page.texts_in_plain.Goals as goal

pub add_text-requires : goal.add_text-requires
add_text-requires c = omega (arith, short_at c.args.texts.now c.loop-text.text-index (record { ref_ptr = (0, 0); now = [] }) (omega arith), c.requires)

pub loop-text-preserved : goal.loop-text-preserved
loop-text-preserved c =
    text_more c.args.texts.now c.loop-text.text-index (record { ref_ptr = (0, 0); now = [] }) [] c.loop-text.out.items c.add_text.new.out.items (omega arith) c.loop-text.invariant c.in_ok-add_text.ensures
