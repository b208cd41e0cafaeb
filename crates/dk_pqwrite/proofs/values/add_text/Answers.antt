use Rattle.std.proofs.lemmas.Result.{on_ok_weaker}
use Rattle.std.proofs.lemmas.Str.{is_utf8-from_IsUtf8}
use Rattle.dk_pqwrite.proofs.AddingPlain.{adds_text}
use Rattle.dk_pqwrite.proofs.values.add_text.Goals as goal

pub returns : goal.returns
returns c =
    on_ok_weaker c.add_sized.result (λ e. adds_text c.args.text.now c.args.out.now.items c.add_sized.new.out.items c.requires (is_utf8-from_IsUtf8 c.args.text.now c.utf8.text) e)
    (rw c.as_bytes.ensures.value at c.add_sized.ensures)
