use Rattle.std.proofs.Common.{◌++◌, subst, sym}
use Rattle.dk_model.specs.Pairs.{AreKeysRising}
use Rattle.dk_model.specs.Shown.{pairs_data}
use Rattle.dk_actjson.specs.Tokens.{HasTokens, tokens_of}
use Rattle.dk_actjson.proofs.Tokens.{closed_pairs}
use Rattle.dk_actjson.proofs.shown.PairsShown.write.Goals as goal

pub returns : goal.returns
returns c =
    let w0 = c.args.writer.now in
    let w3 = c.close_object.new.writer in
    let lent = c.as_slice.result.now in
    subst (λ ps. HasTokens w0 (w0.tokens ++ tokens_of (pairs_data ps)) w3) c.as_slice.ensures.value
    (closed_pairs w0 c.open_object.new.writer c.write_pairs.new.writer w3 lent (subst AreKeysRising (sym c.as_slice.ensures.value) c.as_slice.ensures.rising) c.in_ok-open_object.ensures c.in_ok-write_pairs.ensures c.in_ok-close_object.ensures)
