use Rattle.std.proofs.Common.{◌++◌, subst}
use Rattle.dk_model.specs.Shown.{names_data}
use Rattle.dk_actjson.specs.Tokens.{HasTokens, tokens_of}
use Rattle.dk_actjson.proofs.Tokens.{closed_names}
use Rattle.dk_actjson.proofs.shown.NamesShown.write.Goals as goal

pub returns : goal.returns
returns c =
    let w0 = c.args.writer.now in
    let w3 = c.close_array.new.writer in
    subst (λ ns. HasTokens w0 (w0.tokens ++ tokens_of (names_data ns)) w3) c.as_slice.ensures
    (closed_names w0 c.open_array.new.writer c.write_names.new.writer w3 c.as_slice.result.now c.in_ok-open_array.ensures c.in_ok-write_names.ensures c.in_ok-close_array.ensures)
