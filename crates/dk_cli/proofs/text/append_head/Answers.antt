use Rattle.dk_model.proofs.Contents.{heads_text}
use Rattle.std.proofs.Common.{sym}
use Rattle.dk_cli.proofs.Pieces.{head}
use Rattle.dk_cli.proofs.text.append_head.Goals as goal

pub returns : goal.returns
returns c = head c.args.state.now _ _ _ _ _ _ _ (sym (heads_text c.args.state.now)) c.in_ok-append_snapshot.ensures c.in_ok-append_if_protocol.ensures c.in_ok-append_if_metadata.ensures
