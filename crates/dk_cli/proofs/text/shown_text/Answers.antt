use Rattle.std.proofs.lemmas.Int.{to_z-of_z}
use mir.Syntax.{w64}
use Rattle.dk_cli.specs.Shown.{snapshot_line}
use Rattle.dk_cli.proofs.Pieces.{whole_at}
use Rattle.dk_cli.proofs.text.shown_text.Goals as goal

pub returns : goal.returns
returns c =
    whole_at c.args.state.now c.args.cut _ (snapshot_line c.args.version) _ _ _ _ (to_z-of_z w64 c.args.cut c.ranges.cut) c.new-out.ensures.items c.in_ok-append_head.ensures c.in_ok-append_paths.ensures c.in_ok-append_names.ensures
