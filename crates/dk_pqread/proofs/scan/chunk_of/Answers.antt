use Rattle.std.proofs.Common.{ap, ◌∙◌}
use Rattle.std.specs.Option.{option_map}
use Rattle.dk_pqmeta.specs.View.{chunk_view}
use Rattle.dk_pqread.proofs.Chunks.{chunk_found, viewed}
use Rattle.dk_pqread.proofs.scan.chunk_of.Goals as goal

pub returns : goal.returns
returns c = viewed c.get.result ∙ ap (option_map chunk_view) c.get.ensures.value ∙ chunk_found c.args.path.now c.args.group.now.columns.entries
