use Rattle.std.proofs.Common.{refl}
use Rattle.dk_snapshot.proofs.Effects.{read_complete}
use Rattle.dk_snapshot.proofs.Segments.{read_version, sized_read}
use Rattle.dk_snapshot.proofs.opening.read_sized.Goals as goal

pub returns-clause-means : goal.returns-clause-means
returns-clause-means g c =
    sized_read _ c.args.options.limits c.args.options.now _ c.args.sized_segment.version c.args.sized_segment.segment c.args.sized_segment.sizes.items c.deref.result.now c.read_segment-read.result c.snapshot_with.result
    refl c.deref.ensures.value c.read_segment-read.ensures.means c.snapshot_with.ensures

pub returns-clause-version : goal.returns-clause-version
returns-clause-version g c = read_version c.args.sized_segment.version c.args.sized_segment.segment c.read_segment-read.result c.snapshot_with.result c.snapshot_with.ensures

pub returns-clause-complete : goal.returns-clause-complete
returns-clause-complete g c = read_complete c.args.sized_segment.version c.args.sized_segment.segment c.read_segment-read.result c.snapshot_with.result c.read_segment-read.ensures.complete c.snapshot_with.ensures
