use Rattle.std.proofs.Common.{◌≡◌, drop, map}
use Rattle.dk_pqmeta.specs.View.{group_view}
use Rattle.dk_pqread.specs.PlanView.{path_of}
use Rattle.dk_pqmodel.specs.Scans.{codec_in}
use Rattle.dk_pqread.proofs.scan.codec_in.Given as goal

abbrev pub invariant-loop-group : goal.invariant-loop-group
invariant-loop-group l = codec_in (path_of l.path.items) (map group_view (drop l.group-index l.groups)) ≡ codec_in (path_of l.path.items) (map group_view l.groups)
