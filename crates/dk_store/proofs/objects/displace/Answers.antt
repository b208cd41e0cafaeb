use Rattle.dk_store.proofs.Maps.{placed_map-remove}
use Rattle.dk_store.proofs.objects.displace.Goals as goal

pub returns : goal.returns
returns c = placed_map-remove c.args.path.now c.args.objects.now c.remove.new.self c.remove.ensures.updates
