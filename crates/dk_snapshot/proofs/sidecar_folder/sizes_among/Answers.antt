use Rattle.std.proofs.Common.{map}
use Rattle.dk_store.specs.Views.{listed}
use Rattle.dk_listing.specs.Sizes.{size_of_name}
use Rattle.dk_snapshot.specs.Sizes.{size_under}
use Rattle.dk_snapshot.proofs.Sidecars.{sizes_named, sizes_stored}
use Rattle.dk_snapshot.proofs.sidecar_folder.sizes_among.Goals as goal

pub returns-clause-found : goal.returns-clause-found
returns-clause-found c = sizes_named (size_under c.in_ok-sizes.sizes) (size_of_name (map listed c.args.entries.now)) c.args.names.now c.sizes_under.result c.in_ok-sizes.ensures c.sizes_under.ensures

pub returns-clause-stored : goal.returns-clause-stored
returns-clause-stored c = sizes_stored (map listed c.args.entries.now) c.args.names.now c.sizes_under.result (returns-clause-found c)
