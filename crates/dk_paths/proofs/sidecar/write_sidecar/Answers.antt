-- The name of a UUID's sidecar is the name of a sidecar.
use Rattle.dk_paths.proofs.SidecarNames.{is_sidecar_name-sidecar_name}
use Rattle.dk_paths.proofs.sidecar.write_sidecar.Goals as goal

pub returns-clause-sidecar : goal.returns-clause-sidecar
returns-clause-sidecar c = is_sidecar_name-sidecar_name c.args.id
