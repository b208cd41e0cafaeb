use Rattle.dk_ckread.proofs.ParquetExample.{in_one_object_is_lawful, in_parts_is_lawful, parts_are_used, with_sidecar_is_lawful, top_in_parquet_is_lawful}
use Rattle.dk_ckread.proofs.SidecarExample.{sidecar_gone_is_lawful}
use Rattle.dk_ckread.proofs.laws.checkpoints_in_parquet_come.Goals as goal

pub returns-clause-in_one_object : goal.returns-clause-in_one_object
returns-clause-in_one_object c = in_one_object_is_lawful

pub returns-clause-in_parts : goal.returns-clause-in_parts
returns-clause-in_parts c = in_parts_is_lawful

pub returns-clause-parts_in_use : goal.returns-clause-parts_in_use
returns-clause-parts_in_use c = parts_are_used

pub returns-clause-with_sidecar : goal.returns-clause-with_sidecar
returns-clause-with_sidecar c = with_sidecar_is_lawful

pub returns-clause-sidecar_gone : goal.returns-clause-sidecar_gone
returns-clause-sidecar_gone c = sidecar_gone_is_lawful

pub returns-clause-top_in_parquet : goal.returns-clause-top_in_parquet
returns-clause-top_in_parquet c = top_in_parquet_is_lawful
