-- Rows of checkpoints mean their actions.
use Rattle.std.proofs.Common.{refl}
use Rattle.std.specs.Prelude.{⊤}
use Rattle.dk_model.specs.CheckpointObjects.{checkpoint_meta_of, sidecar_of}
use Rattle.dk_model.specs.DomainObject.{domain_of}
use Rattle.dk_model.specs.TxnObject.{txn_of}
use Rattle.dk_lawful.specs.CheckpointSchema.{txn_group, add_group, vector_group, remove_group, format_group, metadata_group, protocol_group, domain_group, checkpoint_group, sidecar_group}
use Rattle.dk_lawful.specs.CheckpointRows.{row_means}
use Rattle.dk_lawful.specs.RowExample.{RowsMean}
use Rattle.dk_lawful.proofs.OnTexts.{commits_on_literals}

unfoldable rows_on_literals : ⊤
unfolding commits_on_literals txn_group add_group vector_group remove_group format_group metadata_group protocol_group domain_group checkpoint_group sidecar_group txn_of domain_of checkpoint_meta_of sidecar_of row_means
rows_on_literals = tt

pub rows_mean : RowsMean
unfolding rows_on_literals
rows_mean = record {
  txn_is = refl;
  no_vector = refl;
  empty_vector = refl;
  with_vector = refl;
  remove_is = refl;
  metadata_is = refl;
  protocol_is = refl;
  domain_is = refl;
  mark_is = refl;
  sidecar_is = refl;
  passed_over = refl;
  two_kinds = refl;
  no_path = refl;
}
