-- A table of a writer version below 7 isn't managed.
use Rattle.std.proofs.Common.{◌≡◌, ◌<◌, false, Option, Some, None, refl, ap, ◌∙◌}
use Rattle.dk_model.specs.declared.action.Protocol.{Protocol}
use Rattle.dk_features.specs.Names.{catalog_managed}
use Rattle.dk_features.specs.InForce.{has_feature}
use Rattle.dk_features.proofs.Unwritten.{low_unmanaged}
use Rattle.dk_lawful.specs.Laws.{LowWriterIsUnmanaged}

low_by_head : (protocol : Option Protocol) (p : Protocol) → protocol ≡ Some p → p.min_writer < 7 → has_feature protocol catalog_managed ≡ false
unfolding has_feature
low_by_head None p is less = refl
low_by_head (Some q) p is less = let same : q ≡ p = cc in ap (λ (r : Protocol). has_feature (Some r) catalog_managed) same ∙ low_unmanaged p less

pub low_writer_is_unmanaged : LowWriterIsUnmanaged
low_writer_is_unmanaged state p is less = low_by_head state.protocol p is less
