-- A refusal of a part is one of the whole.
use Rattle.std.proofs.Common.{IsErr}
use Rattle.dk_grammar.specs.Thrift.{Front}
use Rattle.dk_pqmeta.specs.Found.{RefusesFront}
use Rattle.dk_pqmeta.specs.declared.fault.MetaFault.{MetaFault}
use Rattle.dk_pqmeta.specs.declared.fault.MetaFault.TheVariants.{Broken, OutOfMemory}

pub refused_by_part : {A B : Type 0} (fault : MetaFault) (part : Front A) (whole : Front B) → (IsErr part → IsErr whole) → RefusesFront fault part → RefusesFront fault whole
refused_by_part Broken part whole go said = go said
refused_by_part OutOfMemory part whole go said = tt
