use Rattle.std.proofs.Common.{◌-◌, length}
use Rattle.dk_pqmodel.specs.ColumnView.{column_of}
use Rattle.dk_pqread.specs.ColumnView.{column_at}
use Rattle.dk_pqread.proofs.ChunkPages.{GoesOn}
use Rattle.dk_pqread.proofs.PageReading.{dictionary_of}
use Rattle.dk_pqread.proofs.chunk.read_data.Given as goal

abbrev pub invariant-loop-wanted : goal.invariant-loop-wanted
invariant-loop-wanted l = GoesOn l.before (column_at l.column) (dictionary_of l.dictionary) l.start l.count l.place l.wanted (column_of l.triples)

abbrev pub decreases-loop-wanted : goal.decreases-loop-wanted
decreases-loop-wanted l = length l.before - l.place
