use Rattle.std.proofs.Common.{◌≡◌, ◌-◌, length}
use Rattle.dk_pqmeta.specs.View.{chunk_view}
use Rattle.dk_pqread.specs.ColumnView.{column_at}
use Rattle.dk_pqmodel.specs.Scans.{unread_from, unread_in}
use Rattle.dk_pqread.proofs.scan.unread_in.Given as goal

abbrev pub invariant-loop : goal.invariant-loop
invariant-loop l = unread_from (length l.before - l.counter) l.before (column_at l.column) l.place l.wanted ≡ unread_in l.before (column_at l.column) (chunk_view l.chunk)
