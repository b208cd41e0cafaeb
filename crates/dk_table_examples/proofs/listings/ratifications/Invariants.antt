use Rattle.std.proofs.Common.{◌<◌, ◌^◌, All}
use Rattle.dk_table_examples.proofs.listings.ratifications.Given as goal

abbrev pub invariant-loop-version : goal.invariant-loop-version
invariant-loop-version l = All (λ r. r.version < 2 ^ 63) l.found.items
