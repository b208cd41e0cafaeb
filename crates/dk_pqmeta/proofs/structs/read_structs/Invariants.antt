use Rattle.std.proofs.Common.{◌≡◌, ◌-◌, map}
use Rattle.dk_grammar.specs.Structs.{struct_at}
use Rattle.dk_grammar.specs.Lists.{each_at, list_of, read_turned}
use Rattle.dk_thrift.specs.Walks.{after}
use Rattle.dk_pqmeta.proofs.structs.read_structs.Given as goal

abbrev pub invariant-loop : goal.invariant-loop
invariant-loop g l =
    (after (map g.R.Record.kept l.records.items) (each_at (read_turned g.R.Record.kept_of (struct_at g.R.Record.meaning)) (l.end - l.counter) l.reader.rest)
    ≡ list_of 12 (read_turned g.R.Record.kept_of (struct_at g.R.Record.meaning)) l.fn.reader.rest)
    × (l.reader ≡ record l.fn.reader { rest = l.reader.rest })
