use Rattle.std.proofs.Common.{◌-◌, length}
use Rattle.dk_thrift.specs.Walks.{Walks}
use Rattle.dk_grammar.specs.Structs.{fields_from}
use Rattle.dk_pqmeta.proofs.structs.read_fields.Given as goal

abbrev pub invariant-loop : goal.invariant-loop
invariant-loop g l =
    Walks g.R.Record.meaning g.R.Record.kept_of (length l.fn.reader.rest - l.counter) l.fn.reader l.reader (g.R.Record.kept l.record)
    (fields_from g.R.Record.meaning (length l.fn.reader.rest) l.fn.reader.last l.fn.reader.rest)
