use Rattle.std.proofs.Common.{◌-◌, length}
use Rattle.dk_thrift.specs.Walks.{Walks}
use Rattle.dk_grammar.specs.Structs.{fields_from}
use Rattle.dk_grammar.specs.PageHeaders.{part_meaning}
use Rattle.dk_pages.specs.Headers.{header_fields}
use Rattle.dk_pages.proofs.fields.read_fields.Given as goal

abbrev pub invariant-loop : goal.invariant-loop
invariant-loop l =
    Walks part_meaning header_fields (length l.fn.reader.rest - l.counter) l.fn.reader l.reader l.fields (fields_from part_meaning (length l.fn.reader.rest) l.fn.reader.last l.fn.reader.rest)
