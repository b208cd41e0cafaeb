use Rattle.std.proofs.Common.{◌-◌, length}
use Rattle.dk_thrift.specs.Walks.{Walks}
use Rattle.dk_grammar.specs.Structs.{fields_from, number_meaning}
use Rattle.dk_pages.specs.Headers.{numbers_of}
use Rattle.dk_pages.proofs.numbers.read_numbers.Given as goal

abbrev pub invariant-loop : goal.invariant-loop
invariant-loop l =
    Walks number_meaning numbers_of (length l.fn.reader.rest - l.counter) l.fn.reader l.reader l.numbers (fields_from number_meaning (length l.fn.reader.rest) l.fn.reader.last l.fn.reader.rest)
