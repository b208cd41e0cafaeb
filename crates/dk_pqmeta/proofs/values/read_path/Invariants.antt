use Rattle.std.proofs.Common.{◌≡◌, ◌-◌, map, string_bytes}
use Rattle.dk_grammar.specs.Lists.{each_at}
use Rattle.dk_pqmeta.specs.Readings.{text_at, path_at}
use Rattle.dk_thrift.specs.Walks.{after}
use Rattle.dk_pqmeta.proofs.values.read_path.Given as goal

abbrev pub invariant-loop : goal.invariant-loop
invariant-loop l =
    (after (map string_bytes l.names.items) (each_at text_at (l.end - l.counter) l.reader.rest) ≡ path_at l.fn.reader.rest)
    × (l.reader ≡ record l.fn.reader { rest = l.reader.rest })
