use Rattle.std.proofs.Common.{◌<◌, map, string_bytes, String, Global, ap, ◌∙◌, arith}
use Rattle.std.proofs.lemmas.List.{map-append}
use Rattle.dk_thrift.specs.Reading.{Reading}
use Rattle.dk_pqmeta.specs.Readings.{text_at}
use Rattle.dk_pqmeta.proofs.Eaches.{each_goes_on}
use Rattle.dk_pqmeta.proofs.values.read_path.Goals as goal

pub loop-preserved : goal.loop-preserved
loop-preserved c =
    let h : c.loop.counter < c.in_ok-head.head.count = omega arith in
    let done = map (λ (name : String Global). string_bytes name) c.loop.names.items in
    let items = c.in_ok-push.ensures.items in (
      rw (items, map-append)
          (each_goes_on text_at c.in_ok-head.head.count c.loop.counter done c.loop.reader.rest _ h c.loop.invariant.0 (string_bytes c.in_ok-read_name.field-0)
          c.read_name.new.reader.rest c.in_ok-read_name.ensures.0),
      c.in_ok-read_name.ensures.1 ∙ ap (λ (r : Reading). record r { rest = c.read_name.new.reader.rest }) c.loop.invariant.1,
    )
