use Rattle.std.proofs.Common.{rules, ◌<◌, ◌^◌, length, IsUtf8}
use Rattle.std.proofs.lemmas.Str.{is_utf8-from_IsUtf8}
use Rattle.dk_pqwrite.specs.Elements.{element_items}
use Rattle.dk_pqwrite.specs.Items.{struct_bytes}
use Rattle.dk_pqwrite.proofs.ElementBytes.{element_short, element_spelled, element_written}
use Rattle.dk_pqwrite.proofs.Structs.{still_open}
use Rattle.dk_pqwrite.proofs.element.write_element.Goals as goal

pub returns : goal.returns
returns c =
    let element = c.args.element.now in
    let name = element.name.now in
    let utf8 : IsUtf8 name = search rules in
    let short : length name < 2 ^ 64 = search rules in
    let written = element_written name element.repetition element.physical element.children element.converted c.args.writer.now c.enter.new.self c.put_optional.new.writer c.put_optional-2.new.writer
    c.put_text.new.writer c.put_optional-3.new.writer c.put_optional-4.new.writer c.end.new.self c.in_ok-enter.ensures c.in_ok-put_optional.ensures.put.0 c.in_ok-put_optional-2.ensures.put.0
    c.in_ok-put_text.ensures.0 c.in_ok-put_optional-3.ensures.put.0 c.in_ok-put_optional-4.ensures.put.0 c.in_ok-end.ensures.written in
    record {
      more = struct_bytes (element_items name element.repetition element.physical element.children element.converted);
      written = written;
      spelled = element_spelled name element.repetition element.physical element.children element.converted (is_utf8-from_IsUtf8 name utf8) short c.in_ok-put_optional-2.ensures.small
          c.in_ok-put_optional.ensures.small c.in_ok-put_optional-3.ensures.small c.in_ok-put_optional-4.ensures.small;
      size = element_short name element.repetition element.physical element.children element.converted short c.in_ok-put_optional-2.ensures.small c.in_ok-put_optional.ensures.small
          c.in_ok-put_optional-3.ensures.small c.in_ok-put_optional-4.ensures.small;
      goes_on = still_open _ c.args.writer.now c.end.new.self written c.requires;
    }
