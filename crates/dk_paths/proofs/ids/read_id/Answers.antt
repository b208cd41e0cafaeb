-- A text that doesn't parse, or that isn't what its number is written as, spells no UUID.
use Rattle.std.proofs.Common.{ap, ◌∙◌, sym, true≢false}
use Rattle.dk_paths.specs.Numbers.{id_text}
use Rattle.dk_paths.proofs.Uuids.{no_id, same_id}
use Rattle.dk_paths.proofs.Spelled.{apart}
use Rattle.dk_paths.proofs.ids.read_id.Goals as goal

pub returns-in_default : goal.returns-in_default
returns-in_default c = λ id small spelled. no_id c.args.text.now id (λ bytes parses. true≢false (sym (c.in_default.ensures.ok.1 (bytes, parses)))) spelled

pub returns-else-eq : goal.returns-else-eq
returns-else-eq c = λ id small spelled.
    let same = c.as_u128-id.ensures ∙ same_id c.args.text.now c.in-Ok.read id small c.in-Ok.ensures.bytes spelled in
    let written = c.as_bytes.ensures.value ∙ c.spelled_id-spelled.ensures ∙ ap id_text same ∙ spelled in
    apart c.as_bytes.result.now c.args.text.now c.eq.result c.eq.ensures c.if-eq.false written
