use Rattle.std.proofs.Common.{Some, sym, ap, ◌∙◌}
use Rattle.std.proofs.lemmas.Str.{is_utf8-from_IsUtf8}
use Rattle.dk_pqmodel.specs.Datum.{chars}
use Rattle.dk_pqread.proofs.PlainLaws.{not_text, text_found, text_broken}
use Rattle.dk_pqread.proofs.plain.plain_text.Goals as goal

pub returns-in_ok-from_str-in-Ok : goal.returns-in_ok-from_str-in-Ok
returns-in_ok-from_str-in-Ok c =
    text_found c.args.bytes.now c.in-Some.front.now c.in-Some.rest.now (sym c.in-Some.ensures) (is_utf8-from_IsUtf8 c.in-Some.front.now c.in-Ok.ensures.cases.1)
    ∙ ap (λ text. Some (chars text, c.in-Some.rest.now)) (sym (c.in_ok-from_str-in-Ok.ensures.ok ∙ c.in-Ok.ensures.cases.0))

pub returns-in-Err : goal.returns-in-Err
returns-in-Err c = text_broken c.args.bytes.now c.in-Some.front.now c.in-Some.rest.now (sym c.in-Some.ensures) (not_text c.in-Some.front.now c.in-Err.ensures.cases.0)
