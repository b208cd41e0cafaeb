use Rattle.std.proofs.Common.{◌≡◌, ap, subst, sym, ◌∙◌, IfOk}
use Rattle.dk_hint.specs.Spelled.{hint_in_text}
use Rattle.dk_hint.proofs.InRange.{told_in_range}
use Rattle.dk_hint.proofs.TextOrNot.{is_text, not_text}
use Rattle.dk_hint.proofs.reading.read_hint.Goals as goal

pub returns-in_default-clause-read : goal.returns-in_default-clause-read
returns-in_default-clause-read c = sym (not_text c.args.bytes.now c.in_default.ensures)

pub returns-clause-read : goal.returns-clause-read
returns-clause-read c = subst (λ meant. IfOk c.hint_in_text.result (λ hint. hint ≡ meant)) (ap hint_in_text c.in-Ok.ensures.0 ∙ sym (is_text c.args.bytes.now c.in-Ok.ensures.1)) c.hint_in_text.ensures

pub returns-clause-in_range : goal.returns-clause-in_range
returns-clause-in_range c = told_in_range c.hint_in_text.result c.in-Ok.text.now c.hint_in_text.ensures
