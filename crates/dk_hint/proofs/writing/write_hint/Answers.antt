use Rattle.std.proofs.Common.{string_bytes, ap, ◌∙◌, subst}
use Rattle.std.specs.Str.{IsUtf8}
use Rattle.serde_json.specs.View.{view}
use Rattle.dk_hint.specs.Spelled.{hint_of}
use Rattle.dk_hint.proofs.WrittenBack.{written_back}
use Rattle.dk_hint.proofs.writing.write_hint.Goals as goal

pub returns-clause-back : goal.returns-clause-back
returns-clause-back c =
    let bytes = string_bytes c.in_ok-text.text in
    let utf8 : IsUtf8 bytes = subst IsUtf8 c.as_str.ensures.value c.note_utf8.ensures in
    ap (λ v. hint_of v.items) c.into_bytes.ensures.value
    ∙ written_back c.args.hint.now bytes (view c.in_ok-object_of.field-0) c.requires utf8 c.in_ok-object_of.ensures c.in_ok-text.ensures.reads_back
