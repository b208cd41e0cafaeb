use Rattle.std.proofs.Common.{◌++◌, ◌∙◌, ap, subst, IsUtf8}
use Rattle.dk_model.specs.Shown.{object_with}
use Rattle.dk_actjson.specs.Tokens.{object_line}
use Rattle.dk_actjson.proofs.LineText.{object_line as line, object_utf8}
use Rattle.dk_actjson.proofs.write.append_line.Goals as goal

pub returns-clause-text : goal.returns-clause-text
returns-clause-text g c =
    let fields = g.O.Object.fields c.args.object.now in
    line c.args.out.now.items c.name.result.now (object_with fields) c.start_line-writer.result c.open_object.new.writer c.object_field.new.writer c.close_object.new.writer _
    c.start_line-writer.ensures.before c.start_line-writer.ensures.tokens c.in_ok-open_object.ensures c.in_ok-object_field.ensures c.in_ok-close_object.ensures c.in_ok-end_line.ensures.text
    ∙ ap (λ key. c.args.out.now.items ++ object_line key fields) c.name.ensures

pub returns-clause-utf8 : goal.returns-clause-utf8
returns-clause-utf8 g c =
    let fields = g.O.Object.fields c.args.object.now in
    subst (λ key. IsUtf8 (object_line key fields)) c.name.ensures
    (object_utf8 c.name.result.now (object_with fields) c.start_line-writer.result c.open_object.new.writer c.object_field.new.writer c.close_object.new.writer
    c.start_line-writer.ensures.tokens c.in_ok-open_object.ensures c.in_ok-object_field.ensures c.in_ok-close_object.ensures c.end_line.ensures.utf8)
