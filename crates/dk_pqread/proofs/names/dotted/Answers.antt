use Rattle.std.proofs.Common.{◌++◌, string_bytes, ap, ◌∙◌, arith}
use Rattle.dk_pqread.proofs.Dotted.{name_first, name_more, all_named}
use Rattle.dk_pqread.proofs.names.dotted.Goals as goal

pub loop-name-init : goal.loop-name-init
loop-name-init c = name_first c.args.path.now c.in-Some.rest.now c.in-Some.first.now (string_bytes c.in_ok-column.column) c.in-Some.ensures.cases.0 c.in_ok-column.ensures.cases

pub loop-name-preserved : goal.loop-name-preserved
loop-name-preserved c =
    name_more c.in-Some.rest.now c.loop-name.name-index c.name-item.result (string_bytes c.loop-name.column) (string_bytes c.push_str.new.self) (string_bytes c.push_str-in-loop-name.new.self) _
    (omega arith) c.name-item.is c.in_ok-push_str.ensures.bytes (c.in_ok-push_str-2.ensures.bytes ∙ ap (λ name. string_bytes c.push_str.new.self ++ name) c.deref.ensures) c.loop-name.invariant

pub returns : goal.returns
returns c = all_named c.in-Some.rest.now c.loop-name.name-index (string_bytes c.loop-name.column) _ (omega arith) c.loop-name.invariant
