use Rattle.std.proofs.Common.{rules, ◌≡◌, [], true, false, Some, None, cond, ap, ◌∙◌}
use Rattle.json.specs.Value.{value_view}
use Rattle.dk_actjson.specs.Seen.{seen, has_values}
use Rattle.dk_actjson.proofs.Seen.{read_whole}
use Rattle.dk_actjson.proofs.borrowed.parse.Goals as goal

pub returns-then-has_values : goal.returns-then-has_values
returns-then-has_values c =
    let j = value_view c.in-Ok-read.value in
    let none : c.read.new.reader ≡ [] = search rules in
    let all : has_values j ≡ true = search rules in
    read_whole c.args.text.now c.in-Ok.reader c.read.new.reader j c.in-Ok.ensures.ok c.in-Ok-read.ensures.ok none
    ∙ ap (λ b. cond b (Some (seen j)) None) all

pub returns : goal.returns
returns c =
    let j = value_view c.in-Ok-read.value in
    let none : c.read.new.reader ≡ [] = search rules in
    let all : has_values j ≡ false = search rules in
    read_whole c.args.text.now c.in-Ok.reader c.read.new.reader j c.in-Ok.ensures.ok c.in-Ok-read.ensures.ok none
    ∙ ap (λ b. cond b (Some (seen j)) None) all
