-- A text that is read in another way names no staged commit.
use Rattle.std.proofs.Common.{ap, sym, ◌∙◌, ◌++◌, codes, drop}
use Rattle.std.proofs.lemmas.List.{append_cancel_right}
use Rattle.dk_paths.specs.Numbers.{id_text}
use Rattle.dk_paths.proofs.StagedNames.{staged_split}
use Rattle.dk_paths.proofs.staged.named.Goals as goal

pub returns-in_default-strip_front : goal.returns-in_default-strip_front
returns-in_default-strip_front c = λ version id is spelled.
    let read = c.in-Some.ensures in
    let front = staged_split version id c.in-Some.version c.in-Some.rest.now c.args.text.now is read.0 read.1 spelled in
    c.in_default-strip_front.ensures (id_text id ++ codes ".json") (sym front.same_rest)

pub returns-in_default-strip_end : goal.returns-in_default-strip_end
returns-in_default-strip_end c = λ version id is spelled.
    let read = c.in-Some.ensures in
    let front = staged_split version id c.in-Some.version c.in-Some.rest.now c.args.text.now is read.0 read.1 spelled in
    c.in_default-strip_end.ensures (id_text id) (sym (ap (drop 1) (front.same_rest ∙ c.in-Some-strip_front.ensures)))

pub returns-in-None : goal.returns-in-None
returns-in-None c = λ version id is spelled.
    let read = c.in-Some.ensures in
    let front = staged_split version id c.in-Some.version c.in-Some.rest.now c.args.text.now is read.0 read.1 spelled in
    let whole = ap (drop 1) (front.same_rest ∙ c.in-Some-strip_front.ensures) ∙ c.in-Some-strip_end.ensures in
    c.in-None.ensures id is.id_small (append_cancel_right (id_text id) c.in-Some-strip_end.id.now (codes ".json") whole)
