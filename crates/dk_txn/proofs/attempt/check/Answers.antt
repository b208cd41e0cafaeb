use Rattle.std.proofs.Common.{◌≡◌, Some, None, rules, sym, ap₂, ◌∙◌}
use Rattle.dk_paths.specs.Numbers.{id_text}
use Rattle.dk_lawful.specs.SoFar.{first_broken_so_far}
use Rattle.dk_txn.specs.Attempt.{unbuilt, verdict, own_commit}
use Rattle.dk_txn.proofs.attempt.check.Goals as goal

pub returns-in-Some-2-clause-means : goal.returns-in-Some-2-clause-means
returns-in-Some-2-clause-means c = λ id.
    let from = c.args.from.now in
    let named : unbuilt from.before c.args.actions.now ≡ None = search rules in
    let broken : first_broken_so_far from.before from.version (own_commit id c.args.actions.now) ≡ Some c.in-Some-2.rule = sym (c.in_ok-rule.ensures (id_text id)) ∙ c.in-Some-2.is in
    ap₂ verdict named broken

pub returns-in-None-clause-means : goal.returns-in-None-clause-means
returns-in-None-clause-means c = λ id.
    let from = c.args.from.now in
    let named : unbuilt from.before c.args.actions.now ≡ None = search rules in
    let broken : first_broken_so_far from.before from.version (own_commit id c.args.actions.now) ≡ None = sym (c.in_ok-rule.ensures (id_text id)) ∙ c.in-None.is in
    ap₂ verdict named broken
