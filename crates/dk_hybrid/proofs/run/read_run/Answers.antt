use Rattle.std.proofs.Common.{ℕ, ◌<◌, List, Bor, arith, rules}
use Rattle.std.proofs.lemmas.List.Elements.{All-from_get_or}
use Rattle.dk_hybrid.specs.declared.run.Run.{Run}
use Rattle.dk_hybrid.proofs.Standing.{copies_stand, groups_stand, number_stands}
use Rattle.dk_hybrid.proofs.run.read_run.Goals as goal

pub returns-in_err-header : goal.returns-in_err-header
returns-in_err-header c = number_stands (λ (x : Run × Bor (List ℕ)). x.0) (λ x. x.1.now) c.args.width c.args.bytes.now c.from_residual.result c.from_residual.ensures c.in_err-header.ensures

pub returns-in-Copies : goal.returns-in-Copies
returns-in-Copies c =
    copies_stand (λ (x : Run × Bor (List ℕ)). x.0) (λ x. x.1.now) c.args.width c.in-Copies.copies c.args.bytes.now c.in_ok-header.rest.now c.in_ok-header.header c.read_repeated.result
    c.in_ok-header.ensures c.in-Copies.is c.read_repeated.ensures

pub returns-in-Groups : goal.returns-in-Groups
returns-in-Groups c =
    groups_stand (λ (x : Run × Bor (List ℕ)). x.0) (λ x. x.1.now) c.args.width c.in-Groups.groups c.args.bytes.now c.in_ok-header.rest.now c.in_ok-header.header c.read_packed.result
    c.in_ok-header.ensures c.in-Groups.is (All-from_get_or (λ byte. byte < 256) c.args.bytes.now 0 (λ i h. omega (arith, c.type_inv.bytes i))) (search rules) c.read_packed.ensures
