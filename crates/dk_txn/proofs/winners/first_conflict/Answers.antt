use Rattle.std.proofs.Common.{ℕ, None, ap₂, sym}
use Rattle.std.specs.Prelude.{Option}
use Rattle.std.specs.Option.{option_or}
use Rattle.dk_model.specs.declared.kind.Kind.{Kind}
use Rattle.dk_conflicts.specs.Conflicts.{first_in_the_way}
use Rattle.dk_txn.proofs.winners.first_conflict.Goals as goal

pub returns-in-Some-kind : goal.returns-in-Some-kind
returns-in-Some-kind c = λ reads own are.
    ap₂ (λ (e : Option (ℕ × Kind)) (k : Option Kind). option_or e (first_in_the_way c.args.version k None)) (sym c.in-None.is) (c.in-Some-kind.ensures reads own are)

pub returns-in-None-kind : goal.returns-in-None-kind
returns-in-None-kind c = λ reads own are.
    ap₂ (λ (e : Option (ℕ × Kind)) (k : Option Kind). option_or e (first_in_the_way c.args.version k None)) (sym c.in-None.is) (c.in-None-kind.ensures reads own are)
