use Rattle.std.proofs.Common.{ap, refl, sym, ◌∙◌}
use Rattle.std.specs.Prelude.{Option}
use Rattle.std.specs.Borrow.{Bor}
use Rattle.std.specs.Option.{option_copied}
use Rattle.dk_model.specs.declared.action.Protocol.{Protocol}
use Rattle.dk_lawful.specs.SoFar.{awaited}
use Rattle.dk_rules.proofs.Awaiting.{asks_either, none_asks}
use Rattle.dk_rules.proofs.awaited_feature.awaited.Goals as goal

pub returns-in-None : goal.returns-in-None
returns-in-None c = none_asks ∙ ap (λ (p : Option (Bor Protocol)). awaited (option_copied p)) (sym c.in-None.is)

pub returns-in-Some-awaited_of_readers : goal.returns-in-Some-awaited_of_readers
returns-in-Some-awaited_of_readers c =
    asks_either c.in-Some.protocol.now _ _ c.in-Some-awaited_of_readers.ensures refl ∙ ap (λ (p : Option (Bor Protocol)). awaited (option_copied p)) (sym c.in-Some.is)

pub returns-in-None-awaited_of_readers : goal.returns-in-None-awaited_of_readers
returns-in-None-awaited_of_readers c =
    asks_either c.in-Some.protocol.now _ _ c.in-None-awaited_of_readers.ensures (sym c.awaited_of_writers.ensures) ∙ ap (λ (p : Option (Bor Protocol)). awaited (option_copied p)) (sym c.in-Some.is)
