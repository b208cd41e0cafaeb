use Rattle.std.proofs.Common.{ℕ, List, Some, sym, ap, ◌∙◌, option_map}
use Rattle.dk_features.specs.Support.{fault_name, unread, unread_name}
use Rattle.dk_features.proofs.Unused.{told_none, told_some}
use Rattle.dk_features.proofs.naming.unread_name.Goals as goal

pub returns-in-Ok : goal.returns-in-Ok
unfolding unread_name
returns-in-Ok c = sym (ap (option_map (fault_name c.args.protocol.now)) (told_none (unread c.args.protocol.now) c.in-Ok.field-0 (sym c.in-Ok.is ∙ c.can_read.ensures)))

pub returns-in_ok-name-in-Err : goal.returns-in_ok-name-in-Err
unfolding unread_name
returns-in_ok-name-in-Err c =
    ap (λ (name : List ℕ). Some name) c.in_ok-name-in-Err.ensures
    ∙ sym (ap (option_map (fault_name c.args.protocol.now)) (told_some (unread c.args.protocol.now) c.in-Err.fault (sym c.in-Err.is ∙ c.can_read.ensures)))
