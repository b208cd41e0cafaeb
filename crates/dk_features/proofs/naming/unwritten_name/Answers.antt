use Rattle.std.proofs.Common.{ℕ, List, Some, sym, ap, ◌∙◌, option_map}
use Rattle.dk_features.specs.Support.{fault_name, unwritten, unwritten_name}
use Rattle.dk_features.proofs.Unused.{told_fault}
use Rattle.dk_features.proofs.naming.unwritten_name.Goals as goal

pub returns-in-Ok : goal.returns-in-Ok
unfolding unwritten_name
returns-in-Ok c = sym (ap (option_map (fault_name c.args.protocol.now)) c.in-Ok.ensures)

pub returns-in_ok-known_name-in-Err : goal.returns-in_ok-known_name-in-Err
unfolding unwritten_name
returns-in_ok-known_name-in-Err c =
    ap (λ (name : List ℕ). Some name) c.in_ok-known_name-in-Err.ensures.name
    ∙ sym (ap (option_map (fault_name c.args.protocol.now)) (told_fault (unwritten c.args.protocol.now c.args.metadata.now) c.in-Err.fault c.in_ok-known_name-in-Err.ensures.known c.in-Err.ensures))
