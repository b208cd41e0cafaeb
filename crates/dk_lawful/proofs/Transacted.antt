-- What a transaction commits where the table's commits don't say their times.
use Rattle.std.proofs.Common.{◌≡◌, ℕ, zero, suc, Bool, true, false, not, ◌&&◌, map, length, List, ◌∷◌, Some, None, if◌then◌else◌, refl, ap, ap₂, ◌∙◌}
use Rattle.dk_model.specs.declared.action.Action.{Action}
use Rattle.dk_model.specs.declared.state.TableState.{TableState}
use Rattle.dk_model.specs.State.{steps, fold}
use Rattle.dk_lawful.specs.Transacted.{with_enablement, says_times, time_at, begins_times, own_line, TransactedPlainly}

and_false : (b : Bool) → (b && false) ≡ false
and_false true = refl
and_false false = refl

none_begin : (before : TableState) (version : ℕ) (put : List Action) → says_times (steps before put) ≡ false → begins_times before version put ≡ false
none_begin before zero put none = refl
none_begin before (suc version) put none = ap (λ (b : Bool). not (says_times before) && b) none ∙ and_false (not (says_times before))

pub transacted_plainly : TransactedPlainly
transacted_plainly commits now txn_id put none =
    ap₂ (λ (b c : Bool). own_line txn_id (if b then Some (time_at commits now) else None) ∷ (if c then map (with_enablement (length commits) (time_at commits now)) put else put))
    none (none_begin (fold commits) (length commits) put none)
