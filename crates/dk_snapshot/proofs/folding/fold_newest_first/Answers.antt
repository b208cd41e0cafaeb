use Rattle.std.proofs.Common.{◌≡◌, [], ◌∷◌, ◌++◌, reverse, ap, subst, sym, rules}
use Rattle.dk_model.specs.declared.state.TableState.{TableState}
use Rattle.dk_model.specs.ReadBack.{HasVersionsInRange}
use Rattle.dk_model.specs.State.{steps, empty_state}
use Rattle.dk_model.specs.WellKept.{IsWellKept}
use Rattle.dk_model.proofs.WellKept.{empty_is_kept}
use Rattle.dk_snapshot.proofs.Effects.{fold_next, next_all}
use Rattle.dk_snapshot.proofs.folding.fold_newest_first.Goals as goal

pub loop-action-init : goal.loop-action-init
loop-action-init c = (
  ap (λ (state : TableState). steps state (reverse c.args.newest_first.items)) c.new-state.ensures,
  c.requires,
  subst (λ (state : TableState). IsWellKept state) (sym c.new-state.ensures) empty_is_kept,
)

pub loop-action-preserved : goal.loop-action-preserved
loop-action-preserved c =
    let last : c.loop-action.newest_first.items ≡ c.pop.new.self.items ++ c.in-Some.action ∷ [] = search rules in (
      fold_next c.loop-action.state c.take.new.state (steps empty_state (reverse c.args.newest_first.items)) c.loop-action.newest_first.items c.pop.new.self.items c.in-Some.action last c.in_ok-take.ensures.step c.loop-action.invariant.0,
      (next_all HasVersionsInRange c.loop-action.newest_first.items c.pop.new.self.items c.in-Some.action last c.loop-action.invariant.1).1,
      c.in_ok-take.ensures.kept c.loop-action.invariant.2,
    )
