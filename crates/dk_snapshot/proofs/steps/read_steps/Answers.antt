use Rattle.std.proofs.Common.{List, reverse, subst, sym, arith, refl, rules}
use Rattle.std.specs.Prelude.{None}
use Rattle.std.specs.List.{AllByRecursion}
use Rattle.dk_model.specs.declared.action.Action.{Action}
use Rattle.dk_model.specs.ReadBack.{HasVersionsInRange}
use Rattle.dk_snapshot.proofs.Effects.{kept_all}
use Rattle.dk_snapshot.proofs.StepReads.{read_none, read_more, read_stop, read_all}
use Rattle.dk_snapshot.proofs.Refusals.{read_opens}
use Rattle.dk_snapshot.proofs.steps.read_steps.Goals as goal

pub loop-place-init : goal.loop-place-init
loop-place-init g c = (record { same = search rules; clashes_same = search rules; later = search rules }, read_none _ c.args.limit c.args.steps.now c.args.sizes.now _ c.new-found.result.items refl c.new-found.ensures.items, search rules, subst (λ (items : List Action). AllByRecursion HasVersionsInRange (reverse items)) (sym c.new-found.ensures.items) tt)

pub loop-place-preserved : goal.loop-place-preserved
loop-place-preserved g c = (
  record { same = search rules; clashes_same = search rules; later = search rules },
  read_more _ _ c.args.limit c.args.steps.now c.args.sizes.now c.loop-place.place c.index-steps-place.result c.size_at-size.result c.loop-place.found.items c.gather.new.newest_first.items c.in-Ok.commit
      (omega arith) (omega arith) c.index-steps-place.is c.size_at-size.ensures (search rules) c.loop-place.invariant.0.same c.loop-place.invariant.1 c.in-Ok.ensures.means,
  omega arith,
  subst (λ (items : List Action). AllByRecursion HasVersionsInRange items) (sym (search rules)) (kept_all HasVersionsInRange c.in-Ok.commit (reverse c.loop-place.found.items) (search rules) c.loop-place.invariant.3),
)

pub returns-in-Err-clause-means : goal.returns-in-Err-clause-means
returns-in-Err-clause-means g c =
    read_stop _ _ c.args.limit c.args.steps.now c.args.sizes.now c.loop-place.place c.index-steps-place.result c.size_at-size.result _ _ (omega arith) (omega arith) c.index-steps-place.is c.size_at-size.ensures
    c.loop-place.invariant.0.same c.loop-place.invariant.1 c.in-Err.ensures.means

pub returns-clause-means : goal.returns-clause-means
returns-clause-means g c = read_all _ c.args.limit c.args.steps.now c.args.sizes.now c.loop-place.place c.loop-place.found.items (omega arith) c.loop-place.invariant.1

pub returns-in-Err-clause-refusals : goal.returns-in-Err-clause-refusals
returns-in-Err-clause-refusals g c = read_opens None c.in-Err.refusal c.in-Err.ensures.refusals
