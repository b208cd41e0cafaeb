use Rattle.std.proofs.Common.{◌≡◌, ℕ, ◌+◌, List, false, true, ap, ◌∙◌, arith, rules}
use Rattle.std.specs.Prelude.{Option, None, option_and_then, slice_get}
use Rattle.std.specs.List.{list_any}
use Rattle.std.specs.Option.{option_or}
use Rattle.dk_model.specs.declared.action.Action.{Action}
use Rattle.dk_model.specs.State.{steps}
use Rattle.dk_conflicts.specs.Conflicts.{first_in_the_way, kind_of}
use Rattle.dk_lawful.specs.Ids.{says}
use Rattle.dk_txn.proofs.ReadWinners.{read_more, read_own, read_stop, read_all}
use Rattle.dk_txn.proofs.winners.read_winners.Goals as goal

pub returns-in-Err-clause-means : goal.returns-in-Err-clause-means
returns-in-Err-clause-means g c =
    read_stop c.args.limit c.args.own.now.id.now c.args.own.now.claims c.args.winners.now.first c.args.winners.now.steps.items c.args.winners.now.sizes.items c.args.state.now c.loop-place.place c.index-step.result.now c.size_at-size.result
    c.loop-place.state c.loop-place.conflict (omega (arith, c.args.winners.now.steps.ok.0)) c.index-step.ensures
    (c.size_at-size.ensures ∙ ap (λ (s : List (Option ℕ)). option_and_then (λ (x : Option ℕ). x) (slice_get s c.loop-place.place)) c.deref.ensures.value)
    _ _ c.in-Err.refusal c.loop-place.invariant.0.same c.loop-place.invariant.2 c.in-Err.ensures.means

pub returns-then-has_id-clause-means : goal.returns-then-has_id-clause-means
returns-then-has_id-clause-means g c =
    let said : list_any (says c.args.own.now.id.now) c.in-Ok.commit ≡ true = search rules in
    read_own c.args.limit c.args.own.now.id.now c.args.own.now.claims c.args.winners.now.first c.args.winners.now.steps.items c.args.winners.now.sizes.items c.args.state.now c.loop-place.place c.index-step.result.now c.size_at-size.result
    c.loop-place.state c.loop-place.conflict (omega (arith, c.args.winners.now.steps.ok.0)) c.index-step.ensures
    (c.size_at-size.ensures ∙ ap (λ (s : List (Option ℕ)). option_and_then (λ (x : Option ℕ). x) (slice_get s c.loop-place.place)) c.deref.ensures.value)
    _ _ c.in-Ok.commit c.loop-place.invariant.0.same said c.loop-place.invariant.2 c.in-Ok.ensures.means

pub loop-place-preserved : goal.loop-place-preserved
loop-place-preserved g c =
    let others : list_any (says c.args.own.now.id.now) c.in-Ok.commit ≡ false = search rules in
    let state_is : c.absorb.new.self ≡ steps c.loop-place.state c.in-Ok.commit = search rules in (
      record { same = search rules; clashes_same = search rules; later = search rules },
      omega (arith, c.args.winners.now.steps.ok.0),
      read_more c.args.limit c.args.own.now.id.now c.args.own.now.claims c.args.winners.now.first c.args.winners.now.steps.items c.args.winners.now.sizes.items c.args.state.now c.loop-place.place c.index-step.result.now c.size_at-size.result
          c.loop-place.state c.loop-place.conflict (omega (arith, c.args.winners.now.steps.ok.0)) c.index-step.ensures
          (c.size_at-size.ensures ∙ ap (λ (s : List (Option ℕ)). option_and_then (λ (x : Option ℕ). x) (slice_get s c.loop-place.place)) c.deref.ensures.value)
          _ _ c.in-Ok.commit c.absorb.new.self c.first_conflict-conflict.result c.loop-place.invariant.0.same others state_is
          (λ reads own are. c.first_conflict-conflict.ensures reads own are
          ∙ ap (λ (w : List Action). option_or c.loop-place.conflict (first_in_the_way (c.args.winners.now.first + c.loop-place.place) (kind_of reads own w) None)) c.as_slice-in-Ok.ensures)
          c.loop-place.invariant.2 c.in-Ok.ensures.means,
    )

pub returns-clause-means : goal.returns-clause-means
returns-clause-means g c =
    read_all _ c.args.limit c.args.own.now.id.now c.args.own.now.claims c.args.winners.now.first c.args.winners.now.steps.items c.args.winners.now.sizes.items c.args.state.now c.loop-place.place c.loop-place.state c.loop-place.conflict
    (omega (arith, c.args.winners.now.steps.ok.0)) c.loop-place.invariant.2
