use Rattle.std.proofs.Common.{arith, rules, ◌≡◌, ◌+◌, ◌≤◌, ◌++◌, ◌∷◌, [], ℕ, sym, subst, ◌∙◌, List}
use Rattle.std.specs.Prelude.{Option, None, Some, Err, IfSome}
use Rattle.dk_lawful.specs.declared.segment.Step.{Step}
use Rattle.dk_lawful.specs.Segments.{after_step}
use Rattle.dk_paths.specs.Names.{commit_path}
use Rattle.dk_engine.specs.declared.refusal.Refusal.{Refusal}
use Rattle.dk_engine.specs.declared.refusal.Refusal.TheVariants.{Missing}
use Rattle.dk_engine.specs.Answers.{Refuses}
use Rattle.dk_segment.specs.Walked.{steps_known, stepped}
use Rattle.dk_segment.proofs.StepWalks.{IsWalking, begins, goes_on, passes_asked, ends, stops}
use Rattle.dk_segment.proofs.stepping.walk_to.Goals as goal

pub returns-then-next-asked-clause-means : goal.returns-then-next-asked-clause-means
returns-then-next-asked-clause-means c =
    passes_asked (steps_known c.args.commits.now c.args.reaches.now c.args.staged_first) c.args.asked c.args.first c.loop-step._step c.loop-step.next c.loop-step.found.items (omega arith) c.loop-step.invariant.walking

pub returns-in-None-clause-means : goal.returns-in-None-clause-means
returns-in-None-clause-means c =
    let at = steps_known c.args.commits.now c.args.reaches.now c.args.staged_first in
    let none : at c.loop-step.next ≡ None = sym c.in_ok-step.ensures.value ∙ c.in-None.is in
    let gone : stepped at c.args.asked c.args.first ≡ Err (Missing (commit_path c.loop-step.next)) =
    stops at c.args.asked c.args.first c.loop-step._step c.loop-step.next c.loop-step.found.items c.loop-step-test.true (omega arith) none c.loop-step.invariant.walking in
    subst (λ (refusal : Refusal). Refuses refusal (stepped at c.args.asked c.args.first)) (sym c.in_ok-missing-in-None.ensures) gone

pub returns-clause-means : goal.returns-clause-means
returns-clause-means c =
    ends (steps_known c.args.commits.now c.args.reaches.now c.args.staged_first) c.args.asked c.args.first c.loop-step._step c.loop-step.next c.loop-step.found.items (omega arith) c.loop-step.invariant.walking

pub loop-step-init : goal.loop-step-init
loop-step-init c =
    let none : c.new-found.result.items ≡ [] = search rules in
    record {
      walking = subst (λ (steps : List Step). IsWalking (steps_known c.args.commits.now c.args.reaches.now c.args.staged_first) c.args.asked c.args.first 0 c.args.first steps) (sym {A = List Step} none)
          (begins (steps_known c.args.commits.now c.args.reaches.now c.args.staged_first) c.args.asked c.args.first);
      within = omega arith;
    }

pub loop-step-preserved : goal.loop-step-preserved
loop-step-preserved c =
    let at = steps_known c.args.commits.now c.args.reaches.now c.args.staged_first in
    let done = c.loop-step._step in
    let step = c.in-Some.step in
    let there : at c.loop-step.next ≡ Some step = sym c.in_ok-step.ensures.value ∙ c.in-Some.is in
    let walking : IsWalking at c.args.asked c.args.first (done + 1) (after_step step) (c.loop-step.found.items ++ step ∷ []) =
    goes_on at c.args.asked c.args.first done c.loop-step.next c.loop-step.found.items step c.loop-step-test.true (omega arith) there c.loop-step.invariant.walking in
    let within : after_step step ≤ c.args.asked + 1 = subst (λ (o : Option Step). IfSome o (λ s. after_step s ≤ c.args.asked + 1)) c.in-Some.is c.in_ok-step.ensures.within in
    record {
      walking = subst (λ (steps : List Step). IsWalking at c.args.asked c.args.first (done + 1) c.after_step-next.result steps) (sym {A = List Step} c.in_ok-push-in-Some.ensures.items)
          (subst (λ (n : ℕ). IsWalking at c.args.asked c.args.first (done + 1) n (c.loop-step.found.items ++ step ∷ [])) (sym c.after_step-next.ensures) walking);
      within = subst (λ (n : ℕ). n ≤ c.args.asked + 1) (sym c.after_step-next.ensures) within;
    }
