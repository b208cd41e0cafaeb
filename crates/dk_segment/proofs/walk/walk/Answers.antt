use Rattle.std.proofs.Common.{arith, ◌≡◌, ◌+◌, sym, subst}
use Rattle.std.specs.Prelude.{List, Some, None, Err}
use Rattle.dk_lawful.specs.declared.segment.Step.{Step}
use Rattle.dk_lawful.specs.Segments.{commit_place}
use Rattle.dk_paths.specs.Names.{commit_path}
use Rattle.dk_engine.specs.declared.refusal.Refusal.{Refusal}
use Rattle.dk_engine.specs.declared.refusal.Refusal.TheVariants.{Missing}
use Rattle.dk_engine.specs.Answers.{Refuses}
use Rattle.dk_segment.specs.CommitIndex.{has_place, name_ratified_for}
use Rattle.dk_segment.specs.Walked.{object_place, walked}
use Rattle.dk_segment.proofs.Walks.{IsOnTheWay, goes_on, ends, stops}
use Rattle.dk_segment.proofs.walk.walk.Goals as goal

pub returns-in-None-clause-means : goal.returns-in-None-clause-means
returns-in-None-clause-means c =
    let place_at = commit_place (has_place c.args.commits.now) (name_ratified_for c.args.commits.now) c.args.staged_first in
    let none : None ≡ place_at c.loop-version.version = c.in-None.ensures in
    let gone : walked place_at c.args.first c.args.count ≡ Err (Missing (commit_path c.loop-version.version)) = stops place_at c.loop-version.found.items c.args.first c.loop-version.version c.args.count c.loop-version-test.true none c.loop-version.invariant in
    subst (λ (refusal : Refusal). Refuses refusal (walked place_at c.args.first c.args.count)) (sym c.in_ok-missing-in-None.ensures) gone

pub loop-version-preserved : goal.loop-version-preserved
loop-version-preserved c =
    let place_at = commit_place (has_place c.args.commits.now) (name_ratified_for c.args.commits.now) c.args.staged_first in
    let place = object_place c.loop-version.version c.in-Some.object in
    let there : Some place ≡ place_at c.loop-version.version = c.in-Some.ensures in
    subst (λ (steps : List Step). IsOnTheWay place_at steps c.args.first (c.loop-version.version + 1) c.args.count) (sym {A = List Step} c.in_ok-push-in-Some.ensures.items)
    (goes_on place_at c.loop-version.found.items place c.in_ok-step_of-in-Some.field-0 c.args.first c.loop-version.version c.args.count c.loop-version-test.true there c.in_ok-step_of-in-Some.ensures c.loop-version.invariant)

pub returns-clause-means : goal.returns-clause-means
returns-clause-means c =
    ends (commit_place (has_place c.args.commits.now) (name_ratified_for c.args.commits.now) c.args.staged_first) c.loop-version.found.items c.args.first c.loop-version.version c.args.count (omega arith) c.loop-version.invariant
