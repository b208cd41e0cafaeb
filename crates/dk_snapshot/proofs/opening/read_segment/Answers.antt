use Rattle.std.proofs.Common.{ℤ, rules}
use Rattle.std.proofs.lemmas.Int.{to_z-of_z}
use mir.Syntax.{w64}
use Rattle.dk_model.specs.declared.state.TableState.{TableState}
use Rattle.dk_snapshot.proofs.Segments.{segment_read, segment_refused}
use Rattle.dk_snapshot.proofs.opening.read_segment.Goals as goal

pub returns-in-Err-clause-means : goal.returns-in-Err-clause-means
returns-in-Err-clause-means g c =
    segment_refused _ c.args.options.limits c.args.options.now c.as_slice-steps.result.now c.args.segment.now c.args.sizes.now c.in-Err.refusal c.as_slice-steps.ensures c.in-Err.ensures.means

pub returns-in-Ok-clause-means : goal.returns-in-Ok-clause-means
returns-in-Ok-clause-means g c =
    segment_read {X = TableState × ℤ} (λ read. read) _ c.args.options.limits c.args.options.now _ c.oldest_path.result.now c.as_slice-steps.result.now c.args.segment.now c.args.sizes.now c.in-Ok.newest_first.items c.state_of.result
    (to_z-of_z w64 c.args.options.now (search rules)) c.as_slice-steps.ensures c.oldest_path.ensures c.in-Ok.ensures.means c.state_of.ensures.means
