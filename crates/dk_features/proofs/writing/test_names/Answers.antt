use Rattle.std.proofs.Common.{false, ap, sym, ◌∙◌}
use Rattle.dk_features.specs.Invariants.{uses_invariants}
use Rattle.dk_features.specs.Support.{answer_of, unwritten_listed}
use Rattle.dk_features.proofs.Unused.{unused, answers}
use Rattle.dk_features.proofs.writing.test_names.Goals as goal

pub returns-else-is_listed : goal.returns-else-is_listed
returns-else-is_listed c =
    answers (unwritten_listed (uses_invariants c.args.schema.now) c.args.names.now) c.test_listed-else-is_listed.result
    (c.test_listed-else-is_listed.ensures ∙ ap answer_of (unused false (uses_invariants c.args.schema.now) c.args.names.now (sym c.is_listed.ensures ∙ c.if-is_listed.false)))
