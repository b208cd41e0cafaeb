-- The spelling is the lower-case text of the UUID's bytes.
use Rattle.std.proofs.Common.{ap, ◌∙◌}
use Rattle.uuid.specs.Text.{hyphenated_text, lower}
use Rattle.dk_paths.specs.Numbers.{id_text}
use Rattle.dk_txn.proofs.text.spelled_id.Goals as goal

pub returns : goal.returns
unfolding id_text
returns c = c.encode_lower.ensures.text ∙ ap (hyphenated_text lower) (c.hyphenated.ensures ∙ c.from_u128.ensures)
