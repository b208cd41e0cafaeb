use Rattle.std.proofs.Common.{ap, ◌∙◌}
use Rattle.dk_lawful.specs.Rules.{begins_unenabled}
use Rattle.dk_rules.proofs.RuleWalks.{breaks_2, breaks_3, breaks_4, breaks_5, breaks_6, breaks_7, breaks_8, breaks_9, breaks_11, breaks_none, tells}
use Rattle.dk_rules.proofs.rules.first_broken.Goals as goal

pub returns-then-not-keeps_kinds : goal.returns-then-not-keeps_kinds
returns-then-not-keeps_kinds c = λ txn_id. breaks_2 txn_id c.args.before.now c.args.version c.args.actions.now (tells _ _ _ c.keeps_heads.ensures c.if-not-keeps_heads.false) (tells _ _ _ (c.keeps_kinds.ensures txn_id) c.if-not-keeps_kinds.true)

pub returns-then-not-branch : goal.returns-then-not-branch
returns-then-not-branch c = λ txn_id. breaks_3 txn_id c.args.before.now c.args.version c.args.actions.now (tells _ _ _ c.keeps_heads.ensures c.if-not-keeps_heads.false) (tells _ _ _ (c.keeps_kinds.ensures txn_id) c.if-not-keeps_kinds.false) (tells _ _ _ c.in_ok-keeps_paths_apart.ensures c.if-not-branch.true)

pub returns-then-not-branch-2 : goal.returns-then-not-branch-2
returns-then-not-branch-2 c = λ txn_id. breaks_4 txn_id c.args.before.now c.args.version c.args.actions.now (tells _ _ _ c.keeps_heads.ensures c.if-not-keeps_heads.false) (tells _ _ _ (c.keeps_kinds.ensures txn_id) c.if-not-keeps_kinds.false) (tells _ _ _ c.in_ok-keeps_paths_apart.ensures c.if-not-branch.false) (tells _ _ _ c.in_ok-keeps_names_apart.ensures c.if-not-branch-2.true)

pub returns-then-not-branch-3 : goal.returns-then-not-branch-3
returns-then-not-branch-3 c = λ txn_id. breaks_5 txn_id c.args.before.now c.args.version c.args.actions.now (tells _ _ _ c.keeps_heads.ensures c.if-not-keeps_heads.false) (tells _ _ _ (c.keeps_kinds.ensures txn_id) c.if-not-keeps_kinds.false) (tells _ _ _ c.in_ok-keeps_paths_apart.ensures c.if-not-branch.false) (tells _ _ _ c.in_ok-keeps_names_apart.ensures c.if-not-branch-2.false) (tells _ _ _ c.in_ok-keeps_protocol.ensures c.if-not-branch-3.true)

pub returns-then-not-branch-4 : goal.returns-then-not-branch-4
returns-then-not-branch-4 c = λ txn_id. breaks_6 txn_id c.args.before.now c.args.version c.args.actions.now (tells _ _ _ c.keeps_heads.ensures c.if-not-keeps_heads.false) (tells _ _ _ (c.keeps_kinds.ensures txn_id) c.if-not-keeps_kinds.false) (tells _ _ _ c.in_ok-keeps_paths_apart.ensures c.if-not-branch.false) (tells _ _ _ c.in_ok-keeps_names_apart.ensures c.if-not-branch-2.false) (tells _ _ _ c.in_ok-keeps_protocol.ensures c.if-not-branch-3.false) (tells _ _ _ c.in_ok-keeps_writer.ensures c.if-not-branch-4.true)

pub returns-then-not-keeps_rows : goal.returns-then-not-keeps_rows
returns-then-not-keeps_rows c = λ txn_id. breaks_7 txn_id c.args.before.now c.args.version c.args.actions.now (tells _ _ _ c.keeps_heads.ensures c.if-not-keeps_heads.false) (tells _ _ _ (c.keeps_kinds.ensures txn_id) c.if-not-keeps_kinds.false) (tells _ _ _ c.in_ok-keeps_paths_apart.ensures c.if-not-branch.false) (tells _ _ _ c.in_ok-keeps_names_apart.ensures c.if-not-branch-2.false) (tells _ _ _ c.in_ok-keeps_protocol.ensures c.if-not-branch-3.false) (tells _ _ _ c.in_ok-keeps_writer.ensures c.if-not-branch-4.false) (tells _ _ _ c.keeps_rows.ensures c.if-not-keeps_rows.true)

pub returns-then-not-keeps_domains : goal.returns-then-not-keeps_domains
returns-then-not-keeps_domains c = λ txn_id. breaks_8 txn_id c.args.before.now c.args.version c.args.actions.now (tells _ _ _ c.keeps_heads.ensures c.if-not-keeps_heads.false) (tells _ _ _ (c.keeps_kinds.ensures txn_id) c.if-not-keeps_kinds.false) (tells _ _ _ c.in_ok-keeps_paths_apart.ensures c.if-not-branch.false) (tells _ _ _ c.in_ok-keeps_names_apart.ensures c.if-not-branch-2.false) (tells _ _ _ c.in_ok-keeps_protocol.ensures c.if-not-branch-3.false) (tells _ _ _ c.in_ok-keeps_writer.ensures c.if-not-branch-4.false) (tells _ _ _ c.keeps_rows.ensures c.if-not-keeps_rows.false) (tells _ _ _ c.keeps_domains.ensures c.if-not-keeps_domains.true)

pub returns-then-not-begins_unenabled : goal.returns-then-not-begins_unenabled
returns-then-not-begins_unenabled c = λ txn_id. breaks_9 txn_id c.args.before.now c.args.version c.args.actions.now (tells _ _ _ c.keeps_heads.ensures c.if-not-keeps_heads.false) (tells _ _ _ (c.keeps_kinds.ensures txn_id) c.if-not-keeps_kinds.false) (tells _ _ _ c.in_ok-keeps_paths_apart.ensures c.if-not-branch.false) (tells _ _ _ c.in_ok-keeps_names_apart.ensures c.if-not-branch-2.false) (tells _ _ _ c.in_ok-keeps_protocol.ensures c.if-not-branch-3.false) (tells _ _ _ c.in_ok-keeps_writer.ensures c.if-not-branch-4.false) (tells _ _ _ c.keeps_rows.ensures c.if-not-keeps_rows.false) (tells _ _ _ c.keeps_domains.ensures c.if-not-keeps_domains.false) (tells _ _ _ (c.begins_unenabled.ensures ∙ ap (begins_unenabled c.args.version) c.metadata_after.ensures) c.if-not-begins_unenabled.true)

pub returns-then-not-keeps_adds : goal.returns-then-not-keeps_adds
returns-then-not-keeps_adds c = λ txn_id. breaks_11 txn_id c.args.before.now c.args.version c.args.actions.now (tells _ _ _ c.keeps_heads.ensures c.if-not-keeps_heads.false) (tells _ _ _ (c.keeps_kinds.ensures txn_id) c.if-not-keeps_kinds.false) (tells _ _ _ c.in_ok-keeps_paths_apart.ensures c.if-not-branch.false) (tells _ _ _ c.in_ok-keeps_names_apart.ensures c.if-not-branch-2.false) (tells _ _ _ c.in_ok-keeps_protocol.ensures c.if-not-branch-3.false) (tells _ _ _ c.in_ok-keeps_writer.ensures c.if-not-branch-4.false) (tells _ _ _ c.keeps_rows.ensures c.if-not-keeps_rows.false) (tells _ _ _ c.keeps_domains.ensures c.if-not-keeps_domains.false) (tells _ _ _ (c.begins_unenabled.ensures ∙ ap (begins_unenabled c.args.version) c.metadata_after.ensures) c.if-not-begins_unenabled.false) (tells _ _ _ c.keeps_adds.ensures c.if-not-keeps_adds.true)

pub returns : goal.returns
returns c = λ txn_id. breaks_none txn_id c.args.before.now c.args.version c.args.actions.now (tells _ _ _ c.keeps_heads.ensures c.if-not-keeps_heads.false) (tells _ _ _ (c.keeps_kinds.ensures txn_id) c.if-not-keeps_kinds.false) (tells _ _ _ c.in_ok-keeps_paths_apart.ensures c.if-not-branch.false) (tells _ _ _ c.in_ok-keeps_names_apart.ensures c.if-not-branch-2.false) (tells _ _ _ c.in_ok-keeps_protocol.ensures c.if-not-branch-3.false) (tells _ _ _ c.in_ok-keeps_writer.ensures c.if-not-branch-4.false) (tells _ _ _ c.keeps_rows.ensures c.if-not-keeps_rows.false) (tells _ _ _ c.keeps_domains.ensures c.if-not-keeps_domains.false) (tells _ _ _ (c.begins_unenabled.ensures ∙ ap (begins_unenabled c.args.version) c.metadata_after.ensures) c.if-not-begins_unenabled.false) (tells _ _ _ c.keeps_adds.ensures c.if-not-keeps_adds.false)
