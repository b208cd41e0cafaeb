-- The laws are lemmas.
use Rattle.dk_lawful.proofs.Calls.{put_new_keeps_lawful, put_over_keeps_lawful, delete_keeps_lawful, ratify_keeps_lawful, forget_keeps_lawful, no_cut_is_same, same_is_past_each, keeps_lawful_onwards}
use Rattle.dk_lawful.proofs.laws.calls_keep_the_law.Goals as goal

pub returns-clause-put_new : goal.returns-clause-put_new
returns-clause-put_new c = put_new_keeps_lawful

pub returns-clause-put_over : goal.returns-clause-put_over
returns-clause-put_over c = put_over_keeps_lawful

pub returns-clause-delete : goal.returns-clause-delete
returns-clause-delete c = delete_keeps_lawful

pub returns-clause-ratify : goal.returns-clause-ratify
returns-clause-ratify c = ratify_keeps_lawful

pub returns-clause-forget : goal.returns-clause-forget
returns-clause-forget c = forget_keeps_lawful

pub returns-clause-same : goal.returns-clause-same
returns-clause-same c = no_cut_is_same

pub returns-clause-past_each : goal.returns-clause-past_each
returns-clause-past_each c = same_is_past_each

pub returns-clause-onwards : goal.returns-clause-onwards
returns-clause-onwards c = keeps_lawful_onwards
