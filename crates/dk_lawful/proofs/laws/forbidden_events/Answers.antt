-- Each event lacks one condition.
use Rattle.dk_lawful.proofs.Example as example
use Rattle.dk_lawful.proofs.MoreExamples as more
use Rattle.dk_lawful.proofs.laws.forbidden_events.Goals as goal

pub returns-clause-gap : goal.returns-clause-gap
returns-clause-gap c = example.gap

pub returns-clause-again : goal.returns-clause-again
returns-clause-again c = example.again

pub returns-clause-taken : goal.returns-clause-taken
returns-clause-taken c = example.taken

pub returns-clause-unreadable : goal.returns-clause-unreadable
returns-clause-unreadable c = example.unreadable

pub returns-clause-path_twice : goal.returns-clause-path_twice
returns-clause-path_twice c = example.path_twice

pub returns-clause-no_protocol : goal.returns-clause-no_protocol
returns-clause-no_protocol c = example.no_protocol

pub returns-clause-features : goal.returns-clause-features
returns-clause-features c = example.features

pub returns-clause-upgrade : goal.returns-clause-upgrade
returns-clause-upgrade c = example.upgrade

pub returns-clause-size : goal.returns-clause-size
returns-clause-size c = example.size

pub returns-clause-managed : goal.returns-clause-managed
returns-clause-managed c = example.managed

pub returns-clause-over : goal.returns-clause-over
returns-clause-over c = example.over

pub returns-clause-deleted : goal.returns-clause-deleted
returns-clause-deleted c = example.deleted

pub returns-clause-wrong_sum : goal.returns-clause-wrong_sum
returns-clause-wrong_sum c = more.wrong_sum

pub returns-clause-unreadable_sum : goal.returns-clause-unreadable_sum
returns-clause-unreadable_sum c = more.unreadable_sum

pub returns-clause-sum_beyond : goal.returns-clause-sum_beyond
returns-clause-sum_beyond c = more.sum_beyond

pub returns-clause-staged_below : goal.returns-clause-staged_below
returns-clause-staged_below c = more.staged_below

pub returns-clause-unmanaged : goal.returns-clause-unmanaged
returns-clause-unmanaged c = more.unmanaged_ratified

pub returns-clause-forgotten : goal.returns-clause-forgotten
returns-clause-forgotten c = more.forgotten_early
