-- The laws are lemmas.
use Rattle.dk_lawful.proofs.Puts.{put_keeps_lawful, put_adds_commit, put_leaves_floor, taken_adds_nothing}
use Rattle.dk_lawful.proofs.Stays.{next_is_free}
use Rattle.dk_lawful.proofs.Unmanaged.{low_writer_is_unmanaged}
use Rattle.dk_lawful.proofs.laws.next_commit_is_added.Goals as goal

pub returns-clause-lawful : goal.returns-clause-lawful
returns-clause-lawful c = put_keeps_lawful

pub returns-clause-adds : goal.returns-clause-adds
returns-clause-adds c = put_adds_commit

pub returns-clause-free : goal.returns-clause-free
returns-clause-free c = next_is_free

pub returns-clause-taken : goal.returns-clause-taken
returns-clause-taken c = taken_adds_nothing

pub returns-clause-low : goal.returns-clause-low
returns-clause-low c = low_writer_is_unmanaged

pub returns-clause-floor : goal.returns-clause-floor
returns-clause-floor c = put_leaves_floor
