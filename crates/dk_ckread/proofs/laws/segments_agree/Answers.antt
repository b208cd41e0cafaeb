-- The law of segments, as a file means one list of rows.
use Rattle.dk_lawful.proofs.SegmentsAgree.{read_agrees}
use Rattle.dk_pqread.proofs.OneList.{one_list}
use Rattle.dk_ckread.proofs.laws.segments_agree.Goals as goal

pub returns : goal.returns
returns c = read_agrees one_list
