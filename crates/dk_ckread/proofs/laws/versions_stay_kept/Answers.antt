-- The law on versions that stay, as a file means one list of rows.
use Rattle.dk_lawful.proofs.KeptVersions.{each_from_floor_is_kept}
use Rattle.dk_pqread.proofs.OneList.{one_list}
use Rattle.dk_ckread.proofs.laws.versions_stay_kept.Goals as goal

pub returns : goal.returns
returns c = each_from_floor_is_kept one_list
