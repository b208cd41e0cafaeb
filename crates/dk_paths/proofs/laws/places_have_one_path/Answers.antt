-- Both laws are lemmas.
use Rattle.dk_paths.proofs.PlaceLaws.{place_of_path, path_of_place}
use Rattle.dk_paths.proofs.laws.places_have_one_path.Goals as goal

pub returns-clause-place : goal.returns-clause-place
returns-clause-place c = place_of_path

pub returns-clause-path : goal.returns-clause-path
returns-clause-path c = path_of_place
