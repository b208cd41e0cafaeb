-- The laws are lemmas.
use Rattle.dk_lawful.proofs.IdsOnce as ids
use Rattle.dk_lawful.proofs.id_laws.ids_stand_once.Goals as goal

pub returns-clause-once : goal.returns-clause-once
returns-clause-once c = ids.ids_stand_once

pub returns-clause-stay : goal.returns-clause-stay
returns-clause-stay c = ids.ids_stay

pub returns-clause-no_more : goal.returns-clause-no_more
returns-clause-no_more c = ids.ids_are_no_more

pub returns-clause-added : goal.returns-clause-added
returns-clause-added c = ids.added_stands_at

pub returns-clause-for_good : goal.returns-clause-for_good
returns-clause-for_good c = ids.stands_at_for_good
