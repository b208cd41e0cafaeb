use Rattle.dk_pqwrite.proofs.OwnProjection.{fits_own, own_projection, projected_is_bare}
use Rattle.dk_pqwrite.proofs.BareRows.{own_triples, own_widened}
use Rattle.dk_pqwrite.proofs.laws.a_schema_is_read_over_the_written_one.Goals as goal

pub returns-clause-fitting : goal.returns-clause-fitting
returns-clause-fitting c = fits_own

pub returns-clause-plans : goal.returns-clause-plans
returns-clause-plans c = own_projection

pub returns-clause-cut : goal.returns-clause-cut
returns-clause-cut c = projected_is_bare

pub returns-clause-triples : goal.returns-clause-triples
returns-clause-triples c = own_triples

pub returns-clause-widened : goal.returns-clause-widened
returns-clause-widened c = own_widened
