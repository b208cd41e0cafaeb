use Rattle.dk_grammar.proofs.StructSpellings.{headers}
use Rattle.dk_pages.proofs.PageSpellings.{page_found, page_only}
use Rattle.dk_pages.proofs.laws.pages_are_read_by_their_grammar.Goals as goal

pub returns-clause-header : goal.returns-clause-header
returns-clause-header c = headers

pub returns-clause-found : goal.returns-clause-found
returns-clause-found c = page_found

pub returns-clause-only : goal.returns-clause-only
returns-clause-only c = page_only
