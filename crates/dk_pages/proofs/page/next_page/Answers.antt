use Rattle.std.proofs.Common.{◌∙◌, sym}
use Rattle.dk_pages.specs.Pages.{page_of}
use Rattle.dk_pages.proofs.PageSpellings.{none_is_not_some, page_found, page_only}
use Rattle.dk_pages.proofs.page.next_page.Goals as goal

pub returns-in-Some-clause-spelled : goal.returns-in-Some-clause-spelled
returns-in-Some-clause-spelled c = page_found c.args.bytes.now c.args.at (page_of c.in-Some.page) (sym c.in-Some.ensures)

pub returns-in-None-clause-broken : goal.returns-in-None-clause-broken
returns-in-None-clause-broken c = λ page h. none_is_not_some page (c.in-None.ensures ∙ page_only c.args.bytes.now c.args.at page h)
