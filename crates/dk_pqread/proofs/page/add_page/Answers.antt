use Rattle.std.proofs.Common.{rules, w32}
use Rattle.std.proofs.lemmas.Int.{to_z-of_z}
use Rattle.dk_pages.specs.Pages.{page_of}
use Rattle.dk_pages.specs.Split.{parts_of}
use Rattle.dk_pqmodel.specs.ColumnView.{column_of}
use Rattle.dk_pqread.specs.ColumnView.{column_at}
use Rattle.dk_pqread.proofs.PageReading.{dictionary_of, page_by_parts}
use Rattle.dk_pqread.proofs.page.add_page.Goals as goal

pub returns : goal.returns
returns c =
    page_by_parts (column_at c.args.column.now) (dictionary_of c.args.dictionary) (page_of c.args.page.now) (column_of c.args.triples.now) _ c.add_parts.result (parts_of c.in-Ok.parts) _
    (to_z-of_z w32 c.args.page.now.encoding (search rules)) (search rules)
    (search rules) (search rules) c.in-Ok.ensures c.add_parts.ensures
