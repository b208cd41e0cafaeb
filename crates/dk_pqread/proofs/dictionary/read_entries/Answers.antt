use Rattle.std.proofs.Common.{rules}
use Rattle.dk_pages.specs.Pages.{page_of}
use Rattle.dk_pqread.specs.LeafView.{leaf_of}
use Rattle.dk_pqread.proofs.DictionaryPages.{entries_by_body}
use Rattle.dk_pqread.proofs.ValueReading.{values_in}
use Rattle.dk_pqread.proofs.dictionary.read_entries.Goals as goal

pub returns : goal.returns
returns c = entries_by_body values_in c.whole_values.result (leaf_of c.args.kind) (page_of c.args.page.now) (search rules) (search rules) c.whole_values.ensures
