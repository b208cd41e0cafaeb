-- A page as plain data, and what reading one answers.
use Rattle.std.specs.Prelude.{◌≡◌, Option, Some, None, Result, Ok, Err}
use Rattle.dk_pqmodel.specs.Pages.{Page}
use Rattle.dk_pqmodel.specs.declared.fault.PqFault.{PqFault}
use Rattle.dk_pqmodel.specs.declared.fault.PqFault.TheVariants.{Broken}
use Rattle.dk_pages.specs.declared.page.PageView.{PageView}

abbrev pub page_of : PageView → Page
page_of p = record {
  kind = p.kind;
  values = p.values;
  encoding = p.encoding;
  rep_code = p.rep_code;
  def_code = p.def_code;
  rep_bytes = p.rep_bytes;
  def_bytes = p.def_bytes;
  body = p.body.now;
  next = p.next;
}

-- an answer is what stands there; the one refusal says that nothing does
abbrev pub AnswersOrBroken : {X Y : Type 0} → (X → Y) → Result X PqFault → Option Y → Type 0
AnswersOrBroken view (Ok x) meaning = meaning ≡ Some (view x)
AnswersOrBroken view (Err fault) meaning = (fault ≡ Broken) × (meaning ≡ None)
