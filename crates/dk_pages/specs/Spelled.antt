-- Where a page stands, apart from reading it.
use Rattle.std.specs.Prelude.{◌≡◌, ℕ, Some, List, ◌++◌, length}
use Rattle.dk_grammar.specs.Structs.{FieldValues}
use Rattle.dk_grammar.specs.PageHeaders.{Part, SpellsHeader}
use Rattle.dk_pqmodel.specs.Headers.{page_header_of}
use Rattle.dk_pqmodel.specs.Pages.{Page, page_with}
use Rattle.dk_pqmodel.specs.declared.page.PageHeader.{PageHeader}

-- A page stands at a place: there a header is spelled, and right behind it lies a body of the size that it says.
pub record IsPageAt (bytes : List ℕ) (place : ℕ) (page : Page) : Type 0 where
  pub front : List ℕ
  pub header : List ℕ
  pub body : List ℕ
  pub more : List ℕ
  pub whole : bytes ≡ front ++ (header ++ (body ++ more))
  pub begins : length front ≡ place
  pub parts : FieldValues Part
  pub spelled : SpellsHeader header parts
  pub said : PageHeader
  pub means : page_header_of parts ≡ Some said
  pub size : length body ≡ said.size
  pub is : page ≡ page_with said body (length (front ++ (header ++ body)))
