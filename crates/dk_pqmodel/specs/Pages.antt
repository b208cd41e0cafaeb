-- The page that stands at a place of the bytes.
use Rattle.std.specs.Prelude.{ℕ, ◌+◌, ◌-◌, nat_le, if◌then◌else◌, ℤ, Option, Some, None, option_and_then, List, length, drop, slice_range}
use Rattle.dk_pqmodel.specs.Headers.{header_at}
use Rattle.dk_pqmodel.specs.declared.page.PageHeader.{PageHeader}
use Rattle.dk_pqmodel.specs.declared.page.PageKind.{PageKind}

-- what a page is, apart from where its bytes lie in memory
pub record Page : Type 0 where
  pub kind : PageKind
  pub values : ℕ
  pub encoding : ℤ
  pub rep_code : ℤ
  pub def_code : ℤ
  pub rep_bytes : ℕ
  pub def_bytes : ℕ
  pub body : List ℕ
  pub next : ℕ

-- the page of a header and a body, with the place behind it
abbrev pub page_with : PageHeader → List ℕ → ℕ → Page
page_with h body next = record {
  kind = h.kind;
  values = h.values;
  encoding = h.encoding;
  rep_code = h.rep_code;
  def_code = h.def_code;
  rep_bytes = h.rep_bytes;
  def_bytes = h.def_bytes;
  body = body;
  next = next;
}

-- the page whose body begins at a place: the bytes from there on, as many as the header says
abbrev pub page_from : List ℕ → ℕ → PageHeader → Page
page_from bytes start h = page_with h (slice_range bytes start (start + h.size)) (start + h.size)

-- the body lies inside the bytes
abbrev pub page_within : List ℕ → ℕ → PageHeader → Option Page
page_within bytes start h = if nat_le (start + h.size) (length bytes) then Some (page_from bytes start h) else None

-- the page header that stands there, and the body right behind it
abbrev pub page_at : List ℕ → ℕ → Option Page
page_at bytes place = option_and_then (λ x. page_within bytes (length bytes - length x.1) x.0) (header_at (drop place bytes))
