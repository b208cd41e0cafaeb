-- The parts of a page's body: repetition levels, definition levels, values.
use Rattle.std.specs.Prelude.{ℕ, ◌==◌, nat_le, if◌then◌else◌, Option, Some, None, option_and_then, List, [], length, take, drop}
use Rattle.dk_grammar.specs.Digits.{number_of}
use Rattle.dk_pqmodel.specs.declared.page.PageKind.{PageKind}
use Rattle.dk_pqmodel.specs.declared.page.PageKind.TheVariants.{DataV1, DataV2, Dictionary}
use Rattle.dk_pages.specs.declared.split.Split.{Split}
use Rattle.dk_pqmodel.specs.Pages.{Page}

pub record Parts : Type 0 where
  pub rep : List ℕ
  pub def : List ℕ
  pub values : List ℕ

abbrev pub parts_of : Split → Parts
parts_of s = record { rep = s.rep.now; def = s.def.now; values = s.values.now }

-- so many bytes, and those behind them
abbrev pub cut : ℕ → List ℕ → Option (List ℕ × List ℕ)
cut size bytes = if nat_le size (length bytes) then Some (take size bytes, drop size bytes) else None

-- bytes behind their number, which has four bytes, the least first
abbrev pub sized : List ℕ → Option (List ℕ × List ℕ)
sized bytes = option_and_then (λ x. cut (number_of 256 x.0) x.1) (cut 4 bytes)

-- levels, which are left out where the greatest is 0
abbrev pub levels : ℕ → List ℕ → Option (List ℕ × List ℕ)
levels greatest bytes = if greatest == 0 then Some ([], bytes) else sized bytes

-- repetition levels stand before definition levels, in both versions
abbrev pub split_v1 : ℕ → ℕ → List ℕ → Option Parts
split_v1 rep def body =
    option_and_then (λ x. option_and_then (λ y. Some (record { rep = x.0; def = y.0; values = y.1 })) (levels def x.1)) (levels rep body)

-- the header has the lengths, whatever the greatest levels
abbrev pub split_v2 : ℕ → ℕ → List ℕ → Option Parts
split_v2 rep_bytes def_bytes body =
    option_and_then (λ x. option_and_then (λ y. Some (record { rep = x.0; def = y.0; values = y.1 })) (cut def_bytes x.1)) (cut rep_bytes body)

-- the parts of a page's body, by the greatest levels of its column; a dictionary page has no levels
abbrev pub split_of_kind : PageKind → ℕ → ℕ → Page → Option Parts
split_of_kind DataV1 rep def page = split_v1 rep def page.body
split_of_kind DataV2 rep def page = split_v2 page.rep_bytes page.def_bytes page.body
split_of_kind Dictionary rep def page = Some (record { rep = []; def = []; values = page.body })

abbrev pub split_of : ℕ → ℕ → Page → Option Parts
split_of rep def page = split_of_kind page.kind rep def page
