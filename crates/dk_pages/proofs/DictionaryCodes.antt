-- A dictionary page has no encodings of levels of its own: they count as RLE.
use Rattle.std.proofs.Common.{◌≡◌, ℕ, Bool, true, false, cond, ℤ, pos, Option, Some, None, List, refl, sym, ap, subst, ◌∙◌}
use Rattle.std.specs.Ordering.{int_eq}
use Rattle.dk_grammar.specs.Structs.{FieldValues, last_under}
use Rattle.dk_grammar.specs.PageHeaders.{Part, numbers_in, inner_under}
use Rattle.dk_pqmodel.specs.Headers.{page_header_of, inner_header, data_header, dictionary_header, data_header_v2, rle}
use Rattle.dk_pqmodel.specs.Footer.{◌>=◌, int32, natural32}
use Rattle.dk_pqmodel.specs.Pages.{Page}
use Rattle.dk_pages.specs.Spelled.{IsPageAt}
use Rattle.dk_pqmodel.specs.declared.page.PageHeader.{PageHeader}
use Rattle.dk_pqmodel.specs.declared.page.PageKind.TheVariants.{DataV1, DataV2, Dictionary}
use Rattle.dk_pages.proofs.PageSpellings.{none_is_not_some, some_is, some_bound}

not_v1 : (size : ℕ) (a : Option ℕ) (b c d : Option ℤ) (said : PageHeader)
    → (a >= λ values. b >= λ encoding. c >= λ def_code. d >= λ rep_code.
    Some (record { kind = DataV1; size = size; values = values; encoding = encoding; rep_code = rep_code; def_code = def_code; rep_bytes = 0; def_bytes = 0 })) ≡ Some said
    → said.kind ≡ DataV1
not_v1 size (Some a) (Some b) (Some c) (Some d) said h = ap (λ (x : PageHeader). x.kind) (sym (some_is _ said h))
not_v1 size None b c d said h = absurd (none_is_not_some said h)
not_v1 size (Some a) None c d said h = absurd (none_is_not_some said h)
not_v1 size (Some a) (Some b) None d said h = absurd (none_is_not_some said h)
not_v1 size (Some a) (Some b) (Some c) None said h = absurd (none_is_not_some said h)

not_v2 : (size : ℕ) (a : Option ℕ) (b : Option ℤ) (c d : Option ℕ) (said : PageHeader)
    → (a >= λ values. b >= λ encoding. c >= λ def_bytes. d >= λ rep_bytes.
    Some (record { kind = DataV2; size = size; values = values; encoding = encoding; rep_code = rle; def_code = rle; rep_bytes = rep_bytes; def_bytes = def_bytes })) ≡ Some said
    → said.kind ≡ DataV2
not_v2 size (Some a) (Some b) (Some c) (Some d) said h = ap (λ (x : PageHeader). x.kind) (sym (some_is _ said h))
not_v2 size None b c d said h = absurd (none_is_not_some said h)
not_v2 size (Some a) None c d said h = absurd (none_is_not_some said h)
not_v2 size (Some a) (Some b) None d said h = absurd (none_is_not_some said h)
not_v2 size (Some a) (Some b) (Some c) None said h = absurd (none_is_not_some said h)

abbrev HasRle : PageHeader → Type 0
HasRle said = (said.rep_code ≡ rle) × (said.def_code ≡ rle)

has_rle : (size : ℕ) (a : Option ℕ) (b : Option ℤ) (said : PageHeader)
    → (a >= λ values. b >= λ encoding.
    Some (record { kind = Dictionary; size = size; values = values; encoding = encoding; rep_code = rle; def_code = rle; rep_bytes = 0; def_bytes = 0 })) ≡ Some said
    → HasRle said
has_rle size (Some a) (Some b) said h = subst HasRle (some_is _ said h) (refl, refl)
has_rle size None b said h = absurd (none_is_not_some said h)
has_rle size (Some a) None said h = absurd (none_is_not_some said h)

typed_rle : (type : ℤ) (size : ℕ) (v1 entries v2 : FieldValues ℤ) (said : PageHeader) → inner_header type size v1 entries v2 ≡ Some said → said.kind ≡ Dictionary → HasRle said
typed_rle type size v1 entries v2 said h is = by_type (int_eq type (pos 0)) (int_eq type (pos 2)) (int_eq type (pos 3)) h
  where
    by_type : (a b c : Bool)
        → cond a (data_header size (last_under (pos 1) v1) (last_under (pos 2) v1) (last_under (pos 3) v1) (last_under (pos 4) v1))
        (cond b (dictionary_header size (last_under (pos 1) entries) (last_under (pos 2) entries))
        (cond c (data_header_v2 size (last_under (pos 1) v2) (last_under (pos 4) v2) (last_under (pos 5) v2) (last_under (pos 6) v2)) None)) ≡ Some said
        → HasRle said
    by_type true b c e =
        (let k = not_v1 size (last_under (pos 1) v1 >= natural32) (last_under (pos 2) v1 >= int32) (last_under (pos 3) v1 >= int32) (last_under (pos 4) v1 >= int32) said e in cc)
    by_type false true c e = has_rle size (last_under (pos 1) entries >= natural32) (last_under (pos 2) entries >= int32) said e
    by_type false false true e =
        (let k = not_v2 size (last_under (pos 1) v2 >= natural32) (last_under (pos 4) v2 >= int32) (last_under (pos 5) v2 >= natural32) (last_under (pos 6) v2 >= natural32) said e in cc)
    by_type false false false e = absurd (none_is_not_some said e)

header_rle : (parts : FieldValues Part) (said : PageHeader) → page_header_of parts ≡ Some said → said.kind ≡ Dictionary → HasRle said
header_rle parts said h is =
    let own = numbers_in parts in
    let v1 = inner_under (pos 5) parts in
    let entries = inner_under (pos 7) parts in
    let v2 = inner_under (pos 8) parts in
    let t = some_bound (last_under (pos 1) own) (λ type. last_under (pos 3) own >= natural32 >= λ size. inner_header type size v1 entries v2) said h in
    let s = some_bound (last_under (pos 3) own >= natural32) (λ size. inner_header t.0 size v1 entries v2) said t.1.1 in
    typed_rle t.0 s.0 v1 entries v2 said s.1.1 is

pub dictionary_codes : (bytes : List ℕ) (place : ℕ) (page : Page) → IsPageAt bytes place page → page.kind ≡ Dictionary → (page.rep_code ≡ rle) × (page.def_code ≡ rle)
dictionary_codes bytes place page at is =
    let said = header_rle at.parts at.said at.means (sym (ap (λ (p : Page). p.kind) at.is) ∙ is) in
    (ap (λ (p : Page). p.rep_code) at.is ∙ said.0, ap (λ (p : Page). p.def_code) at.is ∙ said.1)
