-- A data page that stands at a place is what its parts hold.
use Rattle.std.proofs.Common.{◌≡◌, ℕ, zero, suc, ◌+◌, ◌^◌, ◌<◌, ◌==◌, ◌||◌, ◌⊎◌, inl, inr, Bool, true, false, cond, Option, Some, option_and_then, ℤ, pos, List, [], ◌++◌, length, filter_map, refl, sym, ap, subst, ◌∙◌, arith, append_assoc}
use Rattle.std.specs.Ordering.{int_eq}
use Rattle.std.proofs.lemmas.List.{length-append}
use Rattle.std.proofs.lemmas.Bool.{eqb-true}
use Rattle.std.proofs.lemmas.Bool.Decides.{Decides-int_eq}
use Rattle.dk_grammar.specs.Plain.{little}
use Rattle.dk_grammar.specs.Structs.{FieldValues, last_under}
use Rattle.dk_grammar.specs.PageHeaders.{Part, numbers_in, inner_under, SpellsHeader}
use Rattle.dk_grammar.proofs.Bodies.{AreBytes}
use Rattle.dk_pqmodel.specs.Datum.{Value, Triple, Column}
use Rattle.dk_pqmodel.specs.Footer.{int32 as fits32}
use Rattle.dk_pqmodel.specs.FilePages.{ColumnAt, IsSized, HoldValues, HoldTriples, IsDataV1, IsDataV2, IsData}
use Rattle.dk_pqmodel.specs.Headers.{rle}
use Rattle.dk_pqmodel.specs.Pages.{Page}
use Rattle.dk_pages.specs.Spelled.{IsPageAt}
use Rattle.dk_pages.specs.Split.{Parts, cut, sized, levels, split_v1, split_v2, split_of_kind}
use Rattle.dk_pqmodel.specs.declared.page.PageKind.{PageKind}
use Rattle.dk_pqmodel.specs.declared.page.PageKind.TheVariants.{DataV1, DataV2}
use Rattle.dk_pages.proofs.PageKinds.{natural_is, is_natural, int32_some, page_of_kind, SaysV1, SaysV2, SaysKind, page_kind, v1_stands, v2_stands}
use Rattle.dk_pqmodel.specs.Scans.{is_level_code}
use Rattle.dk_pqread.specs.PageMeaning.{PageHolds, is_data}
use Rattle.dk_pqread.proofs.PartLaws.{some_is, some_bound, cut_given, cut_found, sized_given, sized_found, front_bytes, back_bytes}

-- ---- codes of values

-- a code that is read is a number of 32 bits
coded : (column : ColumnAt) (dictionary : Option (List Value)) (code : ℤ) (values : List Value) (bytes : List ℕ) → HoldValues column dictionary code values bytes → option_and_then fits32 (Some code) ≡ Some code
coded column dictionary code values bytes (inl h) = rw h.0 refl
coded column dictionary code values bytes (inr (inl h)) = rw h.0 refl
coded column dictionary code values bytes (inr (inr (inl e, h))) = rw e refl
coded column dictionary code values bytes (inr (inr (inr e, h))) = rw e refl

-- ---- codes of levels

int_is : (x y : ℤ) → int_eq x y ≡ true → x ≡ y
int_is x y e = (Decides-int_eq x y).0 e

is_int : (x y : ℤ) → x ≡ y → int_eq x y ≡ true
is_int x y e = (Decides-int_eq x y).1 e

code_is : (greatest : ℕ) (z : ℤ) → is_level_code greatest z ≡ true → (greatest ≡ 0) ⊎ (z ≡ pos 3)
code_is greatest z h = by_zero (greatest == 0) refl h
  where
    by_zero : (b : Bool) → (greatest == 0) ≡ b → (b || int_eq z (pos 3)) ≡ true → (greatest ≡ 0) ⊎ (z ≡ pos 3)
    by_zero true is g = inl (eqb-true greatest 0 is)
    by_zero false is g = inr (int_is z (pos 3) g)

is_code : (greatest : ℕ) (z : ℤ) → (greatest ≡ 0) ⊎ (z ≡ pos 3) → is_level_code greatest z ≡ true
is_code greatest z (inl e) = rw e refl
is_code greatest z (inr e) = ap (is_level_code greatest) e ∙ or_true (greatest == 0)
  where
    or_true : (b : Bool) → (b || true) ≡ true
    or_true true = refl
    or_true false = refl

-- ---- levels in front of values

positive : (n : ℕ) → (n == 0) ≡ false → 0 < n
positive zero e = cc
positive (suc n) e = omega arith

levels_found : (greatest : ℕ) (bytes runs rest : List ℕ) → AreBytes bytes → levels greatest bytes ≡ Some (runs, rest) → (part : List ℕ) × (bytes ≡ part ++ rest) × IsSized greatest part runs
levels_found greatest bytes runs rest small h = by_zero (greatest == 0) refl h
  where
    by_zero : (b : Bool) → (greatest == 0) ≡ b → cond b (Some ([], bytes)) (sized bytes) ≡ Some (runs, rest) → (part : List ℕ) × (bytes ≡ part ++ rest) × IsSized greatest part runs
    by_zero true is g = (
        let same : ([], bytes) ≡ (runs, rest) = some_is ([], bytes) (runs, rest) g in
        ([], ap (λ (x : List ℕ × List ℕ). x.1) same, inl (eqb-true greatest 0 is, refl, sym (ap (λ (x : List ℕ × List ℕ). x.0) same))))
    by_zero false is g = (
        let s = sized_found bytes runs rest small g in
        let some : 0 < greatest = positive greatest is in
        (little 4 (length runs) ++ runs, s.1 ∙ sym (append_assoc (little 4 (length runs)) runs rest), inr (some, s.0, refl)))

some_levels : (greatest : ℕ) → 0 < greatest → (greatest == 0) ≡ false
some_levels greatest h = by_zero (greatest == 0) refl
  where
    by_zero : (b : Bool) → (greatest == 0) ≡ b → (greatest == 0) ≡ false
    by_zero true is = absurd (omega (arith, h, eqb-true greatest 0 is))
    by_zero false is = is

levels_given : (greatest : ℕ) (part runs rest : List ℕ) → IsSized greatest part runs → levels greatest (part ++ rest) ≡ Some (runs, rest)
levels_given greatest part runs rest (inl h) = rw (h.0, h.1, h.2) refl
levels_given greatest part runs rest (inr h) =
    let apart : part ++ rest ≡ little 4 (length runs) ++ (runs ++ rest) = ap (λ x. x ++ rest) h.2 ∙ append_assoc (little 4 (length runs)) runs rest in
    rw (some_levels greatest h.0) (ap sized apart ∙ sized_given runs rest h.1)

-- ---- one page

abbrev parts_with : List ℕ → List ℕ → List ℕ → Parts
parts_with rep def values = record { rep = rep; def = def; values = values }

module _ (column : ColumnAt) (dictionary : Option (List Value)) (parts : FieldValues Part) (header body : List ℕ) (page : Page) (triples : Column) (spelled : SpellsHeader header parts) (held : PageHolds column dictionary page triples) where
  v1_found : AreBytes body → SaysV1 parts body page → IsDataV1 column dictionary (header ++ body) triples
  v1_found small says =
      let room = natural_is (last_under (pos 3) (numbers_in parts)) (length body) says.size in
      let count = natural_is (last_under (pos 1) (inner_under (pos 5) parts)) page.values says.values in
      let split : split_v1 column.rep column.def body ≡ Some held.parts =
      ap (split_v1 column.rep column.def) (sym says.held) ∙ sym (ap (λ (k : PageKind). split_of_kind k column.rep column.def page) says.kind) ∙ held.split in
      let x = some_bound (levels column.rep body) (λ (x : List ℕ × List ℕ). option_and_then (λ (y : List ℕ × List ℕ). Some (parts_with x.0 y.0 y.1)) (levels column.def x.1)) held.parts split in
      let y = some_bound (levels column.def x.0.1) (λ (y : List ℕ × List ℕ). Some (parts_with x.0.0 y.0 y.1)) held.parts x.1.1 in
      let same : parts_with x.0.0 y.0.0 y.0.1 ≡ held.parts = some_is (parts_with x.0.0 y.0.0 y.0.1) held.parts y.1.1 in
      let first = levels_found column.rep body (x.0.0) (x.0.1) small x.1.0 in
      let rest_small : AreBytes (x.0.1) = back_bytes first.0 (x.0.1) (subst (λ z. AreBytes z) first.1 small) in
      let second = levels_found column.def (x.0.1) (y.0.0) (y.0.1) rest_small y.1.0 in
      record {
        parts = parts;
        body = body;
        page = record { header = header; whole = refl; spelled = spelled; kind = says.type; size = room.0; fits = room.1 };
        count = count.0 ∙ ap (λ n. Some (pos n)) (sym held.count);
        fits = subst (λ n. n < 2 ^ 31) (sym held.count) count.1;
        code = page.encoding;
        encoding = int32_some (last_under (pos 2) (inner_under (pos 5) parts)) page.encoding says.encoding;
        def_code = (page.def_code, says.def_code, code_is column.def page.def_code held.def_code);
        rep_code = (page.rep_code, says.rep_code, code_is column.rep page.rep_code held.rep_code);
        rep_part = first.0;
        def_part = second.0;
        values = y.0.1;
        split = first.1 ∙ ap (λ z. first.0 ++ z) second.1;
        rep = x.0.0;
        def = y.0.0;
        rep_sized = first.2;
        def_sized = second.2;
        triples_held = subst (λ (q : Parts). HoldTriples column dictionary page.encoding q.rep q.def q.values triples) (sym same) held.held;
      }

  v2_found : SaysV2 parts body page → IsDataV2 column dictionary (header ++ body) triples
  v2_found says =
      let room = natural_is (last_under (pos 3) (numbers_in parts)) (length body) says.size in
      let count = natural_is (last_under (pos 1) (inner_under (pos 8) parts)) page.values says.values in
      let split : split_v2 page.rep_bytes page.def_bytes body ≡ Some held.parts =
      ap (split_v2 page.rep_bytes page.def_bytes) (sym says.held) ∙ sym (ap (λ (k : PageKind). split_of_kind k column.rep column.def page) says.kind) ∙ held.split in
      let x = some_bound (cut page.rep_bytes body) (λ (x : List ℕ × List ℕ). option_and_then (λ (y : List ℕ × List ℕ). Some (parts_with x.0 y.0 y.1)) (cut page.def_bytes x.1)) held.parts split in
      let y = some_bound (cut page.def_bytes x.0.1) (λ (y : List ℕ × List ℕ). Some (parts_with x.0.0 y.0 y.1)) held.parts x.1.1 in
      let same : parts_with x.0.0 y.0.0 y.0.1 ≡ held.parts = some_is (parts_with x.0.0 y.0.0 y.0.1) held.parts y.1.1 in
      let first = cut_found page.rep_bytes body (x.0.0) (x.0.1) x.1.0 in
      let second = cut_found page.def_bytes (x.0.1) (y.0.0) (y.0.1) y.1.0 in
      record {
        parts = parts;
        body = body;
        page = record { header = header; whole = refl; spelled = spelled; kind = says.type; size = room.0; fits = room.1 };
        count = count.0 ∙ ap (λ n. Some (pos n)) (sym held.count);
        fits = subst (λ n. n < 2 ^ 31) (sym held.count) count.1;
        code = page.encoding;
        encoding = int32_some (last_under (pos 4) (inner_under (pos 8) parts)) page.encoding says.encoding;
        rep = x.0.0;
        def = y.0.0;
        values = y.0.1;
        split = first.1 ∙ ap (λ z. x.0.0 ++ z) second.1;
        def_size = (natural_is (last_under (pos 5) (inner_under (pos 8) parts)) page.def_bytes says.def_bytes).0 ∙ ap (λ n. Some (pos n)) (sym second.0);
        rep_size = (natural_is (last_under (pos 6) (inner_under (pos 8) parts)) page.rep_bytes says.rep_bytes).0 ∙ ap (λ n. Some (pos n)) (sym first.0);
        triples_held = subst (λ (q : Parts). HoldTriples column dictionary page.encoding q.rep q.def q.values triples) (sym same) held.held;
      }

  by_kind : AreBytes body → SaysKind parts body page → IsData column dictionary (header ++ body) triples
  by_kind small (inl says) = inl (v1_found small says)
  by_kind small (inr (inl says)) = (let never : false ≡ true = sym (ap is_data says.kind) ∙ held.kind in cc)
  by_kind small (inr (inr says)) = inr (v2_found says)

-- a part of the bytes is a data page with these triples, and the page ends where it ends
pub record DataStands (column : ColumnAt) (dictionary : Option (List Value)) (bytes : List ℕ) (place next : ℕ) (triples : Column) : Type 0 where
  pub front : List ℕ
  pub part : List ℕ
  pub more : List ℕ
  pub whole : bytes ≡ front ++ (part ++ more)
  pub begins : length front ≡ place
  pub ends : length (front ++ part) ≡ next
  pub page : IsData column dictionary part triples

pub data_found : (column : ColumnAt) (dictionary : Option (List Value)) (bytes : List ℕ) (place : ℕ) (page : Page) (triples : Column) → AreBytes bytes → IsPageAt bytes place page
    → PageHolds column dictionary page triples → DataStands column dictionary bytes place page.next triples
data_found column dictionary bytes place page triples small at holds =
    let body_small : AreBytes at.body =
    front_bytes at.body at.more (back_bytes at.header (at.body ++ at.more) (back_bytes at.front (at.header ++ (at.body ++ at.more)) (subst (λ z. AreBytes z) at.whole small))) in
    record {
      front = at.front;
      part = at.header ++ at.body;
      more = at.more;
      whole = at.whole ∙ ap (λ z. at.front ++ z) (sym (append_assoc at.header at.body at.more));
      begins = at.begins;
      ends = sym (ap (λ (p : Page). p.next) at.is);
      page = by_kind column dictionary at.parts at.header at.body page triples at.spelled holds body_small (page_kind bytes place page at);
    }

-- the page that stands where a data page is a part of the bytes
pub record HeldPage (column : ColumnAt) (dictionary : Option (List Value)) (bytes : List ℕ) (place next : ℕ) (triples : Column) : Type 0 where
  pub page : Page
  pub at : IsPageAt bytes place page
  pub next_is : page.next ≡ next
  pub holds : PageHolds column dictionary page triples

module _ (column : ColumnAt) (dictionary : Option (List Value)) (bytes front part more : List ℕ) (triples : Column) (whole : bytes ≡ front ++ (part ++ more)) where
  at_front : (header body : List ℕ) → part ≡ header ++ body → bytes ≡ front ++ (header ++ (body ++ more))
  at_front header body is = whole ∙ ap (λ p. front ++ (p ++ more)) is ∙ ap (λ z. front ++ z) (append_assoc header body more)

  v1_given : IsDataV1 column dictionary part triples → HeldPage column dictionary bytes (length front) (length (front ++ part)) triples
  v1_given d =
      let inner = inner_under (pos 5) d.parts in
      let page = page_of_kind DataV1 (length triples) d.code d.rep_code.0 d.def_code.0 0 0 d.body (length (front ++ (d.page.header ++ d.body))) in
      let says : SaysV1 d.parts d.body page = record {
        type = d.page.kind;
        size = is_natural (last_under (pos 3) (numbers_in d.parts)) (length d.body) d.page.size d.page.fits;
        values = is_natural (last_under (pos 1) inner) (length triples) d.count d.fits;
        encoding = ap (option_and_then fits32) d.encoding ∙ coded column dictionary d.code (filter_map (λ (e : Triple). e.value) triples) d.values d.triples_held.held;
        def_code = d.def_code.1;
        rep_code = d.rep_code.1;
        kind = refl;
        held = refl;
      } in
      record {
        page = page;
        at = v1_stands bytes front d.page.header d.body more d.parts (at_front d.page.header d.body d.page.whole) d.page.spelled (length triples) d.code d.rep_code.0 d.def_code.0 says;
        next_is = ap (λ p. length (front ++ p)) (sym d.page.whole);
        holds = record {
          kind = refl;
          count = refl;
          rep_code = is_code column.rep d.rep_code.0 d.rep_code.2;
          def_code = is_code column.def d.def_code.0 d.def_code.2;
          parts = parts_with d.rep d.def d.values;
          split =
              ap (split_v1 column.rep column.def) d.split
              ∙ rw (levels_given column.rep d.rep_part d.rep (d.def_part ++ d.values) d.rep_sized, levels_given column.def d.def_part d.def d.values d.def_sized) refl;
          held = d.triples_held;
        };
      }

  v2_given : IsDataV2 column dictionary part triples → HeldPage column dictionary bytes (length front) (length (front ++ part)) triples
  v2_given d =
      let inner = inner_under (pos 8) d.parts in
      let long : length d.body ≡ length d.rep + length (d.def ++ d.values) = ap length d.split ∙ length-append d.rep (d.def ++ d.values) in
      let behind : length (d.def ++ d.values) ≡ length d.def + length d.values = length-append d.def d.values in
      let rep_fits : length d.rep < 2 ^ 31 = omega (arith, long, d.page.fits) in
      let def_fits : length d.def < 2 ^ 31 = omega (arith, long, behind, d.page.fits) in
      let page = page_of_kind DataV2 (length triples) d.code rle rle (length d.rep) (length d.def) d.body (length (front ++ (d.page.header ++ d.body))) in
      let says : SaysV2 d.parts d.body page = record {
        type = d.page.kind;
        size = is_natural (last_under (pos 3) (numbers_in d.parts)) (length d.body) d.page.size d.page.fits;
        values = is_natural (last_under (pos 1) inner) (length triples) d.count d.fits;
        encoding = ap (option_and_then fits32) d.encoding ∙ coded column dictionary d.code (filter_map (λ (e : Triple). e.value) triples) d.values d.triples_held.held;
        def_bytes = is_natural (last_under (pos 5) inner) (length d.def) d.def_size def_fits;
        rep_bytes = is_natural (last_under (pos 6) inner) (length d.rep) d.rep_size rep_fits;
        kind = refl;
        held = refl;
      } in
      record {
        page = page;
        at = v2_stands bytes front d.page.header d.body more d.parts (at_front d.page.header d.body d.page.whole) d.page.spelled (length triples) d.code (length d.rep) (length d.def) says;
        next_is = ap (λ p. length (front ++ p)) (sym d.page.whole);
        holds = record {
          kind = refl;
          count = refl;
          rep_code = is_code column.rep rle (inr refl);
          def_code = is_code column.def rle (inr refl);
          parts = parts_with d.rep d.def d.values;
          split =
              ap (split_v2 (length d.rep) (length d.def)) d.split
              ∙ rw (cut_given d.rep (d.def ++ d.values) (length d.rep) refl, cut_given d.def d.values (length d.def) refl) refl;
          held = d.triples_held;
        };
      }

  pub data_given : IsData column dictionary part triples → HeldPage column dictionary bytes (length front) (length (front ++ part)) triples
  data_given (inl d) = v1_given d
  data_given (inr d) = v2_given d
