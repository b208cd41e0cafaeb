-- A dictionary page that stands at a place is its entries.
use Rattle.std.proofs.Common.{◌≡◌, ℕ, ◌^◌, ◌<◌, ◌⊎◌, ◌||◌, inl, inr, Bool, true, false, Option, Some, option_and_then, Result, ℤ, pos, List, [], ◌∷◌, ◌++◌, length, refl, sym, ap, subst, ◌∙◌, append_assoc, arith}
use Rattle.std.specs.Ordering.{int_eq}
use Rattle.std.proofs.lemmas.List.{append-nil}
use Rattle.std.proofs.lemmas.Bool.Decides.{Decides-int_eq}
use Rattle.dk_grammar.specs.Plain.{plain_values}
use Rattle.dk_grammar.specs.Structs.{FieldValues, last_under}
use Rattle.dk_grammar.specs.PageHeaders.{Part, numbers_in, inner_under, SpellsHeader}
use Rattle.dk_grammar.proofs.Bodies.{AreBytes}
use Rattle.dk_pqmodel.specs.Shape.{Leaf}
use Rattle.dk_pqmodel.specs.Datum.{Value}
use Rattle.dk_pqmodel.specs.FilePages.{IsDictionary}
use Rattle.dk_pqmodel.specs.declared.fault.PqFault.{PqFault}
use Rattle.dk_pqmodel.specs.Footer.{int32 as fits32}
use Rattle.dk_pqmodel.specs.Headers.{rle}
use Rattle.dk_pqmodel.specs.Pages.{Page}
use Rattle.dk_pages.specs.Spelled.{IsPageAt}
use Rattle.dk_pqmodel.specs.declared.page.PageKind.{PageKind}
use Rattle.dk_pqmodel.specs.declared.page.PageKind.TheVariants.{DataV1, DataV2, Dictionary}
use Rattle.dk_pages.proofs.PageKinds.{natural_is, is_natural, int32_some, page_of_kind, SaysDictionary, SaysKind, page_kind, dictionary_stands}
use Rattle.dk_pqread.specs.ChunkMeaning.{AreWhole, EntriesHold, is_dictionary, is_entry_code}
use Rattle.dk_levels.specs.Answers.{FailsMeant}
use Rattle.dk_pqread.specs.Meanings.{RefusesMeaning, Finds}
use Rattle.dk_pqread.specs.Values.{plains_at}
use Rattle.dk_pqread.proofs.Finding.{fails_refuses, finds_as}
use Rattle.dk_pqread.proofs.PartLaws.{none_is_not_some, some_is}
use Rattle.dk_pqread.proofs.PlainLaws.{plains_found, plains_given}

-- a part of the bytes is a dictionary page with these entries, and the page ends where it ends
pub record DictionaryStands (kind : Leaf) (bytes : List ℕ) (place next : ℕ) (entries : List Value) : Type 0 where
  pub front : List ℕ
  pub part : List ℕ
  pub more : List ℕ
  pub whole : bytes ≡ front ++ (part ++ more)
  pub begins : length front ≡ place
  pub ends : length (front ++ part) ≡ next
  pub dictionary : IsDictionary kind part entries

code_fits : (code : ℤ) → (code ≡ pos 0) ⊎ (code ≡ pos 2) → option_and_then fits32 (Some code) ≡ Some code
code_fits code (inl e) = rw e refl
code_fits code (inr e) = rw e refl

module _ (kind : Leaf) (parts : FieldValues Part) (header body : List ℕ) (page : Page) (entries : List Value) (spelled : SpellsHeader header parts) (held : EntriesHold kind page entries) where
  entries_found : SaysDictionary parts body page → IsDictionary kind (header ++ body) entries
  entries_found says =
      let room = natural_is (last_under (pos 3) (numbers_in parts)) (length body) says.size in
      let count = natural_is (last_under (pos 1) (inner_under (pos 7) parts)) page.values says.values in
      record {
        parts = parts;
        body = body;
        page = record { header = header; whole = refl; spelled = spelled; kind = says.type; size = room.0; fits = room.1 };
        count = count.0 ∙ ap (λ n. Some (pos n)) (sym held.held.count);
        fits = subst (λ n. n < 2 ^ 31) (sym held.held.count) count.1;
        code = page.encoding;
        encoding = int32_some (last_under (pos 2) (inner_under (pos 7) parts)) page.encoding says.encoding;
        coded = held.coded;
        plains = held.held.plains;
        whole = sym says.held ∙ held.held.whole;
        same = held.held.same;
      }

  by_kind : SaysKind parts body page → IsDictionary kind (header ++ body) entries
  by_kind (inl says) = (let never : Dictionary ≡ DataV1 = sym held.is ∙ says.kind in cc)
  by_kind (inr (inl says)) = entries_found says
  by_kind (inr (inr says)) = (let never : Dictionary ≡ DataV2 = sym held.is ∙ says.kind in cc)

pub dictionary_found : (kind : Leaf) (bytes : List ℕ) (place : ℕ) (page : Page) (entries : List Value) → IsPageAt bytes place page → EntriesHold kind page entries → DictionaryStands kind bytes place page.next entries
dictionary_found kind bytes place page entries at holds = record {
  front = at.front;
  part = at.header ++ at.body;
  more = at.more;
  whole = at.whole ∙ ap (λ z. at.front ++ z) (sym (append_assoc at.header at.body at.more));
  begins = at.begins;
  ends = sym (ap (λ (p : Page). p.next) at.is);
  dictionary = by_kind kind at.parts at.header at.body page entries at.spelled holds (page_kind bytes place page at);
}

-- the page that stands where a dictionary page is a part of the bytes
pub record HeldEntries (kind : Leaf) (bytes : List ℕ) (place next : ℕ) (entries : List Value) : Type 0 where
  pub page : Page
  pub at : IsPageAt bytes place page
  pub next_is : page.next ≡ next
  pub holds : EntriesHold kind page entries

pub dictionary_given : (kind : Leaf) (bytes front part more : List ℕ) (entries : List Value) → bytes ≡ front ++ (part ++ more) → IsDictionary kind part entries
    → HeldEntries kind bytes (length front) (length (front ++ part)) entries
dictionary_given kind bytes front part more entries whole d =
    let inner = inner_under (pos 7) d.parts in
    let page = page_of_kind Dictionary (length entries) d.code rle rle 0 0 d.body (length (front ++ (d.page.header ++ d.body))) in
    let says : SaysDictionary d.parts d.body page = record {
      type = d.page.kind;
      size = is_natural (last_under (pos 3) (numbers_in d.parts)) (length d.body) d.page.size d.page.fits;
      values = is_natural (last_under (pos 1) inner) (length entries) d.count d.fits;
      encoding = ap (option_and_then fits32) d.encoding ∙ code_fits d.code d.coded;
      kind = refl;
      held = refl;
    } in
    let apart : bytes ≡ front ++ (d.page.header ++ (d.body ++ more)) = whole ∙ ap (λ p. front ++ (p ++ more)) d.page.whole ∙ ap (λ z. front ++ z) (append_assoc d.page.header d.body more) in
    record {
      page = page;
      at = dictionary_stands bytes front d.page.header d.body more d.parts apart d.page.spelled (length entries) d.code says;
      next_is = ap (λ p. length (front ++ p)) (sym d.page.whole);
      holds = record { is = refl; coded = d.coded; held = record { count = refl; plains = d.plains; whole = d.whole; same = d.same } };
    }

-- ---- entries

abbrev Taken : Type 0
Taken = List Value × List ℕ

-- such values are read, and nothing is left
whole_read : (kind : Leaf) (total : ℕ) (bytes : List ℕ) (values : List Value) → AreWhole kind total bytes values → ◌≡◌ {A = Option Taken} (plains_at kind total bytes) (Some (values, []))
whole_read kind total bytes values h =
    ap (λ n. plains_at kind n bytes) (sym h.count) ∙ ap (plains_at kind (length values)) (h.whole ∙ sym (append-nil (plain_values h.plains))) ∙ plains_given kind h.plains values [] h.same

pub entries_once : (kind : Leaf) (page : Page) (a b : List Value) → EntriesHold kind page a → EntriesHold kind page b → a ≡ b
entries_once kind page a b first second =
    let e : ◌≡◌ {A = Taken} (a, []) (b, []) =
    some_is {A = Taken} (a, []) (b, []) (sym (whole_read kind page.values page.body a first.held) ∙ whole_read kind page.values page.body b second.held) in
    ap (λ (x : Taken). x.0) e

module _ (kind : Leaf) (total : ℕ) (bytes : List ℕ) where
  pub whole_refused : (fault : PqFault) → FailsMeant fault (plains_at kind total bytes) → RefusesMeaning fault (AreWhole kind total bytes)
  whole_refused fault h =
      fails_refuses fault (plains_at kind total bytes) (AreWhole kind total bytes) (λ none values held. none_is_not_some (values, []) (sym none ∙ whole_read kind total bytes values held)) h

  module _ (values : List Value) (rest : List ℕ) (read : ◌≡◌ {A = Option Taken} (plains_at kind total bytes) (Some (values, rest))) where
    pub whole_stand : AreBytes bytes → length rest ≡ 0 → AreWhole kind total bytes values
    whole_stand small none =
        let found = plains_found kind total bytes rest values small read in
        record {
          count = found.count;
          plains = found.ps;
          whole = found.whole ∙ ap (λ r. plain_values found.ps ++ r) (nothing rest none) ∙ append-nil (plain_values found.ps);
          same = found.are;
        }
      where
        nothing : (xs : List ℕ) → length xs ≡ 0 → xs ≡ []
        nothing [] e = refl
        nothing (x ∷ xs) e = absurd (omega (arith, e))

    pub more_behind : (length rest ≡ 0 → ⊥) → (others : List Value) → AreWhole kind total bytes others → ⊥
    more_behind some others h =
        let e : ◌≡◌ {A = Taken} (values, rest) (others, []) = some_is {A = Taken} (values, rest) (others, []) (sym read ∙ whole_read kind total bytes others h) in
        some (ap (λ (x : Taken). length x.1) e)

dictionary_is : (kind : PageKind) → is_dictionary kind ≡ true → kind ≡ Dictionary
dictionary_is DataV1 e = cc
dictionary_is DataV2 e = cc
dictionary_is Dictionary e = refl

code_is : (code : ℤ) → is_entry_code code ≡ true → (code ≡ pos 0) ⊎ (code ≡ pos 2)
code_is code e = by_plain (int_eq code (pos 0)) refl e
  where
    by_plain : (b : Bool) → int_eq code (pos 0) ≡ b → (b || int_eq code (pos 2)) ≡ true → (code ≡ pos 0) ⊎ (code ≡ pos 2)
    by_plain true is g = inl ((Decides-int_eq code (pos 0)).0 is)
    by_plain false is g = inr ((Decides-int_eq code (pos 2)).0 g)

-- the entries of a dictionary page are the values of its body
pub entries_by_body : {X : Type 0} (view : X → List Value) (result : Result X PqFault) (kind : Leaf) (page : Page) → is_dictionary page.kind ≡ true → is_entry_code page.encoding ≡ true
    → Finds view result (AreWhole kind page.values page.body) → Finds view result (EntriesHold kind page)
entries_by_body view result kind page is coded h =
    finds_as view result (AreWhole kind page.values page.body) (EntriesHold kind page) (λ entries whole. record { is = dictionary_is page.kind is; coded = code_is page.encoding coded; held = whole }) (λ entries e. e.held) h
