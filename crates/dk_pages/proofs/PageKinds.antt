-- What the header of each kind of page says, and the page that a header of its kind says.
use Rattle.std.proofs.Common.{◌≡◌, ℕ, ◌^◌, ◌<◌, ◌⊎◌, inl, inr, nat_lt, Bool, true, false, cond, Option, Some, None, option_and_then, ℤ, pos, negsuc, List, ◌++◌, length, refl, sym, ap, subst, ◌∙◌}
use Rattle.std.specs.Ordering.{int_eq}
use Rattle.std.proofs.lemmas.Bool.{ltb-true, lt-ltb}
use Rattle.std.proofs.lemmas.Bool.Decides.{Decides-int_eq}
use Rattle.dk_grammar.specs.Structs.{FieldValues, last_under}
use Rattle.dk_grammar.specs.PageHeaders.{Part, numbers_in, inner_under, SpellsHeader}
use Rattle.dk_pqmodel.specs.Footer.{◌>=◌, int32, natural32}
use Rattle.dk_pqmodel.specs.Headers.{data_header, data_header_v2, dictionary_header, inner_header, page_header_of, rle}
use Rattle.dk_pqmodel.specs.Pages.{Page, page_with}
use Rattle.dk_pages.specs.Spelled.{IsPageAt}
use Rattle.dk_pqmodel.specs.declared.page.PageHeader.{PageHeader}
use Rattle.dk_pqmodel.specs.declared.page.PageKind.{PageKind}
use Rattle.dk_pqmodel.specs.declared.page.PageKind.TheVariants.{DataV1, DataV2, Dictionary}
use Rattle.dk_pages.proofs.PageSpellings.{none_is_not_some, some_is, some_bound, when_is}

-- ---- numbers of headers

pub natural_is : (o : Option ℤ) (n : ℕ) → (o >= natural32) ≡ Some n → (o ≡ Some (pos n)) × (n < 2 ^ 31)
natural_is None n h = absurd (none_is_not_some n h)
natural_is (Some (pos m)) n h = (
    let c = when_is (nat_lt m (2 ^ 31)) m n h in
    (ap (λ k. Some (pos k)) c.1, subst (λ k. k < 2 ^ 31) c.1 (ltb-true m (2 ^ 31) c.0)))
natural_is (Some (negsuc m)) n h = absurd (none_is_not_some n h)

pub is_natural : (o : Option ℤ) (n : ℕ) → o ≡ Some (pos n) → n < 2 ^ 31 → (o >= natural32) ≡ Some n
is_natural o n e small = ap (λ x. x >= natural32) e ∙ rw (lt-ltb n (2 ^ 31) small) refl

pub int32_some : (o : Option ℤ) (z : ℤ) → (o >= int32) ≡ Some z → o ≡ Some z
int32_some None z h = absurd (none_is_not_some z h)
int32_some (Some y) z h = ap Some ((when_is _ y z h).1)

-- ---- headers by their type

abbrev header_with : PageKind → ℕ → ℕ → ℤ → ℤ → ℤ → ℕ → ℕ → PageHeader
header_with kind size values encoding rep_code def_code rep_bytes def_bytes =
    record { kind = kind; size = size; values = values; encoding = encoding; rep_code = rep_code; def_code = def_code; rep_bytes = rep_bytes; def_bytes = def_bytes }

-- the page of such a header
abbrev pub page_of_kind : PageKind → ℕ → ℤ → ℤ → ℤ → ℕ → ℕ → List ℕ → ℕ → Page
page_of_kind kind values encoding rep_code def_code rep_bytes def_bytes body next = record {
  kind = kind;
  values = values;
  encoding = encoding;
  rep_code = rep_code;
  def_code = def_code;
  rep_bytes = rep_bytes;
  def_bytes = def_bytes;
  body = body;
  next = next;
}

-- the headers that follow from their first numbers
abbrev v1_rep : ℕ → ℕ → ℤ → ℤ → ℤ → Option PageHeader
v1_rep size values encoding def_code rep_code = Some (header_with DataV1 size values encoding rep_code def_code 0 0)

abbrev v1_def : ℕ → FieldValues ℤ → ℕ → ℤ → ℤ → Option PageHeader
v1_def size numbers values encoding def_code = option_and_then (v1_rep size values encoding def_code) (last_under (pos 4) numbers >= int32)

abbrev v1_encoding : ℕ → FieldValues ℤ → ℕ → ℤ → Option PageHeader
v1_encoding size numbers values encoding = option_and_then (v1_def size numbers values encoding) (last_under (pos 3) numbers >= int32)

abbrev v1_values : ℕ → FieldValues ℤ → ℕ → Option PageHeader
v1_values size numbers values = option_and_then (v1_encoding size numbers values) (last_under (pos 2) numbers >= int32)

abbrev v2_rep : ℕ → ℕ → ℤ → ℕ → ℕ → Option PageHeader
v2_rep size values encoding def_bytes rep_bytes = Some (header_with DataV2 size values encoding rle rle rep_bytes def_bytes)

abbrev v2_def : ℕ → FieldValues ℤ → ℕ → ℤ → ℕ → Option PageHeader
v2_def size numbers values encoding def_bytes = option_and_then (v2_rep size values encoding def_bytes) (last_under (pos 6) numbers >= natural32)

abbrev v2_encoding : ℕ → FieldValues ℤ → ℕ → ℤ → Option PageHeader
v2_encoding size numbers values encoding = option_and_then (v2_def size numbers values encoding) (last_under (pos 5) numbers >= natural32)

abbrev v2_values : ℕ → FieldValues ℤ → ℕ → Option PageHeader
v2_values size numbers values = option_and_then (v2_encoding size numbers values) (last_under (pos 4) numbers >= int32)

abbrev entry_encoding : ℕ → ℕ → ℤ → Option PageHeader
entry_encoding size values encoding = Some (header_with Dictionary size values encoding rle rle 0 0)

abbrev entry_values : ℕ → FieldValues ℤ → ℕ → Option PageHeader
entry_values size numbers values = option_and_then (entry_encoding size values) (last_under (pos 2) numbers >= int32)

abbrev v1_header : ℕ → FieldValues ℤ → Option PageHeader
v1_header n numbers = data_header n (last_under (pos 1) numbers) (last_under (pos 2) numbers) (last_under (pos 3) numbers) (last_under (pos 4) numbers)

abbrev v2_header : ℕ → FieldValues ℤ → Option PageHeader
v2_header n numbers = data_header_v2 n (last_under (pos 1) numbers) (last_under (pos 4) numbers) (last_under (pos 5) numbers) (last_under (pos 6) numbers)

abbrev entry_header : ℕ → FieldValues ℤ → Option PageHeader
entry_header n numbers = dictionary_header n (last_under (pos 1) numbers) (last_under (pos 2) numbers)

-- ---- what a page's header says

-- a data page of the first version
pub record SaysV1 (parts : FieldValues Part) (body : List ℕ) (page : Page) : Type 0 where
  pub type : last_under (pos 1) (numbers_in parts) ≡ Some (pos 0)
  pub size : (last_under (pos 3) (numbers_in parts) >= natural32) ≡ Some (length body)
  pub values : (last_under (pos 1) (inner_under (pos 5) parts) >= natural32) ≡ Some page.values
  pub encoding : (last_under (pos 2) (inner_under (pos 5) parts) >= int32) ≡ Some page.encoding
  pub def_code : (last_under (pos 3) (inner_under (pos 5) parts) >= int32) ≡ Some page.def_code
  pub rep_code : (last_under (pos 4) (inner_under (pos 5) parts) >= int32) ≡ Some page.rep_code
  pub kind : page.kind ≡ DataV1
  pub held : page.body ≡ body

-- one of the second version
pub record SaysV2 (parts : FieldValues Part) (body : List ℕ) (page : Page) : Type 0 where
  pub type : last_under (pos 1) (numbers_in parts) ≡ Some (pos 3)
  pub size : (last_under (pos 3) (numbers_in parts) >= natural32) ≡ Some (length body)
  pub values : (last_under (pos 1) (inner_under (pos 8) parts) >= natural32) ≡ Some page.values
  pub encoding : (last_under (pos 4) (inner_under (pos 8) parts) >= int32) ≡ Some page.encoding
  pub def_bytes : (last_under (pos 5) (inner_under (pos 8) parts) >= natural32) ≡ Some page.def_bytes
  pub rep_bytes : (last_under (pos 6) (inner_under (pos 8) parts) >= natural32) ≡ Some page.rep_bytes
  pub kind : page.kind ≡ DataV2
  pub held : page.body ≡ body

-- a dictionary page
pub record SaysDictionary (parts : FieldValues Part) (body : List ℕ) (page : Page) : Type 0 where
  pub type : last_under (pos 1) (numbers_in parts) ≡ Some (pos 2)
  pub size : (last_under (pos 3) (numbers_in parts) >= natural32) ≡ Some (length body)
  pub values : (last_under (pos 1) (inner_under (pos 7) parts) >= natural32) ≡ Some page.values
  pub encoding : (last_under (pos 2) (inner_under (pos 7) parts) >= int32) ≡ Some page.encoding
  pub kind : page.kind ≡ Dictionary
  pub held : page.body ≡ body

abbrev pub SaysKind : FieldValues Part → List ℕ → Page → Type 0
SaysKind parts body page = SaysV1 parts body page ⊎ (SaysDictionary parts body page ⊎ SaysV2 parts body page)

module _ (parts : FieldValues Part) (body : List ℕ) (next : ℕ) (said : PageHeader) (size : length body ≡ said.size) where
  abbrev Said : Type 0
  Said = SaysKind parts body (page_with said body next)

  sized : (n : ℕ) → (last_under (pos 3) (numbers_in parts) >= natural32) ≡ Some n → n ≡ said.size → (last_under (pos 3) (numbers_in parts) >= natural32) ≡ Some (length body)
  sized n s e = s ∙ ap Some (e ∙ sym size)

  v1_says : (n : ℕ) → last_under (pos 1) (numbers_in parts) ≡ Some (pos 0) → (last_under (pos 3) (numbers_in parts) >= natural32) ≡ Some n
      → v1_header n (inner_under (pos 5) parts) ≡ Some said → Said
  v1_says n t s h =
      let numbers = inner_under (pos 5) parts in
      let a = some_bound (last_under (pos 1) numbers >= natural32) (v1_values n numbers) said h in
      let b = some_bound (last_under (pos 2) numbers >= int32) (v1_encoding n numbers a.0) said a.1.1 in
      let c = some_bound (last_under (pos 3) numbers >= int32) (v1_def n numbers a.0 b.0) said b.1.1 in
      let d = some_bound (last_under (pos 4) numbers >= int32) (v1_rep n a.0 b.0 c.0) said c.1.1 in
      let is : header_with DataV1 n a.0 b.0 d.0 c.0 0 0 ≡ said = some_is (header_with DataV1 n a.0 b.0 d.0 c.0 0 0) said d.1.1 in
      inl (record {
        type = t;
        size = sized n s (ap (λ (x : PageHeader). x.size) is);
        values = a.1.0 ∙ ap (λ (x : PageHeader). Some x.values) is;
        encoding = b.1.0 ∙ ap (λ (x : PageHeader). Some x.encoding) is;
        def_code = c.1.0 ∙ ap (λ (x : PageHeader). Some x.def_code) is;
        rep_code = d.1.0 ∙ ap (λ (x : PageHeader). Some x.rep_code) is;
        kind = sym (ap (λ (x : PageHeader). x.kind) is);
        held = refl;
      })

  v2_says : (n : ℕ) → last_under (pos 1) (numbers_in parts) ≡ Some (pos 3) → (last_under (pos 3) (numbers_in parts) >= natural32) ≡ Some n
      → v2_header n (inner_under (pos 8) parts) ≡ Some said → Said
  v2_says n t s h =
      let numbers = inner_under (pos 8) parts in
      let a = some_bound (last_under (pos 1) numbers >= natural32) (v2_values n numbers) said h in
      let b = some_bound (last_under (pos 4) numbers >= int32) (v2_encoding n numbers a.0) said a.1.1 in
      let c = some_bound (last_under (pos 5) numbers >= natural32) (v2_def n numbers a.0 b.0) said b.1.1 in
      let d = some_bound (last_under (pos 6) numbers >= natural32) (v2_rep n a.0 b.0 c.0) said c.1.1 in
      let is : header_with DataV2 n a.0 b.0 rle rle d.0 c.0 ≡ said = some_is (header_with DataV2 n a.0 b.0 rle rle d.0 c.0) said d.1.1 in
      inr (inr (record {
        type = t;
        size = sized n s (ap (λ (x : PageHeader). x.size) is);
        values = a.1.0 ∙ ap (λ (x : PageHeader). Some x.values) is;
        encoding = b.1.0 ∙ ap (λ (x : PageHeader). Some x.encoding) is;
        def_bytes = c.1.0 ∙ ap (λ (x : PageHeader). Some x.def_bytes) is;
        rep_bytes = d.1.0 ∙ ap (λ (x : PageHeader). Some x.rep_bytes) is;
        kind = sym (ap (λ (x : PageHeader). x.kind) is);
        held = refl;
      }))

  dictionary_says : (n : ℕ) → last_under (pos 1) (numbers_in parts) ≡ Some (pos 2) → (last_under (pos 3) (numbers_in parts) >= natural32) ≡ Some n
      → entry_header n (inner_under (pos 7) parts) ≡ Some said → Said
  dictionary_says n t s h =
      let numbers = inner_under (pos 7) parts in
      let a = some_bound (last_under (pos 1) numbers >= natural32) (entry_values n numbers) said h in
      let b = some_bound (last_under (pos 2) numbers >= int32) (entry_encoding n a.0) said a.1.1 in
      let is : header_with Dictionary n a.0 b.0 rle rle 0 0 ≡ said = some_is (header_with Dictionary n a.0 b.0 rle rle 0 0) said b.1.1 in
      inr (inl (record {
        type = t;
        size = sized n s (ap (λ (x : PageHeader). x.size) is);
        values = a.1.0 ∙ ap (λ (x : PageHeader). Some x.values) is;
        encoding = b.1.0 ∙ ap (λ (x : PageHeader). Some x.encoding) is;
        kind = sym (ap (λ (x : PageHeader). x.kind) is);
        held = refl;
      }))

  int_is : (x y : ℤ) → int_eq x y ≡ true → x ≡ y
  int_is x y e = (Decides-int_eq x y).0 e

  by_type : (type : ℤ) (n : ℕ) → last_under (pos 1) (numbers_in parts) ≡ Some type → (last_under (pos 3) (numbers_in parts) >= natural32) ≡ Some n → (v1 dictionary v2 : Bool) → int_eq type (pos 0) ≡ v1
      → int_eq type (pos 2) ≡ dictionary → int_eq type (pos 3) ≡ v2
      → cond v1 (v1_header n (inner_under (pos 5) parts)) (cond dictionary (entry_header n (inner_under (pos 7) parts)) (cond v2 (v2_header n (inner_under (pos 8) parts)) None))
      ≡ Some said
      → Said
  by_type type n t s true dictionary v2 e f g is = v1_says n (t ∙ ap Some (int_is type (pos 0) e)) s is
  by_type type n t s false true v2 e f g is = dictionary_says n (t ∙ ap Some (int_is type (pos 2) f)) s is
  by_type type n t s false false true e f g is = v2_says n (t ∙ ap Some (int_is type (pos 3) g)) s is
  by_type type n t s false false false e f g is = absurd (none_is_not_some said is)

  says_kind : page_header_of parts ≡ Some said → Said
  says_kind h =
      let own = numbers_in parts in
      let v1 = inner_under (pos 5) parts in
      let entries = inner_under (pos 7) parts in
      let v2 = inner_under (pos 8) parts in
      let a = some_bound (last_under (pos 1) own) (λ type. last_under (pos 3) own >= natural32 >= λ n. inner_header type n v1 entries v2) said h in
      let b = some_bound (last_under (pos 3) own >= natural32) (λ n. inner_header a.0 n v1 entries v2) said a.1.1 in
      by_type a.0 b.0 a.1.0 b.1.0 (int_eq a.0 (pos 0)) (int_eq a.0 (pos 2)) (int_eq a.0 (pos 3)) refl refl refl b.1.1

-- a page that stands at a place is of one of the three kinds
pub page_kind : (bytes : List ℕ) (place : ℕ) (page : Page) → (at : IsPageAt bytes place page) → SaysKind at.parts at.body page
page_kind bytes place page at =
    subst (λ (p : Page). SaysKind at.parts at.body p) (sym at.is) (says_kind at.parts at.body (length (at.front ++ (at.header ++ at.body))) at.said at.size at.means)

-- ---- and what says so is such a page

module _ (bytes front header body more : List ℕ) (parts : FieldValues Part) (whole : bytes ≡ front ++ (header ++ (body ++ more))) (spelled : SpellsHeader header parts) where
  stands : (said : PageHeader) → page_header_of parts ≡ Some said → length body ≡ said.size → IsPageAt bytes (length front) (page_with said body (length (front ++ (header ++ body))))
  stands said means size = record {
    front = front;
    header = header;
    body = body;
    more = more;
    whole = whole;
    begins = refl;
    parts = parts;
    spelled = spelled;
    said = said;
    means = means;
    size = size;
    is = refl;
  }

  typed : (type : ℤ) (size : ℕ) (said : PageHeader) → last_under (pos 1) (numbers_in parts) ≡ Some type → (last_under (pos 3) (numbers_in parts) >= natural32) ≡ Some size
      → inner_header type size (inner_under (pos 5) parts) (inner_under (pos 7) parts) (inner_under (pos 8) parts) ≡ Some said → page_header_of parts ≡ Some said
  typed type size said t s is = rw (t, s) is

  pub v1_stands : (values : ℕ) (encoding rep_code def_code : ℤ)
      → SaysV1 parts body (page_of_kind DataV1 values encoding rep_code def_code 0 0 body (length (front ++ (header ++ body))))
      → IsPageAt bytes (length front) (page_of_kind DataV1 values encoding rep_code def_code 0 0 body (length (front ++ (header ++ body))))
  v1_stands values encoding rep_code def_code s =
      stands (header_with DataV1 (length body) values encoding rep_code def_code 0 0)
      (typed (pos 0) (length body) (header_with DataV1 (length body) values encoding rep_code def_code 0 0) s.type s.size (rw (s.values, s.encoding, s.def_code, s.rep_code) refl)) refl

  pub v2_stands : (values : ℕ) (encoding : ℤ) (rep_bytes def_bytes : ℕ)
      → SaysV2 parts body (page_of_kind DataV2 values encoding rle rle rep_bytes def_bytes body (length (front ++ (header ++ body))))
      → IsPageAt bytes (length front) (page_of_kind DataV2 values encoding rle rle rep_bytes def_bytes body (length (front ++ (header ++ body))))
  v2_stands values encoding rep_bytes def_bytes s =
      stands (header_with DataV2 (length body) values encoding rle rle rep_bytes def_bytes)
      (typed (pos 3) (length body) (header_with DataV2 (length body) values encoding rle rle rep_bytes def_bytes) s.type s.size (rw (s.values, s.encoding, s.def_bytes, s.rep_bytes) refl)) refl

  pub dictionary_stands : (values : ℕ) (encoding : ℤ) → SaysDictionary parts body (page_of_kind Dictionary values encoding rle rle 0 0 body (length (front ++ (header ++ body))))
      → IsPageAt bytes (length front) (page_of_kind Dictionary values encoding rle rle 0 0 body (length (front ++ (header ++ body))))
  dictionary_stands values encoding s =
      stands (header_with Dictionary (length body) values encoding rle rle 0 0)
      (typed (pos 2) (length body) (header_with Dictionary (length body) values encoding rle rle 0 0) s.type s.size (rw (s.values, s.encoding) refl)) refl
