-- A page is found exactly where one is spelled.
use Rattle.std.proofs.Common.{◌≡◌, ℕ, ◌+◌, ◌-◌, ◌<◌, ◌≤◌, nat_le, Bool, true, false, cond, Option, Some, None, option_map, option_and_then, Ok, Err, pos, List, ◌++◌, length, take, drop, refl, sym, ap, ◌∙◌, arith, append_assoc, length-drop, slice_range}
use Rattle.std.proofs.Math.Seq.{take-append_seam, drop-append_seam}
use Rattle.std.proofs.lemmas.List.{take-append-drop, length-append, length-take-le}
use Rattle.std.proofs.lemmas.Bool.{leb-true, le-leb}
use Rattle.dk_grammar.specs.Thrift.{Front}
use Rattle.dk_grammar.specs.Structs.{FieldValues, struct_at}
use Rattle.dk_grammar.specs.PageHeaders.{Part, part_meaning, SpellsHeader, SpellsPart}
use Rattle.dk_pqmodel.specs.Headers.{page_header_of, page_header_in, header_at}
use Rattle.dk_pqmodel.specs.Pages.{Page, page_with, page_from, page_within, page_at}
use Rattle.dk_pages.specs.Spelled.{IsPageAt}
use Rattle.dk_pqmodel.specs.declared.page.PageHeader.{PageHeader}
use Rattle.dk_grammar.proofs.StructSpellings.{fields_long, headers}

pub none_is_not_some : {A : Type 0} (x : A) → None ≡ Some x → ⊥
none_is_not_some x h = cc

pub some_is : {A : Type 0} (x y : A) → Some x ≡ Some y → x ≡ y
some_is x y h = cc

pub some_bound : {A B : Type 0} (o : Option A) (f : A → Option B) (y : B) → option_and_then f o ≡ Some y → (x : A) × ((o ≡ Some x) × (f x ≡ Some y))
some_bound None f y h = absurd (none_is_not_some y h)
some_bound (Some x) f y h = (x, (refl, h))

map_bound : {A B : Type 0} (o : Option A) (f : A → B) (y : B) → option_map f o ≡ Some y → (x : A) × ((o ≡ Some x) × (f x ≡ y))
map_bound None f y h = absurd (none_is_not_some y h)
map_bound (Some x) f y h = (x, (refl, some_is (f x) y h))

pub when_is : {A : Type 0} (b : Bool) (x y : A) → cond b (Some x) None ≡ Some y → (b ≡ true) × (x ≡ y)
when_is true x y h = (refl, some_is x y h)
when_is false x y h = absurd (none_is_not_some y h)

header_found : (r : Front (FieldValues Part)) (x : PageHeader × List ℕ) → page_header_in r ≡ Some x → (parts : FieldValues Part) × ((r ≡ Ok (parts, x.1)) × (page_header_of parts ≡ Some x.0))
header_found (Err flaw) x h = absurd (none_is_not_some x h)
header_found (Ok y) x h =
    let z = map_bound (page_header_of y.0) (λ header. (header, y.1)) x h in
    (y.0, (ap (λ more. Ok (y.0, more.1)) z.1.1, z.1.0 ∙ ap (λ more. Some more.0) z.1.1))

sub_is : (m n : ℕ) → (m + n) - m ≡ n
sub_is m n = omega arith

-- the middle of three parts
middle : (front body more : List ℕ) (n : ℕ) → length body ≡ n → slice_range (front ++ (body ++ more)) (length front) (length front + n) ≡ body
middle front body more n e = rw (sub_is (length front) n, drop-append_seam, ← e, take-append_seam) refl

-- the page that is cut, where the bytes are known by their parts
within : (front body more bytes : List ℕ) (start : ℕ) (said : PageHeader) → bytes ≡ front ++ (body ++ more) → start ≡ length front → length body ≡ said.size
    → page_within bytes start said ≡ Some (page_with said body (length (front ++ body)))
within front body more bytes start said e s size =
    let l : length (front ++ (body ++ more)) ≡ length front + length (body ++ more) = length-append front (body ++ more) in
    let m : length (body ++ more) ≡ length body + length more = length-append body more in
    let k : length (front ++ body) ≡ length front + length body = length-append front body in
    let room : length front + said.size ≤ length (front ++ (body ++ more)) = omega arith in
    let next : length front + said.size ≡ length (front ++ body) = omega arith in
    rw (e, s, le-leb (length front + said.size) (length (front ++ (body ++ more))) room)
    (ap (λ part. Some (page_with said part (length front + said.size))) (middle front body more said.size size) ∙ ap (λ place. Some (page_with said body place)) next)

page_spelled : (front header body more : List ℕ) (parts : FieldValues Part) (said : PageHeader) → SpellsHeader header parts → page_header_of parts ≡ Some said → length body ≡ said.size
    → page_at (front ++ (header ++ (body ++ more))) (length front) ≡ Some (page_with said body (length (front ++ (header ++ body))))
page_spelled front header body more parts said s m size =
    let whole : front ++ (header ++ (body ++ more)) ≡ (front ++ header) ++ (body ++ more) = sym (append_assoc front header (body ++ more)) in
    let l : length ((front ++ header) ++ (body ++ more)) ≡ length (front ++ header) + length (body ++ more) = length-append (front ++ header) (body ++ more) in
    let k : length (front ++ (header ++ (body ++ more))) ≡ length ((front ++ header) ++ (body ++ more)) = ap length whole in
    let start : length (front ++ (header ++ (body ++ more))) - length (body ++ more) ≡ length (front ++ header) = omega arith in
    rw (drop-append_seam, headers.given header (body ++ more) parts s, m)
    (within (front ++ header) body more (front ++ (header ++ (body ++ more))) _ said whole start size ∙ ap (λ part. Some (page_with said body (length part))) (append_assoc front header body))

pub page_only : (bytes : List ℕ) (place : ℕ) (page : Page) → IsPageAt bytes place page → page_at bytes place ≡ Some page
page_only bytes place page p =
    ap (λ whole. page_at whole place) p.whole ∙ ap (λ begins. page_at (p.front ++ (p.header ++ (p.body ++ p.more))) begins) (sym p.begins)
    ∙ page_spelled p.front p.header p.body p.more p.parts p.said p.spelled p.means p.size ∙ ap Some (sym p.is)

pub page_found : (bytes : List ℕ) (place : ℕ) (page : Page) → page_at bytes place ≡ Some page → IsPageAt bytes place page
page_found bytes place page h =
    let x = some_bound (header_at (drop place bytes)) (λ x. page_within bytes (length bytes - length x.1) x.0) page h in
    let said = x.0.0 in
    let rest = x.0.1 in
    let f = header_found (struct_at part_meaning (drop place bytes)) x.0 x.1.0 in
    let t = headers.spelled (drop place bytes) rest f.0 f.1.0 in
    let start = length bytes - length rest in
    let c = when_is (nat_le (start + said.size) (length bytes)) (page_from bytes start said) page x.1.1 in
    let inside : start + said.size ≤ length bytes = leb-true (start + said.size) (length bytes) c.0 in
    let long : t.2.0 < length t.0 = fields_long SpellsPart t.2.0 (pos 0) t.0 f.0 t.2.1 in
    let left : length (drop place bytes) ≡ length bytes - place = length-drop place bytes in
    let both : length (drop place bytes) ≡ length t.0 + length rest = ap length t.1 ∙ length-append t.0 rest in
    let placed : place ≤ length bytes = omega arith in
    let room : said.size ≤ length rest = omega arith in
    let begins : length (take place bytes) ≡ place = length-take-le place bytes placed in
    let size : length (take said.size rest) ≡ said.size = length-take-le said.size rest room in
    let whole : bytes ≡ take place bytes ++ (t.0 ++ (take said.size rest ++ drop said.size rest)) =
    sym (take-append-drop place bytes) ∙ ap (λ more. take place bytes ++ more) (t.1 ∙ ap (λ more. t.0 ++ more) (sym (take-append-drop said.size rest))) in
    record {
      front = take place bytes;
      header = t.0;
      body = take said.size rest;
      more = drop said.size rest;
      whole = whole;
      begins = begins;
      parts = f.0;
      spelled = t.2;
      said = said;
      means = f.1.1;
      size = size;
      is =
          some_is page _
          (sym h ∙ ap (λ more. page_at more place) whole ∙ ap (λ begins. page_at (take place bytes ++ (t.0 ++ (take said.size rest ++ drop said.size rest))) begins) (sym begins)
          ∙ page_spelled (take place bytes) t.0 (take said.size rest) (drop said.size rest) f.0 said t.2 f.1.1 size);
    }
