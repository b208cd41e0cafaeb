-- Data pages one behind another are read in order, and a chunk's are those behind its dictionary.
use Rattle.std.proofs.Common.{◌≡◌, ℕ, zero, suc, ◌+◌, ◌-◌, ◌<◌, ◌≤◌, ◌⊎◌, inl, inr, true, false, Option, Some, None, Result, pos, List, [], ◌∷◌, ◌++◌, length, take, drop, refl, sym, ap, subst, ◌∙◌, arith, append_assoc}
use Rattle.std.specs.List.{flat_map}
use Rattle.std.proofs.lemmas.List.{length-append, length-take-le, take-append-drop, append-nil}
use Rattle.dk_grammar.specs.PageHeaders.{SpellsPart}
use Rattle.dk_grammar.proofs.Bodies.{AreBytes}
use Rattle.dk_grammar.proofs.Runs.{same_front}
use Rattle.dk_grammar.proofs.StructSpellings.{fields_long}
use Rattle.dk_pqmodel.specs.Datum.{Value, Column}
use Rattle.dk_pqmodel.specs.Footer.{Chunk}
use Rattle.dk_pqmodel.specs.FileMeans.{HasPages, HasTriples}
use Rattle.dk_pqmodel.specs.FilePages.{ColumnAt, physical_type, AreData, IsFirst}
use Rattle.dk_pqmodel.specs.declared.fault.PqFault.{PqFault}
use Rattle.dk_pqmodel.specs.Pages.{Page, page_at}
use Rattle.dk_pages.specs.Spelled.{IsPageAt}
use Rattle.dk_pqmodel.specs.declared.page.PageKind.{PageKind}
use Rattle.dk_pqmodel.specs.declared.page.PageKind.TheVariants.{DataV1, DataV2, Dictionary}
use Rattle.dk_pages.proofs.PageSpellings.{page_only, page_found}
use Rattle.dk_pqread.specs.ChunkMeaning.{EntriesHold, DataFrom, is_dictionary}
use Rattle.dk_pqread.specs.Meanings.{RefusesMeaning, Finds}
use Rattle.dk_pqread.specs.PageMeaning.{PageHolds, AddsTriples, is_data}
use Rattle.dk_pqmodel.specs.Scans.{first_place}
use Rattle.dk_pqread.proofs.DataPages.{data_found, data_given}
use Rattle.dk_pqread.proofs.DictionaryPages.{dictionary_found, dictionary_given, entries_once}
use Rattle.dk_pqread.proofs.Finding.{refuses_by, finds_as}
use Rattle.dk_pqread.proofs.PageTriples.{page_once}
use Rattle.dk_pqread.proofs.PartLaws.{none_is_not_some, some_is}

-- a page has a header, and lies within the bytes
pub page_goes_on : (bytes : List ℕ) (place : ℕ) (page : Page) → IsPageAt bytes place page → (place < page.next) × (page.next ≤ length bytes)
page_goes_on bytes place page at =
    let long : at.spelled.0 < length at.header = fields_long SpellsPart at.spelled.0 (pos 0) at.header at.parts at.spelled.1 in
    let next : page.next ≡ length (at.front ++ (at.header ++ at.body)) = ap (λ (p : Page). p.next) at.is in
    let a : length (at.front ++ (at.header ++ at.body)) ≡ length at.front + length (at.header ++ at.body) = length-append at.front (at.header ++ at.body) in
    let b : length (at.header ++ at.body) ≡ length at.header + length at.body = length-append at.header at.body in
    let c : length bytes ≡ length at.front + length (at.header ++ (at.body ++ at.more)) = ap length at.whole ∙ length-append at.front (at.header ++ (at.body ++ at.more)) in
    let d : length (at.header ++ (at.body ++ at.more)) ≡ length at.header + length (at.body ++ at.more) = length-append at.header (at.body ++ at.more) in
    let e : length (at.body ++ at.more) ≡ length at.body + length at.more = length-append at.body at.more in
    (omega (arith, long, next, a, b, at.begins), omega (arith, next, a, b, c, d, e))

module _ (before : List ℕ) (column : ColumnAt) (dictionary : Option (List Value)) where
  abbrev From : ℕ → ℕ → Column → Type 0
  From place count triples = DataFrom before column dictionary place count triples

  -- a page and those behind it
  data_more : AreBytes before → (place : ℕ) (page : Page) (new rest : Column) (count : ℕ) → IsPageAt before place page → PageHolds column dictionary page new → From page.next count rest
      → From place (length new + count) (new ++ rest)
  data_more small place page new rest count at holds d =
      let s = data_found column dictionary before place page new small at holds in
      let fronts : length d.front ≡ length (s.front ++ s.part) = d.begins ∙ sym s.ends in
      let same = same_front d.front (s.front ++ s.part) (flat_map (λ x. x.0) d.pages ++ d.behind) s.more fronts (sym d.whole ∙ s.whole ∙ sym (append_assoc s.front s.part s.more)) in
      record {
        front = s.front;
        pages = (s.part, new) ∷ d.pages;
        behind = d.behind;
        whole =
            s.whole ∙ ap (λ z. s.front ++ (s.part ++ z)) (sym same.1) ∙ ap (λ z. s.front ++ z) (sym (append_assoc s.part (flat_map (λ x. x.0) d.pages) d.behind));
        begins = s.begins;
        read = (s.page, d.read);
        joined = ap (λ z. new ++ z) d.joined;
        count = length-append new rest ∙ ap (λ n. length new + n) d.count;
      }

  -- the first page, where there are triples
  pub record FirstPage (place count : ℕ) (all : Column) : Type 0 where
    pub page : Page
    pub at : IsPageAt before place page
    pub new : Column
    pub holds : PageHolds column dictionary page new
    pub rest : Column
    pub all_is : all ≡ new ++ rest
    pub behind : From page.next (count - length new) rest
    pub room : length new ≤ count

  first_page : (front behind : List ℕ) (pages : List (List ℕ × Column)) (all : Column) (count : ℕ) → 0 < count → before ≡ front ++ (flat_map (λ x. x.0) pages ++ behind) → AreData column dictionary pages
      → all ≡ flat_map (λ x. x.1) pages → length all ≡ count → FirstPage (length front) count all
  first_page front behind [] all count some whole read joined len = absurd (omega (arith, some, len, ap length joined))
  first_page front behind (x ∷ xs) all count some whole read joined len =
      let apart : before ≡ front ++ (x.0 ++ (flat_map (λ x. x.0) xs ++ behind)) = whole ∙ ap (λ z. front ++ z) (append_assoc x.0 (flat_map (λ x. x.0) xs) behind) in
      let h = data_given column dictionary before front x.0 (flat_map (λ x. x.0) xs ++ behind) x.1 apart read.0 in
      let long : length all ≡ length x.1 + length (flat_map (λ x. x.1) xs) = ap length joined ∙ length-append x.1 (flat_map (λ x. x.1) xs) in
      record {
        page = h.page;
        at = h.at;
        new = x.1;
        holds = h.holds;
        rest = flat_map (λ x. x.1) xs;
        all_is = joined;
        behind = record {
          front = front ++ x.0;
          pages = xs;
          behind = behind;
          whole = apart ∙ sym (append_assoc front x.0 (flat_map (λ x. x.0) xs ++ behind));
          begins = sym h.next_is;
          read = read.1;
          joined = refl;
          count = omega (arith, long, len);
        };
        room = omega (arith, long, len);
      }

  pub data_first : (place count : ℕ) (all : Column) → 0 < count → From place count all → FirstPage place count all
  data_first place count all some d = subst (λ n. FirstPage n count all) d.begins (first_page d.front d.behind d.pages all count some d.whole d.read d.joined d.count)

  data_none : (place : ℕ) → place ≤ length before → From place 0 []
  data_none place within = record {
    front = take place before;
    pages = [];
    behind = drop place before;
    whole = sym (take-append-drop place before);
    begins = length-take-le place before within;
    read = tt;
    joined = refl;
    count = refl;
  }

  -- The triples that are done and those that are meant from the place on are all.
  pub record GoesOn (start count place wanted : ℕ) (done : Column) : Type 0 where
    pub within : place ≤ length before
    pub there : (rest : Column) → From place wanted rest → From start count (done ++ rest)
    pub only : (all : Column) → From start count all → (rest : Column) × (all ≡ done ++ rest) × From place wanted rest

  pub begins : (start count : ℕ) → start ≤ length before → GoesOn start count start count []
  begins start count within = record { within = within; there = λ rest d. d; only = λ all d. (all, refl, d) }

  module _ (start count place wanted : ℕ) (done : Column) (g : GoesOn start count place wanted done) where
    pub ended : wanted ≡ 0 → From start count done
    ended none = subst (From start count) (append-nil done) (g.there [] (subst (λ n. From place n []) (sym none) (data_none place g.within)))

    module _ (some : 0 < wanted) where
      pub no_page : page_at before place ≡ None → (all : Column) → From start count all → ⊥
      no_page none all d =
          let r = g.only all d in
          let f = data_first place wanted r.0 some r.2 in
          none_is_not_some f.page (sym none ∙ page_only before place f.page f.at)

      module _ (page : Page) (found : page_at before place ≡ Some page) where
        same_page : (all : Column) (f : FirstPage place wanted all) → f.page ≡ page
        same_page all f = some_is f.page page (sym (page_only before place f.page f.at) ∙ found)

        pub too_many : wanted < page.values → (all : Column) → From start count all → ⊥
        too_many many all d =
            let r = g.only all d in
            let f = data_first place wanted r.0 some r.2 in
            let values : f.page.values ≡ page.values = ap (λ (p : Page). p.values) (same_page r.0 f) in
            omega (arith, many, values, f.holds.count, f.room)

        pub page_refused : (fault : PqFault) → RefusesMeaning fault (AddsTriples done (PageHolds column dictionary page)) → RefusesMeaning fault (From start count)
        page_refused fault h =
            refuses_by fault (AddsTriples done (PageHolds column dictionary page)) (From start count)
            (λ all d. (
            let r = g.only all d in
            let f = data_first place wanted r.0 some r.2 in
            (done ++ f.new, (f.new, refl, subst (λ (p : Page). PageHolds column dictionary p f.new) (same_page r.0 f) f.holds))))
            h

        pub page_more : AreBytes before → (left : ℕ) (now : Column) → page.values ≤ wanted → left ≡ wanted - page.values → AddsTriples done (PageHolds column dictionary page) now → GoesOn start count page.next left now
        page_more small left now enough is (new, added, holds) =
            let at = page_found before place page found in
            record {
              within = (page_goes_on before place page at).1;
              there = λ rest d. (
                  let total : length new + left ≡ wanted = omega (arith, holds.count, is, enough) in
                  let whole : From place wanted (new ++ rest) = subst (λ n. From place n (new ++ rest)) total (data_more small place page new rest left at holds d) in
                  let joined : done ++ (new ++ rest) ≡ now ++ rest = sym (append_assoc done new rest) ∙ ap (λ x. x ++ rest) (sym added) in
                  subst (From start count) joined (g.there (new ++ rest) whole));
              only = λ all d. (
                  let r = g.only all d in
                  let f = data_first place wanted r.0 some r.2 in
                  let page_is = same_page r.0 f in
                  let new_is : f.new ≡ new = page_once column dictionary page f.new new (subst (λ (p : Page). PageHolds column dictionary p f.new) page_is f.holds) holds in
                  let count_is : wanted - length f.new ≡ left = omega (arith, ap length new_is, holds.count, is) in
                  let rest_there : From page.next left f.rest = subst (λ n. From page.next n f.rest) count_is (subst (λ (p : Page). From p.next (wanted - length f.new) f.rest) page_is f.behind) in
                  (f.rest, r.1 ∙ ap (λ x. done ++ x) (f.all_is ∙ ap (λ x. x ++ f.rest) new_is) ∙ sym (append_assoc done new f.rest) ∙ ap (λ x. x ++ f.rest) (sym added), rest_there));
            }

-- ---- a chunk

-- the pages of a chunk, behind its dictionary if it has one
abbrev pub ReadAs : List ℕ → ColumnAt → Chunk → Column → Type 0
ReadAs before column chunk triples =
    DataFrom before column None (first_place chunk) chunk.values triples
    ⊎ ((page : Page) × (entries : List Value) × (IsPageAt before (first_place chunk) page) × (EntriesHold column.kind page entries) × DataFrom before column (Some entries) page.next chunk.values triples)

module _ (before : List ℕ) (column : ColumnAt) (chunk : Chunk) where
  pages_mean : (triples : Column) → length triples ≡ chunk.values → HasPages before column chunk triples → ReadAs before column chunk triples
  pages_mean triples count h = by_dictionary h.dictionary h.entries h.read
    where
      by_dictionary : (dictionary : Option (List Value)) → IsFirst column.kind dictionary h.first → AreData column dictionary h.pages → ReadAs before column chunk triples
      by_dictionary None none read = inl (record {
        front = h.front;
        pages = h.pages;
        behind = h.behind;
        whole = h.whole ∙ ap (λ f. h.front ++ (f ++ (flat_map (λ x. x.0) h.pages ++ h.behind))) none;
        begins = h.begins;
        read = read;
        joined = h.joined;
        count = count;
      })
      by_dictionary (Some entries) is read =
          let g = dictionary_given column.kind before h.front h.first (flat_map (λ x. x.0) h.pages ++ h.behind) entries h.whole is in
          inr (
            g.page,
            entries,
            subst (λ n. IsPageAt before n g.page) h.begins g.at,
            g.holds,
            record {
              front = h.front ++ h.first;
              pages = h.pages;
              behind = h.behind;
              whole = h.whole ∙ sym (append_assoc h.front h.first (flat_map (λ x. x.0) h.pages ++ h.behind));
              begins = sym g.next_is;
              read = read;
              joined = h.joined;
              count = count;
            },
          )

  pub chunk_means : 0 < chunk.values → (triples : Column) → HasTriples before column chunk triples → ReadAs before column chunk triples
  chunk_means some triples h = by_pages h.pages
    where
      by_pages : (chunk.values ≡ 0) ⊎ HasPages before column chunk triples → ReadAs before column chunk triples
      by_pages (inl none) = absurd (omega (arith, some, none))
      by_pages (inr pages) = pages_mean triples h.count pages

  module _ (plain : chunk.codec ≡ pos 0) (typed : chunk.physical ≡ physical_type column.kind) where
    pub means_chunk : (triples : Column) → ReadAs before column chunk triples → HasTriples before column chunk triples
    means_chunk triples (inl d) = record {
      plain = plain;
      typed = typed;
      count = d.count;
      pages = inr (record {
        front = d.front;
        first = [];
        pages = d.pages;
        behind = d.behind;
        whole = d.whole;
        begins = d.begins;
        dictionary = None;
        entries = refl;
        read = d.read;
        joined = d.joined;
      });
    }
    means_chunk triples (inr (page, entries, at, holds, d)) =
        let s = dictionary_found column.kind before (first_place chunk) page entries at holds in
        let fronts : length d.front ≡ length (s.front ++ s.part) = d.begins ∙ sym s.ends in
        let same = same_front d.front (s.front ++ s.part) (flat_map (λ x. x.0) d.pages ++ d.behind) s.more fronts (sym d.whole ∙ s.whole ∙ sym (append_assoc s.front s.part s.more)) in
        record {
          plain = plain;
          typed = typed;
          count = d.count;
          pages = inr (record {
            front = s.front;
            first = s.part;
            pages = d.pages;
            behind = d.behind;
            whole = s.whole ∙ ap (λ z. s.front ++ (s.part ++ z)) (sym same.1);
            begins = s.begins;
            dictionary = Some entries;
            entries = s.dictionary;
            read = d.read;
            joined = d.joined;
          });
        }

    pub nothing_wanted : chunk.values ≡ 0 → HasTriples before column chunk []
    nothing_wanted none = record { plain = plain; typed = typed; count = sym none; pages = inl none }

-- ---- a chunk holds at most one list of triples

no_triples : (a b : Column) (count : ℕ) → count ≡ 0 → length a ≡ count → length b ≡ count → a ≡ b
no_triples [] [] count none first second = refl
no_triples [] (e ∷ b) count none first second = absurd (omega (arith, none, second))
no_triples (e ∷ a) b count none first second = absurd (omega (arith, none, first))

module _ (before : List ℕ) (column : ColumnAt) (dictionary : Option (List Value)) where
  pages_once : (pages : List (List ℕ × Column)) (front behind : List ℕ) (a b : Column) (count : ℕ) → before ≡ front ++ (flat_map (λ x. x.0) pages ++ behind) → AreData column dictionary pages
      → a ≡ flat_map (λ x. x.1) pages → length a ≡ count → DataFrom before column dictionary (length front) count b → a ≡ b
  pages_once [] front behind a b count whole read joined len d = no_triples a b count (sym len ∙ ap length joined) len d.count
  pages_once (x ∷ xs) front behind a b zero whole read joined len d = no_triples a b 0 refl len d.count
  pages_once (x ∷ xs) front behind a b (suc n) whole read joined len d =
      let apart : before ≡ front ++ (x.0 ++ (flat_map (λ x. x.0) xs ++ behind)) = whole ∙ ap (λ z. front ++ z) (append_assoc x.0 (flat_map (λ x. x.0) xs) behind) in
      let h = data_given column dictionary before front x.0 (flat_map (λ x. x.0) xs ++ behind) x.1 apart read.0 in
      let g = data_first before column dictionary (length front) (suc n) b (omega arith) d in
      let page_is : g.page ≡ h.page = some_is g.page h.page (sym (page_only before (length front) g.page g.at) ∙ page_only before (length front) h.page h.at) in
      let new_is : g.new ≡ x.1 = page_once column dictionary h.page g.new x.1 (subst (λ (p : Page). PageHolds column dictionary p g.new) page_is g.holds) h.holds in
      let place_is : g.page.next ≡ length (front ++ x.0) = ap (λ (p : Page). p.next) page_is ∙ h.next_is in
      let count_is : suc n - length g.new ≡ suc n - length x.1 = ap (λ (z : Column). suc n - length z) new_is in
      let left : DataFrom before column dictionary (length (front ++ x.0)) (suc n - length x.1) g.rest =
      subst (λ k. DataFrom before column dictionary (length (front ++ x.0)) k g.rest) count_is (subst (λ k. DataFrom before column dictionary k (suc n - length g.new) g.rest) place_is g.behind) in
      let long : length a ≡ length x.1 + length (flat_map (λ x. x.1) xs) = ap length joined ∙ length-append x.1 (flat_map (λ x. x.1) xs) in
      let rest_is : flat_map (λ x. x.1) xs ≡ g.rest =
      pages_once xs (front ++ x.0) behind (flat_map (λ x. x.1) xs) g.rest (suc n - length x.1) (apart ∙ sym (append_assoc front x.0 (flat_map (λ x. x.0) xs ++ behind))) read.1 refl (omega (arith, long, len)) left in
      joined ∙ ap (λ z. x.1 ++ z) rest_is ∙ ap (λ z. z ++ g.rest) (sym new_is) ∙ sym g.all_is

  pub data_once : (place count : ℕ) (a b : Column) → DataFrom before column dictionary place count a → DataFrom before column dictionary place count b → a ≡ b
  data_once place count a b first second =
      pages_once first.pages first.front first.behind a b count first.whole first.read first.joined first.count (subst (λ k. DataFrom before column dictionary k count b) (sym first.begins) second)

module _ (before : List ℕ) (column : ColumnAt) (chunk : Chunk) where
  two_kinds : (count : ℕ) (a b : Column) (page : Page) (entries : List Value) (place : ℕ) → IsPageAt before place page → EntriesHold column.kind page entries → DataFrom before column None place count a
      → length b ≡ count → a ≡ b
  two_kinds zero a b page entries place at holds d len = no_triples a b 0 refl d.count len
  two_kinds (suc n) a b page entries place at holds d len =
      let f = data_first before column None place (suc n) a (omega arith) d in
      let page_is : f.page ≡ page = some_is f.page page (sym (page_only before place f.page f.at) ∙ page_only before place page at) in
      let kind : f.page.kind ≡ Dictionary = ap (λ (p : Page). p.kind) page_is ∙ holds.is in
      let never : false ≡ true = sym (ap is_data kind) ∙ f.holds.kind in
      cc

  read_once : (a b : Column) → ReadAs before column chunk a → ReadAs before column chunk b → a ≡ b
  read_once a b (inl first) (inl second) = data_once before column None (first_place chunk) chunk.values a b first second
  read_once a b (inl first) (inr (page, entries, at, holds, d)) = two_kinds chunk.values a b page entries (first_place chunk) at holds first d.count
  read_once a b (inr (page, entries, at, holds, d)) (inl second) = sym (two_kinds chunk.values b a page entries (first_place chunk) at holds second d.count)
  read_once a b (inr (page, entries, at, holds, d)) (inr (other, values, there, hold, e)) =
      let page_is : other ≡ page = some_is other page (sym (page_only before (first_place chunk) other there) ∙ page_only before (first_place chunk) page at) in
      let entries_is : values ≡ entries = entries_once column.kind page values entries (subst (λ (p : Page). EntriesHold column.kind p values) page_is hold) holds in
      let same : DataFrom before column (Some entries) page.next chunk.values b =
      subst (λ (vs : List Value). DataFrom before column (Some vs) page.next chunk.values b) entries_is (subst (λ (p : Page). DataFrom before column (Some values) p.next chunk.values b) page_is e) in
      data_once before column (Some entries) page.next chunk.values a b d same

  pub chunk_once : (a b : Column) → HasTriples before column chunk a → HasTriples before column chunk b → a ≡ b
  chunk_once a b first second = by_count chunk.values refl
    where
      by_count : (n : ℕ) → chunk.values ≡ n → a ≡ b
      by_count zero e = no_triples a b 0 refl (first.count ∙ e) (second.count ∙ e)
      by_count (suc n) e =
          let some : 0 < chunk.values = omega (arith, e) in
          read_once a b (chunk_means before column chunk some a first) (chunk_means before column chunk some b second)

-- ---- what the code answers of a chunk

module _ (before : List ℕ) (column : ColumnAt) (chunk : Chunk) where
  module _ (some : 0 < chunk.values) where
    pub beyond : length before < first_place chunk → (triples : Column) → HasTriples before column chunk triples → ⊥
    beyond far triples t = by_pages t.pages
      where
        by_pages : (chunk.values ≡ 0) ⊎ HasPages before column chunk triples → ⊥
        by_pages (inl none) = omega (arith, some, none)
        by_pages (inr h) =
            let long : length before ≡ length h.front + length (h.first ++ (flat_map (λ x. x.0) h.pages ++ h.behind)) = ap length h.whole ∙ length-append h.front (h.first ++ (flat_map (λ x. x.0) h.pages ++ h.behind)) in
            omega (arith, far, long, h.begins)

    pub no_first_page : page_at before (first_place chunk) ≡ None → (triples : Column) → HasTriples before column chunk triples → ⊥
    no_first_page none triples h = by_kind (chunk_means before column chunk some triples h)
      where
        by_kind : ReadAs before column chunk triples → ⊥
        by_kind (inl d) = (let f = data_first before column None (first_place chunk) chunk.values triples some d in none_is_not_some f.page (sym none ∙ page_only before (first_place chunk) f.page f.at))
        by_kind (inr (page, entries, at, holds, d)) = none_is_not_some page (sym none ∙ page_only before (first_place chunk) page at)

    module _ (page : Page) (found : page_at before (first_place chunk) ≡ Some page) where
      pub same_first : (other : Page) → IsPageAt before (first_place chunk) other → other ≡ page
      same_first other at = some_is other page (sym (page_only before (first_place chunk) other at) ∙ found)

      pub first_is_data : (triples : Column) → DataFrom before column None (first_place chunk) chunk.values triples → is_dictionary page.kind ≡ true → ⊥
      first_is_data triples d is =
          let f = data_first before column None (first_place chunk) chunk.values triples some d in
          let kind : is_data page.kind ≡ true = ap (λ (p : Page). is_data p.kind) (sym (same_first f.page f.at)) ∙ f.holds.kind in
          one_of page.kind kind is
        where
          one_of : (kind : PageKind) → is_data kind ≡ true → is_dictionary kind ≡ true → ⊥
          one_of DataV1 a b = cc
          one_of DataV2 a b = cc
          one_of Dictionary a b = cc

      -- behind a dictionary page stand the pages that are read with it
      abbrev Behind : Column → Type 0
      Behind triples = (entries : List Value) × (EntriesHold column.kind page entries) × DataFrom before column (Some entries) page.next chunk.values triples

      pub behind_dictionary : is_dictionary page.kind ≡ true → (triples : Column) → HasTriples before column chunk triples → Behind triples
      behind_dictionary is triples h = by_kind (chunk_means before column chunk some triples h)
        where
          by_kind : ReadAs before column chunk triples → Behind triples
          by_kind (inl d) = absurd (first_is_data triples d is)
          by_kind (inr (other, entries, at, holds, d)) = (
              let same = same_first other at in
              (entries, subst (λ (p : Page). EntriesHold column.kind p entries) same holds, subst (λ (p : Page). DataFrom before column (Some entries) p.next chunk.values triples) same d))

      pub dictionary_refused : (fault : PqFault) → is_dictionary page.kind ≡ true → RefusesMeaning fault (EntriesHold column.kind page) → RefusesMeaning fault (HasTriples before column chunk)
      dictionary_refused fault is h =
          refuses_by fault (EntriesHold column.kind page) (HasTriples before column chunk) (λ triples t. (let b = behind_dictionary is triples t in (b.0, b.1))) h

      module _ (plain : chunk.codec ≡ pos 0) (typed : chunk.physical ≡ physical_type column.kind) where
        pub data_chunk : {X : Type 0} (view : X → Column) (result : Result X PqFault) → is_dictionary page.kind ≡ false → Finds view result (DataFrom before column None (first_place chunk) chunk.values)
            → Finds view result (HasTriples before column chunk)
        data_chunk view result other h =
            finds_as view result (DataFrom before column None (first_place chunk) chunk.values) (HasTriples before column chunk) (λ triples d. means_chunk before column chunk plain typed triples (inl d))
            (λ triples t. by_kind triples (chunk_means before column chunk some triples t)) h
          where
            by_kind : (triples : Column) → ReadAs before column chunk triples → DataFrom before column None (first_place chunk) chunk.values triples
            by_kind triples (inl d) = d
            by_kind triples (inr (first, entries, at, holds, d)) = (
                let never : false ≡ true = sym other ∙ ap (λ (p : Page). is_dictionary p.kind) (sym (same_first first at)) ∙ ap is_dictionary holds.is in cc)

        pub dictionary_chunk : {X : Type 0} (view : X → Column) (result : Result X PqFault) (entries : List Value) → is_dictionary page.kind ≡ true → EntriesHold column.kind page entries
            → Finds view result (DataFrom before column (Some entries) page.next chunk.values) → Finds view result (HasTriples before column chunk)
        dictionary_chunk view result entries is holds h =
            finds_as view result (DataFrom before column (Some entries) page.next chunk.values) (HasTriples before column chunk)
            (λ triples d. means_chunk before column chunk plain typed triples (inr (page, entries, page_found before (first_place chunk) page found, holds, d)))
            (λ triples t. (
            let b = behind_dictionary is triples t in
            subst (λ (vs : List Value). DataFrom before column (Some vs) page.next chunk.values triples) (entries_once column.kind page b.0 entries b.1 holds) b.2))
            h
