-- Nothing stands against a file that means rows: no codec, and no encoding that isn't read.
use Rattle.std.proofs.Common.{◌≡◌, ℕ, zero, suc, ◌-◌, ◌<◌, ◌==◌, ◌⊎◌, inl, inr, Bool, true, false, ◌||◌, ℤ, pos, Option, Some, None, Result, Ok, Err, Vec, Global, List, [], ◌∷◌, length, refl, sym, ap, subst, ◌∙◌, arith}
use Rattle.std.specs.List.{All}
use Rattle.std.proofs.lemmas.List.Elements.{All-head, All-tail}
use Rattle.std.specs.Option.{option_map, option_and_then}
use Rattle.std.specs.Ordering.{int_eq}
use Rattle.dk_grammar.specs.Structs.{first_of_two}
use Rattle.dk_pqmodel.specs.Shape.{Fields, Leaf, flag, int32, int64, chars}
use Rattle.dk_pqmodel.specs.Datum.{Value, Cells, Column}
use Rattle.dk_pqmodel.specs.Footer.{Chunk, RowGroup, Footer, is_new_each}
use Rattle.dk_pqmodel.specs.FooterBytes.{HasFooter}
use Rattle.dk_pqmodel.specs.FileMeans.{FileMeans, HasTriples, HasColumn, HasColumns, HaveRows, columns_of}
use Rattle.dk_pqmodel.specs.FilePages.{ColumnAt, HoldValues, InRuns, FromDictionary}
use Rattle.dk_pqmodel.specs.Projection.{Plans, projection, first_misfit}
use Rattle.dk_pqmodel.specs.RowView.{rows_of}
use Rattle.dk_pqmodel.specs.declared.row.Row.{Row}
use Rattle.dk_pqmodel.specs.declared.fault.PqFault.{PqFault}
use Rattle.dk_pqmodel.specs.declared.fault.PqFault.TheVariants.{NotParquet, Shape, Compressed, Encoding, Broken, OutOfMemory}
use Rattle.dk_pqmeta.proofs.Footers.{one_footer}
use Rattle.dk_pqmodel.specs.Headers.{rle}
use Rattle.dk_pqmodel.specs.Pages.{Page, page_at}
use Rattle.dk_pages.specs.Spelled.{IsPageAt}
use Rattle.dk_pqmodel.specs.declared.page.PageKind.{PageKind}
use Rattle.dk_pqmodel.specs.declared.page.PageKind.TheVariants.{DataV1, DataV2, Dictionary}
use Rattle.dk_pages.proofs.DictionaryCodes.{dictionary_codes}
use Rattle.dk_pages.proofs.PageSpellings.{page_only}
use Rattle.dk_pqread.specs.ChunkMeaning.{EntriesHold, DataFrom}
use Rattle.dk_pqmodel.specs.Faults.{columns_read}
use Rattle.dk_levels.specs.Answers.{FailsMeant, GivesMeant}
use Rattle.dk_pqread.specs.PageMeaning.{PageHolds, is_data}
use Rattle.dk_pqmodel.specs.Reads.{Reads}
use Rattle.dk_pqmodel.specs.Scans.{chunk_at, codec_of, codec_in, first_compressed, is_value_code, is_read_code, is_level_code, unread_code, unread_from, unread_in, values_on_page, first_place, code_in, first_unread}
use Rattle.dk_pqread.proofs.Answering.{before_once}
use Rattle.dk_pqread.proofs.DistinctPaths.{HasDistinctPaths, groups_distinct}
use Rattle.dk_pqread.proofs.ChunkPages.{ReadAs, chunk_means, data_first}
use Rattle.dk_pqread.proofs.Groups.{chunk_only}
use Rattle.dk_pqread.proofs.OneList.{one_list}
use Rattle.dk_pqread.proofs.PartLaws.{none_is_not_some}

-- ---- the codes of a page's values

plain_read : (kind : Leaf) → is_value_code kind (pos 0) ≡ true
plain_read flag = refl
plain_read int32 = refl
plain_read int64 = refl
plain_read chars = refl

runs_read : (kind : Leaf) (values : List Value) (bytes : List ℕ) → InRuns kind values bytes → is_value_code kind (pos 3) ≡ true
runs_read flag values bytes h = refl
runs_read int32 values bytes h = absurd h
runs_read int64 values bytes h = absurd h
runs_read chars values bytes h = absurd h

indices_read : (kind : Leaf) (dictionary : Option (List Value)) (values : List Value) (bytes : List ℕ) (code : ℤ) → FromDictionary kind dictionary values bytes → (code ≡ pos 2) ⊎ (code ≡ pos 8)
    → is_value_code kind code ≡ true
indices_read flag dictionary values bytes code h is = absurd h
indices_read int32 dictionary values bytes code h (inl e) = rw e refl
indices_read int32 dictionary values bytes code h (inr e) = rw e refl
indices_read int64 dictionary values bytes code h (inl e) = rw e refl
indices_read int64 dictionary values bytes code h (inr e) = rw e refl
indices_read chars dictionary values bytes code h (inl e) = rw e refl
indices_read chars dictionary values bytes code h (inr e) = rw e refl

values_read : (column : ColumnAt) (dictionary : Option (List Value)) (code : ℤ) (values : List Value) (bytes : List ℕ) → HoldValues column dictionary code values bytes → is_value_code column.kind code ≡ true
values_read column dictionary code values bytes (inl h) = subst (λ z. is_value_code column.kind z ≡ true) (sym h.0) (plain_read column.kind)
values_read column dictionary code values bytes (inr (inl h)) = subst (λ z. is_value_code column.kind z ≡ true) (sym h.0) (runs_read column.kind values bytes h.1)
values_read column dictionary code values bytes (inr (inr h)) = indices_read column.kind dictionary values bytes code h.1 h.0

all_read : (column : ColumnAt) (page : Page) → is_read_code page.kind column.kind page.encoding ≡ true → is_level_code column.rep page.rep_code ≡ true → is_level_code column.def page.def_code ≡ true → unread_code column page ≡ None
all_read column page a b c = rw (a, b, c) refl

data_read : (column : ColumnAt) (dictionary : Option (List Value)) (page : Page) (triples : Column) → PageHolds column dictionary page triples → unread_code column page ≡ None
data_read column dictionary page triples h = all_read column page (by_kind page.kind h.kind) h.rep_code h.def_code
  where
    coded : is_value_code column.kind page.encoding ≡ true
    coded = values_read column dictionary page.encoding _ h.parts.values h.held.held

    by_kind : (kind : PageKind) → is_data kind ≡ true → is_read_code kind column.kind page.encoding ≡ true
    by_kind DataV1 is = coded
    by_kind DataV2 is = coded
    by_kind Dictionary is = cc

-- ---- the codes of a dictionary page

rle_level : (greatest : ℕ) (code : ℤ) → code ≡ rle → is_level_code greatest code ≡ true
rle_level greatest code e = rw e (either (greatest == 0))
  where
    either : (b : Bool) → (b || true) ≡ true
    either true = refl
    either false = refl

entries_read : (before : List ℕ) (place : ℕ) (column : ColumnAt) (page : Page) (entries : List Value) → IsPageAt before place page → EntriesHold column.kind page entries → unread_code column page ≡ None
entries_read before place column page entries at h =
    let levels = dictionary_codes before place page at h.is in
    all_read column page (subst (λ k. is_read_code k column.kind page.encoding ≡ true) (sym h.is) (coded h.coded))
    (rle_level column.rep page.rep_code levels.0) (rle_level column.def page.def_code levels.1)
  where
    coded : (page.encoding ≡ pos 0) ⊎ (page.encoding ≡ pos 2) → (int_eq page.encoding (pos 0) || int_eq page.encoding (pos 2)) ≡ true
    coded (inl e) = rw e refl
    coded (inr e) = rw e refl

-- ---- a chunk's pages

minus_zero : (n : ℕ) → n - 0 ≡ n
minus_zero n = omega arith

module _ (before : List ℕ) (column : ColumnAt) where
  page_then : (most place wanted : ℕ) (page : Page) → (wanted == 0) ≡ false → page_at before place ≡ Some page → unread_code column page ≡ None
      → unread_from most before column page.next (wanted - values_on_page page.kind page.values) ≡ None → unread_from (suc most) before column place wanted ≡ None
  page_then most place wanted page some at good rest = rw (some, at, good, rest) refl

  none_wanted : (most place wanted : ℕ) → (wanted == 0) ≡ true → unread_from (suc most) before column place wanted ≡ None
  none_wanted most place wanted e = rw e refl

  data_values : (dictionary : Option (List Value)) (page : Page) (triples : Column) → PageHolds column dictionary page triples → values_on_page page.kind page.values ≡ length triples
  data_values dictionary page triples h = by_kind page.kind h.kind ∙ sym h.count
    where
      by_kind : (kind : PageKind) → is_data kind ≡ true → values_on_page kind page.values ≡ page.values
      by_kind DataV1 is = refl
      by_kind DataV2 is = refl
      by_kind Dictionary is = cc

  -- the page that stands there, and that nothing is found from there on
  record NothingFrom (most place wanted : ℕ) : Type 0 where
    page : Page
    at : page_at before place ≡ Some page
    good : unread_code column page ≡ None
    rest : unread_from most before column page.next (wanted - values_on_page page.kind page.values) ≡ None

  some_wanted : (n : ℕ) → (n == 0) ≡ false → 0 < n
  some_wanted zero e = cc
  some_wanted (suc n) e = omega arith

  unread_step : (most place wanted : ℕ) → (0 < wanted → NothingFrom most place wanted) → unread_from (suc most) before column place wanted ≡ None
  unread_step most place wanted step = by_count (wanted == 0) refl
    where
      by_count : (b : Bool) → (wanted == 0) ≡ b → unread_from (suc most) before column place wanted ≡ None
      by_count true e = none_wanted most place wanted e
      by_count false e =
          let s = step (some_wanted wanted e) in
          page_then most place wanted s.page e s.at s.good s.rest

  data_unread : (dictionary : Option (List Value)) (most place wanted : ℕ) (all : Column) → DataFrom before column dictionary place wanted all → unread_from most before column place wanted ≡ None
  data_unread dictionary zero place wanted all d = refl
  data_unread dictionary (suc most) place wanted all d =
      unread_step most place wanted
      (λ some. (
      let f = data_first before column dictionary place wanted all some d in
      record {
        page = f.page;
        at = page_only before place f.page f.at;
        good = data_read column dictionary f.page f.new f.holds;
        rest =
            ap (λ n. unread_from most before column f.page.next (wanted - n)) (data_values dictionary f.page f.new f.holds)
            ∙ data_unread dictionary most f.page.next (wanted - length f.new) f.rest f.behind;
      }))

  module _ (chunk : Chunk) (triples : Column) (has : HasTriples before column chunk triples) where
    chunk_plain : codec_of chunk ≡ None
    chunk_plain = rw has.plain refl

    chunk_unread : unread_in before column chunk ≡ None
    chunk_unread = by_count chunk.values refl
      where
        by_first : (most : ℕ) → ReadAs before column chunk triples → unread_from most before column (first_place chunk) chunk.values ≡ None
        by_first most (inl d) = data_unread None most (first_place chunk) chunk.values triples d
        by_first zero (inr x) = refl
        by_first (suc most) (inr (page, entries, at, holds, d)) =
            unread_step most (first_place chunk) chunk.values
            (λ some. record {
              page = page;
              at = page_only before (first_place chunk) page at;
              good = entries_read before (first_place chunk) column page entries at holds;
              rest =
                  ap (λ k. unread_from most before column page.next (chunk.values - values_on_page k page.values)) holds.is
                  ∙ ap (unread_from most before column page.next) (minus_zero chunk.values) ∙ data_unread (Some entries) most page.next chunk.values triples d;
            })

        nothing : (most : ℕ) → chunk.values ≡ 0 → unread_from most before column (first_place chunk) chunk.values ≡ None
        nothing zero e = refl
        nothing (suc most) e = unread_step most (first_place chunk) chunk.values (λ some. absurd (omega (arith, e, some)))

        by_count : (n : ℕ) → chunk.values ≡ n → unread_in before column chunk ≡ None
        by_count zero e = nothing (length before) e
        by_count (suc n) e = by_first (length before) (chunk_means before column chunk (omega (arith, e)) triples has)

-- ---- all columns of all groups

-- each group has the column
abbrev EachHas : List ℕ → List RowGroup → ColumnAt → Type 0
EachHas before [] c = Unit {0}
EachHas before (g ∷ gs) c = (is_new_each [] g.columns ≡ true) × ((t : Column) × HasColumn before g c t) × EachHas before gs c

-- each has all of them
abbrev EachHasAll : List ℕ → List RowGroup → List ColumnAt → Type 0
EachHasAll before [] cs = Unit {0}
EachHasAll before (g ∷ gs) cs = (is_new_each [] g.columns ≡ true) × ((ts : List Column) × HasColumns before g cs ts) × EachHasAll before gs cs

module _ (before : List ℕ) where
  first_has : (groups : List RowGroup) (c : ColumnAt) (cs : List ColumnAt) → EachHasAll before groups (c ∷ cs) → EachHas before groups c
  first_has [] c cs h = tt
  first_has (g ∷ gs) c cs (new, ([], held), rest) = absurd held
  first_has (g ∷ gs) c cs (new, (t ∷ ts, held), rest) = (new, (t, held.0), first_has gs c cs rest)

  later_have : (groups : List RowGroup) (c : ColumnAt) (cs : List ColumnAt) → EachHasAll before groups (c ∷ cs) → EachHasAll before groups cs
  later_have [] c cs h = tt
  later_have (g ∷ gs) c cs (new, ([], held), rest) = absurd held
  later_have (g ∷ gs) c cs (new, (t ∷ ts, held), rest) = (new, (ts, held.1), later_have gs c cs rest)

  column_plain : (groups : List RowGroup) (c : ColumnAt) → EachHas before groups c → codec_in c.path groups ≡ None
  column_plain [] c h = refl
  column_plain (g ∷ gs) c h =
      let has : HasColumn before g c (h.1.0) = h.1.1 in
      let found = chunk_only g.columns c.path (has.0) h.0 has.1 in
      let first : option_and_then codec_of (chunk_at c.path g.columns) ≡ None = ap (option_and_then codec_of) found ∙ chunk_plain before c (has.0) (h.1.0) has.2 in
      ap (λ o. first_of_two o (codec_in c.path gs)) first ∙ column_plain gs c h.2

  column_unread : (groups : List RowGroup) (c : ColumnAt) → EachHas before groups c → code_in before c groups ≡ None
  column_unread [] c h = refl
  column_unread (g ∷ gs) c h =
      let has : HasColumn before g c (h.1.0) = h.1.1 in
      let found = chunk_only g.columns c.path (has.0) h.0 has.1 in
      let first : option_and_then (unread_in before c) (chunk_at c.path g.columns) ≡ None = ap (option_and_then (unread_in before c)) found ∙ chunk_unread before c (has.0) (h.1.0) has.2 in
      ap (λ o. first_of_two o (code_in before c gs)) first ∙ column_unread gs c h.2

  all_plain : (groups : List RowGroup) (cs : List ColumnAt) → EachHasAll before groups cs → first_compressed cs groups ≡ None
  all_plain groups [] h = refl
  all_plain groups (c ∷ cs) h =
      ap (λ o. first_of_two (option_map (λ codec. (c.path, codec)) o) (first_compressed cs groups)) (column_plain groups c (first_has groups c cs h)) ∙ all_plain groups cs (later_have groups c cs h)

  all_unread : (groups : List RowGroup) (cs : List ColumnAt) → EachHasAll before groups cs → first_unread before cs groups ≡ None
  all_unread groups [] h = refl
  all_unread groups (c ∷ cs) h =
      ap (λ o. first_of_two (option_map (λ code. (c.path, code)) o) (first_unread before cs groups)) (column_unread groups c (first_has groups c cs h)) ∙ all_unread groups cs (later_have groups c cs h)

  groups_have : (plans : Plans) (groups : List RowGroup) (shares : List Cells) → All HasDistinctPaths groups → HaveRows before plans groups shares → EachHasAll before groups (columns_of plans 0 0)
  groups_have plans [] shares new held = tt
  groups_have plans (g ∷ gs) [] new held = absurd held
  groups_have plans (g ∷ gs) (share ∷ shares) new held =
      (All-head HasDistinctPaths g gs new, (held.0.columns, held.0.held), groups_have plans gs shares (All-tail HasDistinctPaths g gs new) held.1)

-- a file that means rows is refused for want of memory alone
pub never_refused : (wanted : Fields) (bytes : List ℕ) (rows : Cells) → FileMeans wanted bytes rows → (fault : PqFault) → Reads wanted bytes (Err fault) → fault ≡ OutOfMemory
never_refused wanted bytes rows m fault h = by_fault fault h
  where
    has : HasFooter bytes m.footer
    has = (m.before, m.part, m.framed, m.spelled)

    have : EachHasAll m.before m.footer.groups (columns_read wanted m.footer)
    have = groups_have m.before (projection wanted m.footer.fields) m.footer.groups m.shares (groups_distinct m.part m.footer m.spelled) m.held

    by_fault : (fault : PqFault) → Reads wanted bytes (Err fault) → fault ≡ OutOfMemory
    by_fault OutOfMemory h = refl
    by_fault NotParquet h = absurd (h m.before m.part m.framed)
    by_fault Broken h = absurd (h.nothing rows m)
    by_fault (Shape c) d =
        let same = one_footer bytes m.footer d.footer has d.has in
        absurd (none_is_not_some d.path (sym m.fitting ∙ ap (λ (f : Footer). first_misfit wanted f.fields) same ∙ d.first))
    by_fault (Compressed c codec) d =
        let same = one_footer bytes m.footer d.footer has d.has in
        absurd (none_is_not_some (d.path, codec) (sym (all_plain m.before m.footer.groups (columns_read wanted m.footer) have) ∙ ap (λ (f : Footer). first_compressed (columns_read wanted f) f.groups) same ∙ d.first))
    by_fault (Encoding c code) d =
        let same = one_footer bytes m.footer d.footer has (d.before, d.part, d.framed, d.spelled) in
        let front = before_once bytes m.before m.part d.before d.part m.framed d.framed in
        absurd
        (none_is_not_some (d.path, code)
        (sym (all_unread m.before m.footer.groups (columns_read wanted m.footer) have) ∙ ap (λ (f : Footer). first_unread m.before (columns_read wanted f) f.groups) same
        ∙ ap (λ b. first_unread b (columns_read wanted d.footer) d.footer.groups) front ∙ d.first))

-- what is read is what the file means
pub rows_only : (wanted : Fields) (bytes : List ℕ) (result : Result (Vec Row Global) PqFault) → Reads wanted bytes result → (rows : Cells) → FileMeans wanted bytes rows
    → GivesMeant (λ (v : Vec Row Global). rows_of v.items) result (Some rows)
rows_only wanted bytes (Ok v) h rows m = ap Some (one_list wanted bytes rows (rows_of v.items) m h)
rows_only wanted bytes (Err fault) h rows m = subst (λ f. FailsMeant f (Some rows)) (sym (never_refused wanted bytes rows m fault h)) tt
