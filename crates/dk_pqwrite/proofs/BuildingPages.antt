-- Pages from their parts.
use Rattle.std.proofs.Common.{◌≡◌, ℕ, zero, suc, ◌+◌, ◌*◌, ◌^◌, ◌<◌, ◌≤◌, IsTrue, Option, Some, None, pos, List, [], ◌∷◌, ◌++◌, length, map, take, get_or, inl, inr, refl, sym, ap, ◌∙◌, append_assoc, append-nil, add-one, arith}
use Rattle.std.specs.Prelude.{IfSome}
use Rattle.std.specs.List.{All, slice_get}
use Rattle.std.specs.Option.{option_map}
use Rattle.std.proofs.Math.Seq.{take-suc}
use Rattle.std.proofs.lemmas.Option.{slice_get-map, slice_get_within}
use Rattle.std.proofs.lemmas.List.{length-append, length-map, map-append}
use Rattle.std.proofs.lemmas.List.Elements.{All-head, All-tail, All-nil, All-cons, All-map, All-weaker}
use Rattle.std.proofs.lemmas.List.Sums.{sum_by-cons}
use Rattle.dk_grammar.specs.PageHeaders.{SpellsHeader}
use Rattle.dk_grammar.specs.Runs.{AreFirst}
use Rattle.dk_pqmodel.specs.Shape as shape
use Rattle.dk_pqmodel.specs.Datum.{Value, flag, int, chars, Triple, Column}
use Rattle.dk_pqmodel.specs.FilePages.{AreAtIndices, AreFull, IsFull, BehindWidth, HoldValues, InPlain, IsDataV1, IsDictionary, IsPage}
use Rattle.dk_pqmodel.specs.Fits.{fits_leaf}
use Rattle.dk_pqmodel.specs.Projection.{Path}
use Rattle.dk_pqmodel.specs.Weight.{text_length}
use Rattle.dk_pqwrite.specs.declared.column.LeafColumn.{LeafColumn}
use Rattle.dk_pqwrite.specs.Adding.{AddsBytes}
use Rattle.dk_pqwrite.specs.DataPages.{HoldBoth}
use Rattle.dk_pqwrite.specs.FirstUses.{AreTheirs, texts_in}
use Rattle.dk_pqwrite.specs.HeaderBytes.{data_numbers, dictionary_numbers, page_parts}
use Rattle.dk_pqwrite.specs.PlainValues.{ArePlain, FitsEntry, column_weight, entry_weight, plain_size}
use Rattle.dk_pqwrite.specs.WrittenColumn.{leaf_column_at, leaf_of_kind, values_of_column}
use Rattle.dk_pqwrite.proofs.AddingPlain.{both_plain, not_true}
use Rattle.dk_pqwrite.proofs.Uses.{Key, Text, nil_cons, shown, some_parts}

-- ---- levels

pub repetitions_within : (column : LeafColumn) (entries : Column) → AreFull (leaf_column_at [] column) entries → All (λ level. level ≤ column.rep) (map (λ (e : Triple). e.repetition) entries)
repetitions_within column entries h = All-map (λ level. level ≤ column.rep) (λ (e : Triple). e.repetition) entries h.1

pub definitions_within : (column : LeafColumn) (entries : Column) → AreFull (leaf_column_at [] column) entries → All (λ level. level ≤ column.def) (map (λ (e : Triple). e.definition) entries)
definitions_within column entries h =
    All-map (λ level. level ≤ column.def) (λ (e : Triple). e.definition) entries (All-weaker (IsFull column.def) (λ (e : Triple). e.definition ≤ column.def) (λ e full. full.0) entries h.0)

-- ---- places

at_indices : (es : List Text) (places : List ℕ) (texts : List Text) → AreTheirs es places texts → AreAtIndices (map chars es) places (map chars texts)
at_indices es [] [] h = refl
at_indices es (p ∷ ps) (t ∷ ts) h =
    let both = some_parts (slice_get es p) (Some t) (map (λ place. slice_get es place) ps) (map Some ts) h in
    let first : slice_get (map chars es) p ≡ Some (chars t) = slice_get-map chars es p ∙ ap (option_map chars) both.0 in
    rw (first, at_indices es ps ts both.1) refl
at_indices es [] (t ∷ ts) h = absurd (nil_cons (Some t) (map Some ts) h)
at_indices es (p ∷ ps) [] h = absurd (nil_cons (slice_get es p) (map (λ place. slice_get es place) ps) (sym h))

pub places_fit : (es : List Text) (places : List ℕ) (texts : List Text) → AreTheirs es places texts → All (λ place. place < length es) places
places_fit es [] [] h = All-nil (λ place. place < length es)
places_fit es (p ∷ ps) (t ∷ ts) h =
    let both = some_parts (slice_get es p) (Some t) (map (λ place. slice_get es place) ps) (map Some ts) h in
    All-cons (λ place. place < length es) p ps (slice_get_within es p t both.0) (places_fit es ps ts both.1)
places_fit es [] (t ∷ ts) h = absurd (nil_cons (Some t) (map Some ts) h)
places_fit es (p ∷ ps) [] h = absurd (nil_cons (slice_get es p) (map (λ place. slice_get es place) ps) (sym h))

pub as_many_places : (es : List Text) (places : List ℕ) (texts : List Text) → AreTheirs es places texts → length places ≡ length texts
as_many_places es places texts h = sym (length-map places (λ place. slice_get es place)) ∙ ap length h ∙ length-map texts Some

pub by_places : (es : List Text) (places : List ℕ) (texts : List Text) (width : ℕ) (runs old mid new : List ℕ) → width ≤ 26 → AreFirst width (length places) places runs
    → length runs ≤ 40 + 5 * length places → mid ≡ old ++ width ∷ [] → new ≡ mid ++ runs → AreTheirs es places texts
    → AddsBytes (BehindWidth (map chars es) (map chars texts)) (41 + 5 * length places) old new
by_places es places texts width runs old mid new narrow first size m n h = record {
  part = width ∷ runs;
  added = n ∙ ap (λ bs. bs ++ runs) m ∙ append_assoc old (width ∷ []) runs;
  is = (width, runs, [], places, omega arith, ap (λ bs. width ∷ bs) (sym (append-nil runs)), first, at_indices es places texts h);
  size = omega (arith, size);
}

-- ---- texts

first_text : (r d : ℕ) (v : Option Value) (es : Column) → IfSome v (λ x. IsTrue (fits_leaf x shape.chars) × (text_length x < 2 ^ 32)) → values_of_column es ≡ map chars (texts_in es)
    → values_of_column (record { repetition = r; definition = d; value = v } ∷ es) ≡ map chars (texts_in (record { repetition = r; definition = d; value = v } ∷ es))
first_text r d None es fits rest = rest
first_text r d (Some (chars t)) es fits rest = ap (λ vs. chars t ∷ vs) rest
first_text r d (Some (int n)) es fits rest = absurd (not_true fits.0)
first_text r d (Some (flag b)) es fits rest = absurd (not_true fits.0)

pub text_values : (entries : Column) → All (FitsEntry shape.chars) entries → values_of_column entries ≡ map chars (texts_in entries)
text_values [] h = refl
text_values (e ∷ es) h = first_text e.repetition e.definition e.value es (All-head (FitsEntry shape.chars) e es h) (text_values es (All-tail (FitsEntry shape.chars) e es h))

few_more : (r d : ℕ) (v : Option Value) (es : Column) → length (values_of_column es) ≤ length es → length (values_of_column (record { repetition = r; definition = d; value = v } ∷ es)) ≤ suc (length es)
few_more r d None es h = omega (arith, h)
few_more r d (Some v) es h = omega (arith, h)

pub values_few : (entries : Column) → length (values_of_column entries) ≤ length entries
values_few [] = omega arith
values_few (e ∷ es) = few_more e.repetition e.definition e.value es (values_few es)

weight_more : (r d : ℕ) (v : Option Value) (es : Column) → 8 * length es + plain_size (values_of_column es) ≤ column_weight es
    → 8 * suc (length es) + plain_size (values_of_column (record { repetition = r; definition = d; value = v } ∷ es)) ≤ column_weight (record { repetition = r; definition = d; value = v } ∷ es)
weight_more r d None es h = omega (arith, h, sum_by-cons (λ (e : Triple). entry_weight e.value) (record { repetition = r; definition = d; value = None }) es)
weight_more r d (Some v) es h =
    omega (arith, h, sum_by-cons (λ (e : Triple). entry_weight e.value) (record { repetition = r; definition = d; value = Some v }) es, sum_by-cons (λ x. 8 + text_length x) v (values_of_column es))

-- entries weigh as much as their bytes and more
pub weighs : (entries : Column) → 8 * length entries + plain_size (values_of_column entries) ≤ column_weight entries
weighs [] = omega arith
weighs (e ∷ es) = weight_more e.repetition e.definition e.value es (weighs es)

pub short_at : (texts : List Key) (i : ℕ) (d : Key) → i < length texts → 8 + length (get_or texts i d).now ≤ plain_size (map chars (shown texts))
short_at [] i d h = absurd (omega arith)
short_at (t ∷ ts) zero d h = omega (arith, sum_by-cons (λ v. 8 + text_length v) (chars t.now) (map chars (shown ts)))
short_at (t ∷ ts) (suc i) d h = omega (arith, short_at ts i d (omega arith), sum_by-cons (λ v. 8 + text_length v) (chars t.now) (map chars (shown ts)))

pub text_more : (texts : List Key) (i : ℕ) (d : Key) (old mid new : List ℕ) → i < length texts
    → AddsBytes (ArePlain shape.chars (map chars (shown (take i texts)))) (plain_size (map chars (shown (take i texts)))) old mid
    → AddsBytes (ArePlain shape.chars (chars (get_or texts i d).now ∷ [])) (8 + length (get_or texts i d).now) mid new
    → AddsBytes (ArePlain shape.chars (map chars (shown (take (i + 1) texts)))) (plain_size (map chars (shown (take (i + 1) texts)))) old new
text_more texts i d old mid new within h g =
    let t = get_or texts i d in
    let one_more : take (suc i) texts ≡ take i texts ++ t ∷ [] = take-suc texts i d within in
    let values : map chars (shown (take (i + 1) texts)) ≡ map chars (shown (take i texts)) ++ chars t.now ∷ [] =
    ap (λ n. map chars (shown (take n texts))) (add-one i) ∙ ap (λ ts. map chars (shown ts)) one_more ∙ ap (map chars) (map-append (λ (k : Key). k.now) (take i texts) (t ∷ []))
    ∙ map-append chars (shown (take i texts)) (t.now ∷ []) in
    let size : 8 + length t.now ≡ plain_size (chars t.now ∷ []) = omega arith in
    rw values (both_plain shape.chars (map chars (shown (take i texts))) (chars t.now ∷ []) old mid new h (rw size at g))

-- ---- a dictionary page

pub dictionary_page : (texts : List Text) (header body old mid new : List ℕ) → length texts ≤ 2 ^ 26 → plain_size (map chars texts) ≤ 2 ^ 30
    → ArePlain shape.chars (map chars texts) body → length body ≤ plain_size (map chars texts)
    → SpellsHeader header (page_parts 2 (length body) (pos 7) (dictionary_numbers (length texts))) → length header ≤ 33 → mid ≡ old ++ header → new ≡ mid ++ body
    → AddsBytes (λ bytes. IsDictionary shape.chars bytes (map chars texts)) (33 + plain_size (map chars texts)) old new
dictionary_page texts header body old mid new few small plain size spelled short m n =
    let many : length (map chars texts) ≡ length texts = length-map texts chars in
    record {
      part = header ++ body;
      added = n ∙ ap (λ bs. bs ++ body) m ∙ append_assoc old header body;
      is = record {
        parts = page_parts 2 (length body) (pos 7) (dictionary_numbers (length texts));
        body = body;
        page = record { header = header; whole = refl; spelled = spelled; kind = refl; size = refl; fits = omega arith };
        count = ap (λ k. Some (pos k)) (sym many);
        fits = omega (arith, many);
        code = pos 0;
        encoding = refl;
        coded = inl refl;
        plains = plain.0;
        whole = plain.1;
        same = plain.2;
      };
      size = omega (arith, length-append header body);
    }

-- ---- a data page

module _ (column : LeafColumn) (entries : Column) (levels body part : List ℕ) (both : HoldBoth column entries levels) (whole : body ≡ levels ++ part)
    (full : AreFull (leaf_column_at [] column) entries) (few : length entries ≤ 2 ^ 26) where
  data_page : (path : Path) (dictionary : Option (List Value)) (code : ℕ) (bytes : List ℕ) → HoldValues (leaf_column_at path column) dictionary (pos code) (values_of_column entries) part
      → IsPage (pos 0) (page_parts 0 (length body) (pos 5) (data_numbers (length entries) code)) body bytes → IsDataV1 (leaf_column_at path column) dictionary bytes entries
  data_page path dictionary code bytes held page = record {
    parts = page_parts 0 (length body) (pos 5) (data_numbers (length entries) code);
    body = body;
    page = page;
    count = refl;
    fits = omega arith;
    code = pos code;
    encoding = refl;
    def_code = (pos 3, refl, inr refl);
    rep_code = (pos 3, refl, inr refl);
    rep_part = both.rep_part;
    def_part = both.def_part;
    values = part;
    split = whole ∙ ap (λ bs. bs ++ part) both.whole ∙ append_assoc both.rep_part both.def_part part;
    rep = both.rep;
    def = both.def;
    rep_sized = both.rep_sized;
    def_sized = both.def_sized;
    triples_held = record { repetitions = both.repetitions; definitions = both.definitions; full = full; held = held };
  }

  pub adds_data : (path : Path) (dictionary : Option (List Value)) (code most : ℕ) (old new : List ℕ) → HoldValues (leaf_column_at path column) dictionary (pos code) (values_of_column entries) part
      → length part ≤ most → AddsBytes (λ bytes. IsPage (pos 0) (page_parts 0 (length body) (pos 5) (data_numbers (length entries) code)) body bytes) (45 + length body) old new
      → AddsBytes (λ bytes. IsDataV1 (leaf_column_at path column) dictionary bytes entries) (133 + 10 * length entries + most) old new
  adds_data path dictionary code most old new held size h = record {
    part = h.part;
    added = h.added;
    is = data_page path dictionary code h.part held h.is;
    size = omega (arith, h.size, size, both.size, ap length whole, length-append levels part);
  }

  pub body_short : (most : ℕ) → length part ≤ most → 88 + 10 * length entries + most < 2 ^ 31 → length body < 2 ^ 31
  body_short most size small = omega (arith, size, small, both.size, ap length whole, length-append levels part)

pub plain_page : (column : LeafColumn) (entries : Column) (levels body old new : List ℕ) → HoldBoth column entries levels → AreFull (leaf_column_at [] column) entries → length entries ≤ 2 ^ 26
    → AddsBytes (InPlain (leaf_of_kind column.kind) (values_of_column entries)) (plain_size (values_of_column entries)) levels body
    → AddsBytes (λ bytes. IsPage (pos 0) (page_parts 0 (length body) (pos 5) (data_numbers (length entries) 0)) body bytes) (45 + length body) old new
    → (path : Path) → AddsBytes (λ bytes. IsDataV1 (leaf_column_at path column) None bytes entries) (133 + 10 * length entries + plain_size (values_of_column entries)) old new
plain_page column entries levels body old new both full few values h path =
    adds_data column entries levels body values.part both values.added full few path None 0 (plain_size (values_of_column entries)) old new (inl (refl, values.is)) values.size h

pub coded_page : (column : LeafColumn) (entries : Column) (es : List Text) (places : List ℕ) (levels body old new : List ℕ) → HoldBoth column entries levels → AreFull (leaf_column_at [] column) entries
    → length entries ≤ 2 ^ 26 → leaf_of_kind column.kind ≡ shape.chars → All (FitsEntry (leaf_of_kind column.kind)) entries → AreTheirs es places (texts_in entries)
    → AddsBytes (BehindWidth (map chars es) (map chars (texts_in entries))) (41 + 5 * length places) levels body
    → AddsBytes (λ bytes. IsPage (pos 0) (page_parts 0 (length body) (pos 5) (data_numbers (length entries) 8)) body bytes) (45 + length body) old new
    → (path : Path) → AddsBytes (λ bytes. IsDataV1 (leaf_column_at path column) (Some (map chars es)) bytes entries) (174 + 15 * length entries) old new
coded_page column entries es places levels body old new both full few kind fits theirs values h path =
    let same : values_of_column entries ≡ map chars (texts_in entries) = text_values entries (rw kind at fits) in
    let held : HoldValues (leaf_column_at path column) (Some (map chars es)) (pos 8) (values_of_column entries) values.part = inr (inr (inr refl, rw (kind, same) (inr values.is))) in
    let most = adds_data column entries levels body values.part both values.added full few path (Some (map chars es)) 8 (41 + 5 * length places) old new held values.size h in
    let many : length places ≡ length (texts_in entries) = as_many_places es places (texts_in entries) theirs in
    let again : length (values_of_column entries) ≡ length (texts_in entries) = ap length same ∙ length-map (texts_in entries) chars in
    record { part = most.part; added = most.added; is = most.is; size = omega (arith, most.size, many, again, values_few entries) }
