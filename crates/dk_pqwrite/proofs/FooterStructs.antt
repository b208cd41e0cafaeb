-- The structs of a footer, as they are written.
use Rattle.std.proofs.Common.{◌≡◌, ◌<◌, ◌≤◌, ◌+◌, ◌^◌, ℕ, Bool, true, false, ℤ, pos, Option, Some, None, option_map, IfSome, List, [], ◌∷◌, length, map, is_some, refl, ◌∙◌, lit<, arith, FitsSigned, w64}
use Rattle.dk_grammar.specs.Grammar.{SpellsWhole}
use Rattle.dk_grammar.specs.Structs.{FieldValues, SpellsNumberField}
use Rattle.dk_grammar.specs.Lists.{Either, held, other, SpellsListOf, SpellsHeldOr}
use Rattle.dk_grammar.proofs.WrittenSpellings.{whole_written}
use Rattle.dk_thrift.specs.Writing.{WrittenSoFar, IsOpen, with_bytes, with_struct, with_end}
use Rattle.dk_pqmodel.specs.Projection.{Path}
use Rattle.dk_pqmodel.specs.FooterBytes.{SpellsPath}
use Rattle.dk_pqwrite.specs.Said.{MetaSaid, MetaPart, meta_of, SpellsMetaSaid, ChunkSaid, SpellsChunkSaid, SpellsGroupSaid}
use Rattle.dk_pqwrite.specs.declared.chunk.Chunk.{Chunk}
use Rattle.dk_pqwrite.specs.Chunks.{IsFit, path_of_chunk, meta_said, encodings_of}
use Rattle.dk_pqwrite.specs.Items.{Item, number_item, optional_items, items_bytes, struct_bytes, with_items, Puts, WritesValue, PutsHeld}
use Rattle.dk_pqwrite.proofs.NumberSizes.{whole_8, whole_32, whole_64}
use Rattle.dk_pqwrite.proofs.Structs.{Says, struct_spelled, at_most, item_short, items_then, struct_ended, still_open}

pub fits : (n : ℕ) → n < 2 ^ 63 → FitsSigned w64 (pos n)
fits n h = record { sfits = h }

-- ---- ColumnMetaData

abbrev meta_spells : ℤ → ℕ → List ℕ → Option MetaPart → Type 0
meta_spells = SpellsHeldOr (pos 2) 9 (SpellsListOf 5 SpellsWhole) (SpellsHeldOr (pos 3) 9 SpellsPath SpellsNumberField)

abbrev pub item : ℕ → ℕ → List ℕ → Item
item id kind bytes = record { id = pos id; kind = kind; bytes = bytes }

abbrev place_part : Option ℕ → FieldValues MetaPart
place_part None = []
place_part (Some n) = (pos 11, other (other (pos n))) ∷ []

abbrev IsPlace : Option ℕ → Type 0
IsPlace place = IfSome place (λ n. (0 < n) × (n < 2 ^ 63))

place_says : (place : Option ℕ) → IsPlace place → Says meta_spells (optional_items 11 6 place) (place_part place)
place_says None h = refl
place_says (Some n) h = (Some (other (other (pos n))), ([], (refl, refl, refl, (refl, (refl, (refl, whole_written (pos n) (fits n h.1)))), refl)))

abbrev meta_items : ℕ → List ℕ → List ℕ → ℕ → ℕ → ℕ → Option ℕ → List Item
meta_items physical encodings path values size first place =
    number_item 1 5 physical ∷ item 2 9 encodings ∷ item 3 9 path ∷ number_item 4 5 0 ∷ number_item 5 6 values ∷ number_item 6 6 size ∷ number_item 7 6 size ∷ number_item 9 6 first
    ∷ optional_items 11 6 place

abbrev meta_parts : ℕ → List ℤ → Path → ℕ → ℕ → ℕ → Option ℕ → FieldValues MetaPart
meta_parts physical codes path values size first place =
    (pos 1, other (other (pos physical))) ∷ (pos 2, held codes) ∷ (pos 3, other (held path)) ∷ (pos 4, other (other (pos 0))) ∷ (pos 5, other (other (pos values))) ∷ (pos 6, other (other (pos size))) ∷ (pos 7, other (other (pos size))) ∷ (pos 9, other (other (pos first)))
    ∷ place_part place

meta_says : (physical : ℕ) (encodings path_bytes : List ℕ) (codes : List ℤ) (path : Path) (values size first : ℕ) (place : Option ℕ) → physical < 2 ^ 63 → SpellsListOf 5 SpellsWhole encodings codes → SpellsPath path_bytes path
    → values < 2 ^ 63 → size < 2 ^ 63 → first < 2 ^ 63 → IsPlace place
    → Says meta_spells (meta_items physical encodings path_bytes values size first place) (meta_parts physical codes path values size first place)
meta_says physical encodings path_bytes codes path values size first place p e h v s f d = (
  Some (other (other (pos physical))),
  (
    _,
    (
      refl,
      refl,
      refl,
      (refl, (refl, (refl, whole_written (pos physical) (fits physical p)))),
      (
        Some (held codes),
        (
          _,
          (
            refl,
            refl,
            refl,
            (refl, e),
            (
              Some (other (held path)),
              (
                _,
                (
                  refl,
                  refl,
                  refl,
                  (refl, (refl, h)),
                  (
                    Some (other (other (pos 0))),
                    (
                      _,
                      (
                        refl,
                        refl,
                        refl,
                        (refl, (refl, (refl, whole_written (pos 0) (fits 0 (lit< tt))))),
                        (
                          Some (other (other (pos values))),
                          (
                            _,
                            (
                              refl,
                              refl,
                              refl,
                              (refl, (refl, (refl, whole_written (pos values) (fits values v)))),
                              (
                                Some (other (other (pos size))),
                                (
                                  _,
                                  (
                                    refl,
                                    refl,
                                    refl,
                                    (refl, (refl, (refl, whole_written (pos size) (fits size s)))),
                                    (
                                      Some (other (other (pos size))),
                                      (
                                        _,
                                        (
                                          refl,
                                          refl,
                                          refl,
                                          (refl, (refl, (refl, whole_written (pos size) (fits size s)))),
                                          (
                                            Some (other (other (pos first))),
                                            (
                                              _,
                                              (
                                                refl,
                                                refl,
                                                refl,
                                                (refl, (refl, (refl, whole_written (pos first) (fits first f)))),
                                                place_says place d,
                                              ),
                                            ),
                                          ),
                                        ),
                                      ),
                                    ),
                                  ),
                                ),
                              ),
                            ),
                          ),
                        ),
                      ),
                    ),
                  ),
                ),
              ),
            ),
          ),
        ),
      ),
    ),
  ),
)

meta_back : (physical : ℕ) (codes : List ℤ) (path : Path) (values size first : ℕ) (place : Option ℕ) → (record {
  read = record {
    physical = Some (pos physical);
    path = Some path;
    codec = Some (pos 0);
    values = Some (pos values);
    first_page = Some (pos first);
    dictionary_page = option_map pos place;
  };
  encodings = Some codes;
  uncompressed = Some (pos size);
  compressed = Some (pos size);
}) ≡ meta_of (meta_parts physical codes path values size first place)
meta_back physical codes path values size first None = refl
meta_back physical codes path values size first (Some n) = refl

-- ---- how many bytes it has

pub few_encodings : (b : Bool) (encodings : List ℕ) → encodings ≡ encodings_of b → length encodings ≤ 3
few_encodings true encodings e = rw e (omega arith)
few_encodings false encodings e = rw e (omega arith)

place_short : (place : Option ℕ) → IsPlace place → length (items_bytes (pos 9) (optional_items 11 6 place)) ≤ 12
place_short None h = omega arith
place_short (Some n) h = item_short (pos 9) (number_item 11 6 n) [] 10 1 refl (whole_64 n h.1) (omega arith)

meta_short : (physical : ℕ) (encodings path : List ℕ) (values size first : ℕ) (place : Option ℕ) (few short : ℕ) → physical < 2 ^ 31 → length encodings ≤ few → length path ≤ short
    → values < 2 ^ 63 → size < 2 ^ 63 → first < 2 ^ 63 → IsPlace place → length (struct_bytes (meta_items physical encodings path values size first place)) ≤ 70 + few + short
meta_short physical encodings path values size first place few short p e h v s f d =
    let i9 = optional_items 11 6 place in
    let i8 = number_item 9 6 first ∷ i9 in
    let i7 = number_item 7 6 size ∷ i8 in
    let i6 = number_item 6 6 size ∷ i7 in
    let i5 = number_item 5 6 values ∷ i6 in
    let i4 = number_item 4 5 0 ∷ i5 in
    let i3 = item 3 9 path ∷ i4 in
    let i2 = item 2 9 encodings ∷ i3 in
    let s8 : length (items_bytes (pos 7) i8) ≤ 23 = item_short (pos 7) (number_item 9 6 first) i9 10 12 refl (whole_64 first f) (place_short place d) in
    let s7 : length (items_bytes (pos 6) i7) ≤ 34 = item_short (pos 6) (number_item 7 6 size) i8 10 23 refl (whole_64 size s) s8 in
    let s6 : length (items_bytes (pos 5) i6) ≤ 45 = item_short (pos 5) (number_item 6 6 size) i7 10 34 refl (whole_64 size s) s7 in
    let s5 : length (items_bytes (pos 4) i5) ≤ 56 = item_short (pos 4) (number_item 5 6 values) i6 10 45 refl (whole_64 values v) s6 in
    let s4 : length (items_bytes (pos 3) i4) ≤ 62 = item_short (pos 3) (number_item 4 5 0) i5 5 56 refl (whole_32 0 (lit< tt)) s5 in
    let s3 : length (items_bytes (pos 2) i3) ≤ 1 + short + 62 = item_short (pos 2) (item 3 9 path) i4 short 62 refl h s4 in
    let s2 : length (items_bytes (pos 1) i2) ≤ 1 + few + (1 + short + 62) = item_short (pos 1) (item 2 9 encodings) i3 few (1 + short + 62) refl e s3 in
    let s1 = item_short (pos 0) (number_item 1 5 physical) i2 5 (1 + few + (1 + short + 62)) refl (whole_32 physical (omega (arith, p))) s2 in
    at_most (struct_bytes (number_item 1 5 physical ∷ i2)) (1 + 5 + (1 + few + (1 + short + 62))) (70 + few + short) s1 (omega arith)

abbrev pub With : List Item → WrittenSoFar → WrittenSoFar → Type 0
With items old new = new ≡ with_items items old

said_by : (c : Chunk) (encodings : List ℤ) → encodings ≡ map pos (encodings_of (is_some c.dictionary_page)) → meta_said c ≡ record {
  read = (meta_said c).read;
  encodings = Some encodings;
  uncompressed = Some (pos c.size);
  compressed = Some (pos c.size);
}
said_by c encodings coded = rw coded refl

module _ (c : Chunk) (fit : IsFit c) (old inner a : WrittenSoFar) (d e f g h i j k new : WrittenSoFar) (encodings : List ℤ) (few short most : ℕ) where
  pub meta_added : 70 + few + short ≤ most → c.physical < 2 ^ 63 → encodings ≡ map pos (encodings_of (is_some c.dictionary_page)) → IsOpen old → inner ≡ with_struct old → Puts (number_item 1 5 c.physical ∷ []) inner a
      → PutsHeld 2 9 (SpellsListOf 5 SpellsWhole) encodings few a d → PutsHeld 3 9 SpellsPath (path_of_chunk c) short d e → Puts (number_item 4 5 0 ∷ []) e f → Puts (number_item 5 6 c.values ∷ []) f g → Puts (number_item 6 6 c.size ∷ []) g h
      → Puts (number_item 7 6 c.size ∷ []) h i → Puts (number_item 9 6 c.first_page ∷ []) i j → Puts (optional_items 11 6 c.dictionary_page) j k → new ≡ with_end k → WritesValue SpellsMetaSaid (meta_said c) most old new
  meta_added room small coded stands begun first second third fourth fifth sixth seventh eighth ninth ended =
      let i9 = optional_items 11 6 c.dictionary_page in
      let i8 = number_item 9 6 c.first_page ∷ i9 in
      let i7 = number_item 7 6 c.size ∷ i8 in
      let i6 = number_item 6 6 c.size ∷ i7 in
      let i5 = number_item 5 6 c.values ∷ i6 in
      let i4 = number_item 4 5 0 ∷ i5 in
      let i3 = item 3 9 third.bytes ∷ i4 in
      let i2 = item 2 9 second.bytes ∷ i3 in
      let w8 : With i8 i k = items_then (number_item 9 6 c.first_page ∷ []) i9 i j k eighth.0 ninth.0 in
      let w7 : With i7 h k = items_then (number_item 7 6 c.size ∷ []) i8 h i k seventh.0 w8 in
      let w6 : With i6 g k = items_then (number_item 6 6 c.size ∷ []) i7 g h k sixth.0 w7 in
      let w5 : With i5 f k = items_then (number_item 5 6 c.values ∷ []) i6 f g k fifth.0 w6 in
      let w4 : With i4 e k = items_then (number_item 4 5 0 ∷ []) i5 e f k fourth.0 w5 in
      let w3 : With i3 d k = items_then (item 3 9 third.bytes ∷ []) i4 d e k third.written w4 in
      let w2 : With i2 a k = items_then (item 2 9 second.bytes ∷ []) i3 a d k second.written w3 in
      let all = meta_items c.physical second.bytes third.bytes c.values c.size c.first_page c.dictionary_page in
      let w1 : With all inner k = items_then (number_item 1 5 c.physical ∷ []) i2 inner a k first.0 w2 in
      let written : new ≡ with_bytes (struct_bytes all) old = struct_ended all old inner k new begun w1 ended in
      let parts = meta_parts c.physical encodings (path_of_chunk c) c.values c.size c.first_page c.dictionary_page in
      record {
        more = struct_bytes all;
        written = written;
        spelled = (
          parts,
          struct_spelled meta_spells all parts
              (meta_says c.physical second.bytes third.bytes encodings (path_of_chunk c) c.values c.size c.first_page c.dictionary_page small second.spelled third.spelled fit.values fit.size fit.first fit.dictionary),
          said_by c encodings coded ∙ meta_back c.physical encodings (path_of_chunk c) c.values c.size c.first_page c.dictionary_page,
        );
        size = at_most (struct_bytes all) (70 + few + short) most
            (meta_short c.physical second.bytes third.bytes c.values c.size c.first_page c.dictionary_page few short fit.physical second.size third.size fit.values fit.size fit.first fit.dictionary) room;
        goes_on = still_open (struct_bytes all) old new written stands;
      }

-- ---- ColumnChunk

abbrev chunk_spells : ℤ → ℕ → List ℕ → Option (Either MetaSaid ℤ) → Type 0
chunk_spells = SpellsHeldOr (pos 3) 12 SpellsMetaSaid SpellsNumberField

chunk_short : (bytes : List ℕ) (few : ℕ) → length bytes ≤ few → length (struct_bytes (number_item 2 6 0 ∷ item 3 12 bytes ∷ [])) ≤ 5 + few
chunk_short bytes few h =
    let s1 = item_short (pos 0) (number_item 2 6 0) (item 3 12 bytes ∷ []) 2 (1 + few + 1) refl (whole_8 0 (lit< tt)) (item_short (pos 2) (item 3 12 bytes) [] few 1 refl h (omega arith)) in
    at_most (struct_bytes (number_item 2 6 0 ∷ item 3 12 bytes ∷ [])) (1 + 2 + (1 + few + 1)) (5 + few) s1 (omega arith)

pub chunk_added : (m : MetaSaid) (few most : ℕ) (old inner a b new : WrittenSoFar) → 5 + few ≤ most → IsOpen old → inner ≡ with_struct old → Puts (number_item 2 6 0 ∷ []) inner a
    → PutsHeld 3 12 SpellsMetaSaid m few a b → new ≡ with_end b → WritesValue SpellsChunkSaid (record { metadata = Some m }) most old new
chunk_added m few most old inner a b new room stands begun first second ended =
    let all = number_item 2 6 0 ∷ item 3 12 second.bytes ∷ [] in
    let whole : With all inner b = items_then (number_item 2 6 0 ∷ []) (item 3 12 second.bytes ∷ []) inner a b first.0 second.written in
    let written : new ≡ with_bytes (struct_bytes all) old = struct_ended all old inner b new begun whole ended in
    let parts = (pos 2, other (pos 0)) ∷ (pos 3, held m) ∷ [] in
    record {
      more = struct_bytes all;
      written = written;
      spelled = (
        parts,
        struct_spelled chunk_spells all parts (Some (other (pos 0)), (_, (refl, refl, refl, (refl, (refl, whole_written (pos 0) (fits 0 (lit< tt)))), (Some (held m), (_, (refl, refl, refl, (refl, second.spelled), refl)))))),
        refl,
      );
      size = at_most (struct_bytes all) (5 + few) most (chunk_short second.bytes few second.size) room;
      goes_on = still_open (struct_bytes all) old new written stands;
    }

-- ---- RowGroup

abbrev group_spells : ℤ → ℕ → List ℕ → Option (Either (List ChunkSaid) ℤ) → Type 0
group_spells = SpellsHeldOr (pos 1) 9 (SpellsListOf 12 SpellsChunkSaid) SpellsNumberField

group_short : (bytes : List ℕ) (size rows most : ℕ) → size < 2 ^ 63 → rows < 2 ^ 63 → length bytes ≤ most
    → length (struct_bytes (item 1 9 bytes ∷ number_item 2 6 size ∷ number_item 3 6 rows ∷ [])) ≤ 24 + most
group_short bytes size rows most small few h =
    let i2 = number_item 2 6 size ∷ number_item 3 6 rows ∷ [] in
    let s3 : length (items_bytes (pos 2) (number_item 3 6 rows ∷ [])) ≤ 12 = item_short (pos 2) (number_item 3 6 rows) [] 10 1 refl (whole_64 rows few) (omega arith) in
    let s2 : length (items_bytes (pos 1) i2) ≤ 23 = item_short (pos 1) (number_item 2 6 size) (number_item 3 6 rows ∷ []) 10 12 refl (whole_64 size small) s3 in
    at_most (struct_bytes (item 1 9 bytes ∷ i2)) (1 + most + 23) (24 + most) (item_short (pos 0) (item 1 9 bytes) i2 most 23 refl h s2) (omega arith)

pub group_added : (chunks : List ChunkSaid) (size rows short most : ℕ) (old inner a b d new : WrittenSoFar) → 24 + short ≤ most → size < 2 ^ 63 → rows < 2 ^ 63 → IsOpen old → inner ≡ with_struct old
    → PutsHeld 1 9 (SpellsListOf 12 SpellsChunkSaid) chunks short inner a → Puts (number_item 2 6 size ∷ []) a b → Puts (number_item 3 6 rows ∷ []) b d → new ≡ with_end d
    → WritesValue SpellsGroupSaid (record { columns = Some chunks; bytes = Some (pos size); rows = Some (pos rows) }) most old new
group_added chunks size rows short most old inner a b d new room small few stands begun first second third ended =
    let i2 = number_item 2 6 size ∷ number_item 3 6 rows ∷ [] in
    let all = item 1 9 first.bytes ∷ i2 in
    let w2 : With i2 a d = items_then (number_item 2 6 size ∷ []) (number_item 3 6 rows ∷ []) a b d second.0 third.0 in
    let w1 : With all inner d = items_then (item 1 9 first.bytes ∷ []) i2 inner a d first.written w2 in
    let written : new ≡ with_bytes (struct_bytes all) old = struct_ended all old inner d new begun w1 ended in
    let parts = (pos 1, held chunks) ∷ (pos 2, other (pos size)) ∷ (pos 3, other (pos rows)) ∷ [] in
    record {
      more = struct_bytes all;
      written = written;
      spelled = (
        parts,
        struct_spelled group_spells all parts (
          Some (held chunks),
          (
            _,
            (
              refl,
              refl,
              refl,
              (refl, first.spelled),
              (
                Some (other (pos size)),
                (
                  _,
                  (
                    refl,
                    refl,
                    refl,
                    (refl, (refl, whole_written (pos size) (fits size small))),
                    (Some (other (pos rows)), (_, (refl, refl, refl, (refl, (refl, whole_written (pos rows) (fits rows few))), refl))),
                  ),
                ),
              ),
            ),
          ),
        ),
        refl,
      );
      size = at_most (struct_bytes all) (24 + short) most (group_short first.bytes size rows short small few first.size) room;
      goes_on = still_open (struct_bytes all) old new written stands;
    }
