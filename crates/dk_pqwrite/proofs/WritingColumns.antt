-- A column's pages, and the chunk that says where they stand.
use Rattle.std.proofs.Common.{◌≡◌, ℕ, ◌+◌, ◌-◌, ◌*◌, ◌^◌, ◌<◌, ◌≤◌, Option, None, Some, pos, List, [], ◌∷◌, ◌++◌, length, map, vec_len, inl, inr, refl, sym, ap, subst, ◌∙◌, append_assoc, append-nil, arith}
use Rattle.std.specs.Prelude.{Vec}
use Rattle.std.specs.List.{All}
use Rattle.std.specs.Option.{unwrap_or}
use Rattle.std.specs.declared.alloc.Global.{Global}
use Rattle.std.proofs.lemmas.List.{length-append, length-map}
use Rattle.dk_pqmodel.specs.Shape as shape
use Rattle.dk_pqmodel.specs.Shape.{Leaf}
use Rattle.dk_pqmodel.specs.Datum.{Value, chars, Column}
use Rattle.dk_pqmodel.specs.FileMeans.{HasTriples}
use Rattle.dk_pqmodel.specs.FilePages.{IsDataV1, IsDictionary, IsFirst, physical_type}
use Rattle.dk_pqmodel.specs.Projection.{Path}
use Rattle.dk_pqmodel.specs.Weight.{column_bytes}
use Rattle.dk_pqwrite.specs.declared.chunk.Chunk.{Chunk}
use Rattle.dk_pqwrite.specs.declared.column.LeafColumn.{LeafColumn}
use Rattle.dk_pqwrite.specs.Adding.{AddsBytes}
use Rattle.dk_pqwrite.specs.Chunks.{IsFit, chunk_with_path, path_of_chunk}
use Rattle.dk_pqwrite.specs.FirstUses.{first_uses, texts_in}
use Rattle.dk_pqwrite.specs.PlainValues.{FitsEntry, column_weight, plain_size}
use Rattle.dk_pqwrite.specs.WrittenChunk.{WritesColumn}
use Rattle.dk_pqwrite.specs.WrittenColumn.{leaf_column_at, leaf_of_kind, values_of_column}
use Rattle.dk_pqwrite.proofs.BuildingPages.{text_values, values_few, weighs}
use Rattle.dk_pqwrite.proofs.PageSizes.{bytes_within, uses_few, uses_small}
use Rattle.dk_pqwrite.proofs.Uses.{Key, Text, shown}

-- ---- the distinct texts

module _ (entries : Column) (keys : List Key) (fit : All (FitsEntry shape.chars) entries) (uses : shown keys ≡ first_uses (texts_in entries)) where
  -- they are no more than the entries
  pub distinct_few : length keys ≤ length entries
  distinct_few =
      let same : length (values_of_column entries) ≡ length (texts_in entries) = ap length (text_values entries fit) ∙ length-map (texts_in entries) chars in
      let shorter : length keys ≡ length (first_uses (texts_in entries)) = sym (length-map keys (λ (k : Key). k.now)) ∙ ap length uses in
      omega (arith, shorter, same, uses_few (texts_in entries), values_few entries)

  -- and no longer than the values
  pub distinct_small : plain_size (map chars (shown keys)) ≤ plain_size (values_of_column entries)
  distinct_small =
      let most : plain_size (map chars (first_uses (texts_in entries))) ≤ plain_size (values_of_column entries) =
      subst (λ (vs : List Value). plain_size (map chars (first_uses (texts_in entries))) ≤ plain_size vs) (sym (text_values entries fit)) (uses_small (texts_in entries)) in
      subst (λ (ts : List Text). plain_size (map chars ts) ≤ plain_size (values_of_column entries)) (sym uses) most

  -- so they have room in a page
  pub distinct_light : column_weight entries ≤ 2 ^ 30 → plain_size (map chars (shown keys)) ≤ 2 ^ 30
  distinct_light light = omega (arith, light, distinct_small, weighs entries)

-- ---- bytes in a vector

pub grows : (Is : List ℕ → Type 0) (most : ℕ) (old new : Vec ℕ Global) → AddsBytes Is most old.items new.items → vec_len old ≤ vec_len new
grows Is most old new h = omega (arith, old.ok.0, new.ok.0, ap length h.added, length-append old.items h.part)

pub is_short : (v : Vec ℕ Global) → vec_len v < 2 ^ 63
is_short v = omega (arith, v.ok.1, v.small)

-- ---- pages that are added

-- the chunk says what the pages of a column hold
pub record Says (column : LeafColumn) (entries : Column) (path : Path) (chunk : Chunk) : Type 0 where
  pub typed : pos chunk.physical ≡ physical_type (leaf_of_kind column.kind)
  pub small : chunk.physical ≤ 6
  pub count : chunk.values ≡ length entries
  pub few : length entries ≤ 2 ^ 26
  pub names : path_of_chunk chunk ≡ path

module _ (column : LeafColumn) (entries : Column) (path : Path) (chunk : Chunk) (says : Says column entries path chunk) where
  module _ (dictionary : Option (List Value)) (old mid new first page : List ℕ) (begun : mid ≡ old ++ first) (ended : new ≡ mid ++ page) (is_first : IsFirst (leaf_of_kind column.kind) dictionary first)
      (is_data : IsDataV1 (leaf_column_at path column) dictionary page entries) where
    grown : new ≡ old ++ (first ++ page)
    grown = ended ∙ ap (λ bs. bs ++ page) begun ∙ append_assoc old first page

    whole : (behind : List ℕ) → new ++ behind ≡ old ++ (first ++ ((page ++ []) ++ behind))
    whole behind =
        ap (λ bs. bs ++ behind) grown ∙ append_assoc old (first ++ page) behind ∙ ap (λ bs. old ++ bs) (append_assoc first page behind)
        ∙ ap (λ bs. old ++ (first ++ (bs ++ behind))) (sym (append-nil page))

    held : length old ≡ unwrap_or chunk.dictionary_page chunk.first_page → (behind : List ℕ) → HasTriples (new ++ behind) (leaf_column_at path column) (chunk_with_path chunk).1 entries
    held begins behind = record {
      plain = refl;
      typed = says.typed;
      count = sym says.count;
      pages = inr (record {
        front = old;
        first = first;
        pages = (page, entries) ∷ [];
        behind = behind;
        whole = whole behind;
        begins = begins;
        dictionary = dictionary;
        entries = is_first;
        read = (inl is_data, tt);
        joined = sym (append-nil entries);
      });
    }

    column_written : length old ≡ unwrap_or chunk.dictionary_page chunk.first_page → chunk.first_page ≡ length mid → chunk.size + length old ≡ length new → IsFit chunk
        → length first + length page ≤ 220 + column_bytes entries → WritesColumn (leaf_column_at path column) entries chunk old new
    column_written begins place size fit small = record {
      part = first ++ page;
      added = grown;
      held = held begins;
      ends = record { front = mid; page = page; whole = ended; begins = sym place; dictionary = dictionary; is = is_data };
      bytes = omega (arith, size, ap length grown, length-append old (first ++ page));
      path = says.names;
      fit = fit;
      size = omega (arith, small, length-append first page);
    }

  pub plain_written : (old new : Vec ℕ Global)
      → ((path : Path) → AddsBytes (λ bytes. IsDataV1 (leaf_column_at path column) None bytes entries) (133 + 10 * chunk.values + plain_size (values_of_column entries)) old.items new.items)
      → chunk.first_page ≡ vec_len old → chunk.dictionary_page ≡ None → chunk.size ≡ vec_len new - vec_len old → WritesColumn (leaf_column_at path column) entries chunk old.items new.items
  plain_written old new page place none size =
      let h = page path in
      let begin : length old.items ≡ chunk.first_page = omega (arith, place, old.ok.0) in
      let fit : IsFit chunk = record {
        physical = omega (arith, says.small);
        values = omega (arith, says.count, says.few);
        size = omega (arith, size, is_short new);
        first = omega (arith, place, is_short old);
        dictionary = rw none tt;
      } in
      column_written None old.items old.items new.items [] h.part (sym (append-nil old.items)) h.added refl h.is (rw none begin) (sym begin)
      (omega (arith, size, grows _ _ old new h, old.ok.0, new.ok.0)) fit (omega (arith, h.size, says.count, bytes_within entries))

  pub coded_written : (old mid new : Vec ℕ Global) (texts : List Text) → leaf_of_kind column.kind ≡ shape.chars → plain_size (map chars texts) ≤ plain_size (values_of_column entries) → 0 < length old.items
      → AddsBytes (λ bytes. IsDictionary shape.chars bytes (map chars texts)) (33 + plain_size (map chars texts)) old.items mid.items
      → ((path : Path) → AddsBytes (λ bytes. IsDataV1 (leaf_column_at path column) (Some (map chars texts)) bytes entries) (174 + 15 * chunk.values) mid.items new.items)
      → chunk.first_page ≡ vec_len mid → chunk.dictionary_page ≡ Some (vec_len old) → chunk.size ≡ vec_len new - vec_len old → WritesColumn (leaf_column_at path column) entries chunk old.items new.items
  coded_written old mid new texts kind small begun first page place there size =
      let h = page path in
      let is_first = subst (λ (k : Leaf). IsDictionary k first.part (map chars texts)) (sym kind) first.is in
      let begin : 0 < vec_len old = omega (arith, begun, old.ok.0) in
      let fit : IsFit chunk = record {
        physical = omega (arith, says.small);
        values = omega (arith, says.count, says.few);
        size = omega (arith, size, is_short new);
        first = omega (arith, place, is_short mid);
        dictionary = rw there (begin, is_short old);
      } in
      column_written (Some (map chars texts)) old.items mid.items new.items first.part h.part first.added h.added is_first h.is (rw there (sym old.ok.0)) (omega (arith, place, mid.ok.0))
      (omega (arith, size, grows _ _ old mid first, grows _ _ mid new h, old.ok.0, new.ok.0)) fit (omega (arith, h.size, first.size, small, says.count, bytes_within entries))
