-- What the two files mean.
use Rattle.std.proofs.Common.{◌≡◌, ℕ, pos, ◌<◌, ◌≤◌, ◌^◌, true, false, Some, None, List, [], ◌∷◌, ◌++◌, length, map, codes, refl, sym, ap, subst, ◌∙◌, inl, inr, arith, Ok}
use Rattle.std.specs.Prelude.{⊤, All, filter_map, replicate, unwrap_or}
use Rattle.std.specs.Str.{chars, is_utf8}
use Rattle.std.proofs.lemmas.List.{append-nil, length-map}
use Rattle.std.proofs.lemmas.List.Elements.{All-nil, All-cons, All-replicate}
use lib.Utf8.{encode}
use Rattle.dk_grammar.specs.Plain as plain
use Rattle.dk_grammar.specs.Varint.{groups}
use Rattle.dk_grammar.specs.Runs.{AreFirst, repeated}
use Rattle.dk_grammar.specs.Structs.{FieldValues, struct_at}
use Rattle.dk_grammar.specs.PageHeaders.{Part, number, inner, part_meaning, SpellsHeader}
use Rattle.dk_grammar.proofs.StructSpellings.{headers}
use Rattle.dk_pqmodel.specs.Shape as shape
use Rattle.dk_pqmodel.specs.Datum as cell
use Rattle.dk_pqmodel.specs.Datum.{Value, Triple, Column, null, group, atom, Cells}
use Rattle.dk_pqmodel.specs.RowView.{cells_of_list}
use Rattle.dk_pqmodel.specs.FileSchema.{FileNodes, file_node, no_nodes, one_node}
use Rattle.dk_pqmodel.specs.Footer.{Chunk, RowGroup, Footer}
use Rattle.dk_pqmodel.specs.FooterBytes.{SpellsFooter, magic}
use Rattle.dk_pqmodel.specs.FilePages.{ColumnAt, physical_type, IsPage, IsDataV1, InPlain, IsFull, AreFull}
use Rattle.dk_pqmodel.specs.FileMeans.{HasTriples, HasColumns, columns_of, FileMeans}
use Rattle.dk_pqmodel.specs.Projection.{Path, projection}
use Rattle.dk_pqmeta.proofs.Footers.{footer_found}
use Rattle.dk_lawful.specs.CheckpointSchema.{read_fields, txn_group, add_group, vector_group, remove_group, format_group, metadata_group, protocol_group, domain_group, checkpoint_group, sidecar_group}
use Rattle.dk_lawful.specs.RowExample.{of, text_cell, number as number_cell}
use Rattle.dk_ckread.specs.ParquetFiles.{header, page, in_first, in_second, leveled, plain_text, path_page, number_page, flag_page, add_pages, add_footer, add_file, id_page, schema_page, version_page, head_pages, head_footer, head_file, name_page, side_pages, side_footer, side_file, in_first_of_3, in_second_of_3, in_third_of_3, top_id_page, top_schema_page, top_protocol_page, top_version_page, top_pages, top_footer, top_file}
use Rattle.dk_ckread.specs.ParquetRows.{head_rows, add_rows, side_rows, top_rows}

unfoldable bytes_on_literals : ⊤
unfolding groups chars is_utf8 encode
bytes_on_literals = tt

unfoldable schema_on_literals : ⊤
unfolding txn_group add_group vector_group remove_group format_group metadata_group protocol_group domain_group checkpoint_group sidecar_group
schema_on_literals = tt

-- ---- the footers

abbrev required : List ℕ → ℕ → FileNodes → FileNodes
required name physical more = one_node (file_node name 0 (Some (pos physical)) no_nodes) more

abbrev add_chunks : List (Path × Chunk)
add_chunks =
    (codes "add" ∷ codes "path" ∷ [], record { physical = pos 6; codec = pos 0; values = 1; first_page = 4; dictionary_page = None })
    ∷ (codes "add" ∷ codes "size" ∷ [], record { physical = pos 2; codec = pos 0; values = 1; first_page = 26; dictionary_page = None })
    ∷ (codes "add" ∷ codes "modificationTime" ∷ [], record { physical = pos 2; codec = pos 0; values = 1; first_page = 51; dictionary_page = None })
    ∷ (codes "add" ∷ codes "dataChange" ∷ [], record { physical = pos 0; codec = pos 0; values = 1; first_page = 76; dictionary_page = None })
    ∷ []

abbrev add_said : Footer
add_said = record {
  rows = 1;
  fields = one_node (file_node (codes "add") 0 None (required (codes "path") 6 (required (codes "size") 2 (required (codes "modificationTime") 2 (required (codes "dataChange") 0 no_nodes))))) no_nodes;
  groups = record { rows = 1; columns = add_chunks } ∷ [];
}

add_spelled : SpellsFooter add_footer add_said
unfolding bytes_on_literals
add_spelled = footer_found add_footer add_said refl

abbrev head_chunks : List (Path × Chunk)
head_chunks =
    (codes "metaData" ∷ codes "id" ∷ [], record { physical = pos 6; codec = pos 0; values = 2; first_page = 4; dictionary_page = None })
    ∷ (codes "metaData" ∷ codes "schemaString" ∷ [], record { physical = pos 6; codec = pos 0; values = 2; first_page = 34; dictionary_page = None })
    ∷ (codes "protocol" ∷ codes "minReaderVersion" ∷ [], record { physical = pos 1; codec = pos 0; values = 2; first_page = 64; dictionary_page = None })
    ∷ (codes "protocol" ∷ codes "minWriterVersion" ∷ [], record { physical = pos 1; codec = pos 0; values = 2; first_page = 93; dictionary_page = None })
    ∷ []

abbrev head_said : Footer
head_said = record {
  rows = 2;
  fields =
      one_node (file_node (codes "metaData") 1 None (required (codes "id") 6 (required (codes "schemaString") 6 no_nodes)))
      (one_node (file_node (codes "protocol") 1 None (required (codes "minReaderVersion") 1 (required (codes "minWriterVersion") 1 no_nodes))) no_nodes);
  groups = record { rows = 2; columns = head_chunks } ∷ [];
}

head_spelled : SpellsFooter head_footer head_said
unfolding bytes_on_literals
head_spelled = footer_found head_footer head_said refl

-- ---- pages

abbrev parts : ℕ → ℕ → FieldValues Part
parts values size =
    (pos 1, number (pos 0)) ∷ (pos 2, number (pos size)) ∷ (pos 3, number (pos size))
    ∷ (pos 5, inner ((pos 1, pos values) ∷ (pos 2, pos 0) ∷ (pos 3, pos 3) ∷ (pos 4, pos 3) ∷ [])) ∷ []

-- a header of so many values and bytes is read so
abbrev IsRead : ℕ → ℕ → Type 0
IsRead values size = struct_at part_meaning (header values size) ≡ Ok (parts values size, [])

header_spelled : (values size : ℕ) → IsRead values size → SpellsHeader (header values size) (parts values size)
header_spelled values size read =
    let t = headers.spelled (header values size) [] (parts values size) read in subst (λ bytes. SpellsHeader bytes (parts values size)) (sym (t.1 ∙ append-nil t.0)) t.2

is_page : (values : ℕ) (body : List ℕ) → IsRead values (length body) → length body < 2 ^ 31 → IsPage (pos 0) (parts values (length body)) body (page values body)
is_page values body read small = record {
  header = header values (length body);
  whole = refl;
  spelled = header_spelled values (length body) read;
  kind = refl;
  size = refl;
  fits = small;
}

abbrev full : ℕ → Value → Triple
full d v = record { repetition = 0; definition = d; value = Some v }

abbrev nothing : Triple
nothing = record { repetition = 0; definition = 0; value = None }

is_full : (d : ℕ) (v : Value) → IsFull d (full d v)
is_full d v = ((omega arith), ((λ h. refl), (λ h. refl)))

is_nothing : IsFull 1 nothing
is_nothing = ((omega arith), ((λ h. cc), (λ h. cc)))

abbrev single : Path → shape.Leaf → ColumnAt
single path kind = record { path = path; kind = kind; rep = 0; def = 0 }

abbrev optional : Path → shape.Leaf → ColumnAt
optional path kind = record { path = path; kind = kind; rep = 0; def = 1 }

-- one value without levels
module _ (path : Path) (kind : shape.Leaf) (v : Value) (body : List ℕ) (read : IsRead 1 (length body)) (small : length body < 2 ^ 31) (in_plain : InPlain kind (v ∷ []) body) where
  one_value : IsDataV1 (single path kind) None (page 1 body) (full 0 v ∷ [])
  one_value = record {
    parts = parts 1 (length body);
    body = body;
    page = is_page 1 body read small;
    count = refl;
    fits = omega arith;
    code = pos 0;
    encoding = refl;
    def_code = (pos 3, refl, inl refl);
    rep_code = (pos 3, refl, inl refl);
    rep_part = [];
    def_part = [];
    values = body;
    split = refl;
    rep = [];
    def = [];
    rep_sized = inl (refl, refl, refl);
    def_sized = inl (refl, refl, refl);
    triples_held = record {
      repetitions = inl (refl, refl);
      definitions = inl (refl, refl);
      full = (All-cons (IsFull 0) (full 0 v) [] (is_full 0 v) (All-nil (IsFull 0)), All-cons (λ e. e.repetition ≤ 0) (full 0 v) [] (omega arith) (All-nil (λ e. e.repetition ≤ 0)));
      held = inl (refl, in_plain);
    };
  }

-- so many rows of which one has the value, with levels of one bit
module _ (count : ℕ) (path : Path) (kind : shape.Leaf) (triples : Column) (runs : List ℕ) (values : List ℕ) (read : IsRead count (length (leveled runs values))) (small : length (leveled runs values) < 2 ^ 31)
    (short : length runs < 2 ^ 32) (few : count < 2 ^ 31) (all : length triples ≡ count) (are_full : AreFull (optional path kind) triples) (levels : AreFirst 1 count (map (λ e. e.definition) triples) runs)
    (at_front : map (λ e. e.repetition) triples ≡ replicate count 0) (in_plain : InPlain kind (filter_map (λ e. e.value) triples) values) where
  as_many : length (map (λ e. e.definition) triples) ≡ count
  as_many = length-map triples (λ e. e.definition) ∙ all

  as_many_fronts : count ≡ length (map (λ e. e.repetition) triples)
  as_many_fronts = sym (length-map triples (λ e. e.repetition) ∙ all)

  leveled_values : IsDataV1 (optional path kind) None (page count (leveled runs values)) triples
  leveled_values = record {
    parts = parts count (length (leveled runs values));
    body = leveled runs values;
    page = is_page count (leveled runs values) read small;
    count = ap (λ n. Some (pos n)) (sym all);
    fits = omega (arith, all, few);
    code = pos 0;
    encoding = refl;
    def_code = (pos 3, refl, inr refl);
    rep_code = (pos 3, refl, inl refl);
    rep_part = [];
    def_part = plain.little 4 (length runs) ++ runs;
    values = values;
    split = refl;
    rep = [];
    def = runs;
    rep_sized = inl (refl, refl, refl);
    def_sized = inr ((omega arith), short, refl);
    triples_held = record {
      repetitions = inl (refl, at_front ∙ ap (λ n. replicate n 0) as_many_fronts);
      definitions = inr (
        (omega arith),
        record {
          width = 1;
          digits = ((omega arith), (omega arith));
          runs = runs;
          over = [];
          whole = sym (append-nil runs);
          first = subst (λ n. AreFirst 1 n (map (λ e. e.definition) triples) runs) (sym as_many) levels;
        },
      );
      full = are_full;
      held = inl (refl, in_plain);
    };
  }

abbrev first_triples : Value → Column
first_triples v = full 1 v ∷ nothing ∷ []

abbrev second_triples : Value → Column
second_triples v = nothing ∷ full 1 v ∷ []

first_levels : AreFirst 1 2 (1 ∷ 0 ∷ []) in_first
first_levels = record {
  runs = repeated 1 1 ∷ repeated 1 0 ∷ [];
  spelled = (
    2 ∷ 1 ∷ [],
    2 ∷ 0 ∷ [],
    refl,
    record { header = 2 ∷ []; body = 1 ∷ []; whole = refl; number = ((omega arith), refl); values = (refl, refl) },
    (2 ∷ 0 ∷ [], [], refl, record { header = 2 ∷ []; body = 0 ∷ []; whole = refl; number = ((omega arith), refl); values = (refl, refl) }, refl),
  );
  needed = ((omega arith), ((omega arith), refl));
  first = refl;
}

second_levels : AreFirst 1 2 (0 ∷ 1 ∷ []) in_second
second_levels = record {
  runs = repeated 1 0 ∷ repeated 1 1 ∷ [];
  spelled = (
    2 ∷ 0 ∷ [],
    2 ∷ 1 ∷ [],
    refl,
    record { header = 2 ∷ []; body = 0 ∷ []; whole = refl; number = ((omega arith), refl); values = (refl, refl) },
    (2 ∷ 1 ∷ [], [], refl, record { header = 2 ∷ []; body = 1 ∷ []; whole = refl; number = ((omega arith), refl); values = (refl, refl) }, refl),
  );
  needed = ((omega arith), ((omega arith), refl));
  first = refl;
}

abbrev At : ℕ → Triple → Type 0
At r e = e.repetition ≤ r

both : (P : Triple → Type 0) (d e : Triple) → P d → P e → All P (d ∷ e ∷ [])
both P d e p q = All-cons P d (e ∷ []) p (All-cons P e [] q (All-nil P))

first_full : (path : Path) (kind : shape.Leaf) (v : Value) → AreFull (optional path kind) (first_triples v)
first_full path kind v = (both (IsFull 1) (full 1 v) nothing (is_full 1 v) is_nothing, both (At 0) (full 1 v) nothing (omega arith) (omega arith))

second_full : (path : Path) (kind : shape.Leaf) (v : Value) → AreFull (optional path kind) (second_triples v)
second_full path kind v = (both (IsFull 1) nothing (full 1 v) is_nothing (is_full 1 v), both (At 0) nothing (full 1 v) (omega arith) (omega arith))

-- ---- values

text_in_plain : (t : List ℕ) → length t < 2 ^ 32 → is_utf8 t ≡ true → InPlain shape.chars (cell.chars t ∷ []) (plain_text t)
text_in_plain t short valid = (plain.chars t ∷ [], [], sym (append-nil (plain_text t ++ []) ∙ append-nil (plain_text t)), (short, (refl, valid), tt))

long_in_plain : (n : ℕ) → n < 2 ^ 63 → InPlain shape.int64 (cell.int (pos n) ∷ []) (plain.little 8 n)
long_in_plain n small = (plain.int64 (pos n) ∷ [], [], sym (append-nil (plain.little 8 n ++ []) ∙ append-nil (plain.little 8 n)), (record { sfits = small }, refl, tt))

int_in_plain : (n : ℕ) → n < 2 ^ 31 → InPlain shape.int32 (cell.int (pos n) ∷ []) (plain.little 4 n)
int_in_plain n small = (plain.int32 (pos n) ∷ [], [], sym (append-nil (plain.little 4 n ++ []) ∙ append-nil (plain.little 4 n)), (record { sfits = small }, refl, tt))

zeros : All (λ value. value < 2 ^ 1) (replicate 8 0)
zeros = All-replicate (λ value. value < 2 ^ 1) 8 0 (omega arith)

flag_in_plain : InPlain shape.flag (cell.flag false ∷ []) (0 ∷ [])
flag_in_plain = (
  false ∷ [],
  0 ∷ [],
  [],
  refl,
  record { padding = replicate 7 0; short = omega arith; packed = record { fit = zeros; bits = refl; number = refl } },
  refl,
)

-- ---- the data file

abbrev add_columns : List Column
add_columns = (full 0 (cell.chars (codes "a")) ∷ []) ∷ (full 0 (cell.int (pos 1)) ∷ []) ∷ (full 0 (cell.int (pos 5)) ∷ []) ∷ (full 0 (cell.flag false) ∷ []) ∷ []

abbrev at : List ℕ → List ℕ → Path
at outer name = outer ∷ name ∷ []

add_read : IsRead 1 5 × IsRead 1 8 × IsRead 1 1
unfolding bytes_on_literals
add_read = (refl, refl, refl)

path_is_page : IsDataV1 (single (at (codes "add") (codes "path")) shape.chars) None path_page (full 0 (cell.chars (codes "a")) ∷ [])
unfolding bytes_on_literals
path_is_page = one_value (at (codes "add") (codes "path")) shape.chars (cell.chars (codes "a")) (plain_text (codes "a")) add_read.0 (omega arith) (text_in_plain (codes "a") (omega arith) refl)

size_is_page : IsDataV1 (single (at (codes "add") (codes "size")) shape.int64) None (number_page 1) (full 0 (cell.int (pos 1)) ∷ [])
size_is_page = one_value (at (codes "add") (codes "size")) shape.int64 (cell.int (pos 1)) (plain.little 8 1) add_read.1 (omega arith) (long_in_plain 1 (omega arith))

time_is_page : IsDataV1 (single (at (codes "add") (codes "modificationTime")) shape.int64) None (number_page 5) (full 0 (cell.int (pos 5)) ∷ [])
time_is_page = one_value (at (codes "add") (codes "modificationTime")) shape.int64 (cell.int (pos 5)) (plain.little 8 5) add_read.1 (omega arith) (long_in_plain 5 (omega arith))

flag_is_page : IsDataV1 (single (at (codes "add") (codes "dataChange")) shape.flag) None flag_page (full 0 (cell.flag false) ∷ [])
flag_is_page = one_value (at (codes "add") (codes "dataChange")) shape.flag (cell.flag false) (0 ∷ []) add_read.2 (omega arith) flag_in_plain

-- a column of one page, which stands at this place
has_triples : (before : List ℕ) (column : ColumnAt) (chunk : Chunk) (triples : Column) (front bytes behind : List ℕ) → chunk.codec ≡ pos 0 → chunk.physical ≡ physical_type column.kind → before ≡ front ++ (bytes ++ behind)
    → length front ≡ unwrap_or chunk.dictionary_page chunk.first_page → IsDataV1 column None bytes triples → length triples ≡ chunk.values → HasTriples before column chunk triples
has_triples before column chunk triples front bytes behind plain typed whole begins is count = record {
  plain = plain;
  typed = typed;
  count = count;
  pages = inr (record {
    front = front;
    first = [];
    pages = (bytes, triples) ∷ [];
    behind = behind;
    whole = whole ∙ ap (λ page. front ++ (page ++ behind)) (sym (append-nil bytes));
    begins = begins;
    dictionary = None;
    entries = refl;
    read = (inl is, tt);
    joined = sym (append-nil triples);
  });
}

abbrev add_said_group : RowGroup
add_said_group = record { rows = 1; columns = add_chunks }

add_held : HasColumns add_pages add_said_group (columns_of (projection read_fields add_said.fields) 0 0) add_columns
unfolding bytes_on_literals schema_on_literals
add_held = (
  (_, (0, (omega arith), refl), has_triples add_pages _ _ _ magic path_page (number_page 1 ++ (number_page 5 ++ flag_page)) refl refl refl refl path_is_page refl),
  (
    (_, (1, (omega arith), refl), has_triples add_pages _ _ _ (magic ++ path_page) (number_page 1) (number_page 5 ++ flag_page) refl refl refl refl size_is_page refl),
    (
      (_, (2, (omega arith), refl), has_triples add_pages _ _ _ (magic ++ (path_page ++ number_page 1)) (number_page 5) flag_page refl refl refl refl time_is_page refl),
      ((_, (3, (omega arith), refl), has_triples add_pages _ _ _ (magic ++ (path_page ++ (number_page 1 ++ number_page 5))) flag_page [] refl refl refl refl flag_is_page refl), tt),
    ),
  ),
)

-- the rows as the file has them
abbrev add_own : Cells
add_own = cells_of_list (of (of (text_cell (codes "a") ∷ number_cell 1 ∷ number_cell 5 ∷ atom (cell.flag false) ∷ []) ∷ []) ∷ [])

pub add_file_means : FileMeans read_fields add_file add_rows
unfolding bytes_on_literals schema_on_literals
add_file_means = record {
  before = add_pages;
  part = add_footer;
  framed = record { content = path_page ++ (number_page 1 ++ (number_page 5 ++ flag_page)); front = refl; fits = omega arith; whole = refl };
  footer = add_said;
  spelled = add_spelled;
  fitting = refl;
  shares = add_own ∷ [];
  held = (record { columns = add_columns; held = add_held; triples = ((((refl, (refl, (refl, (refl, tt)))), tt), tt), refl); count = refl }, tt);
  count = refl;
  widened = refl;
}

-- ---- the protocol and the metadata

abbrev head_columns : List Column
head_columns =
    second_triples (cell.chars (codes "t")) ∷ second_triples (cell.chars (codes "s")) ∷ first_triples (cell.int (pos 1)) ∷ first_triples (cell.int (pos 1)) ∷ []

head_read : IsRead 2 13 × IsRead 2 12
unfolding bytes_on_literals
head_read = (refl, refl)

text_is_page : (name t : List ℕ) → length (leveled in_second (plain_text t)) ≡ 13 → length t < 2 ^ 32 → is_utf8 t ≡ true
    → IsDataV1 (optional (at (codes "metaData") name) shape.chars) None (page 2 (leveled in_second (plain_text t))) (second_triples (cell.chars t))
text_is_page name t long short valid =
    leveled_values 2 (at (codes "metaData") name) shape.chars (second_triples (cell.chars t)) in_second (plain_text t) (subst (IsRead 2) (sym long) head_read.0) (omega (arith, long)) (omega arith) (omega arith) refl
    (second_full (at (codes "metaData") name) shape.chars (cell.chars t)) second_levels refl (text_in_plain t short valid)

id_is_page : IsDataV1 (optional (at (codes "metaData") (codes "id")) shape.chars) None id_page (second_triples (cell.chars (codes "t")))
unfolding bytes_on_literals
id_is_page = text_is_page (codes "id") (codes "t") refl (omega arith) refl

schema_is_page : IsDataV1 (optional (at (codes "metaData") (codes "schemaString")) shape.chars) None schema_page (second_triples (cell.chars (codes "s")))
unfolding bytes_on_literals
schema_is_page = text_is_page (codes "schemaString") (codes "s") refl (omega arith) refl

version_is_page : (name : List ℕ) → IsDataV1 (optional (at (codes "protocol") name) shape.int32) None version_page (first_triples (cell.int (pos 1)))
version_is_page name =
    leveled_values 2 (at (codes "protocol") name) shape.int32 (first_triples (cell.int (pos 1))) in_first (plain.little 4 1) head_read.1 (omega arith) (omega arith) (omega arith) refl
    (first_full (at (codes "protocol") name) shape.int32 (cell.int (pos 1))) first_levels refl (int_in_plain 1 (omega arith))

abbrev head_said_group : RowGroup
head_said_group = record { rows = 2; columns = head_chunks }

head_held : HasColumns head_pages head_said_group (columns_of (projection read_fields head_said.fields) 0 0) head_columns
unfolding bytes_on_literals schema_on_literals
head_held = (
  (_, (0, (omega arith), refl), has_triples head_pages _ _ _ magic id_page (schema_page ++ (version_page ++ version_page)) refl refl refl refl id_is_page refl),
  (
    (_, (1, (omega arith), refl), has_triples head_pages _ _ _ (magic ++ id_page) schema_page (version_page ++ version_page) refl refl refl refl schema_is_page refl),
    (
      (_, (2, (omega arith), refl), has_triples head_pages _ _ _ (magic ++ (id_page ++ schema_page)) version_page version_page refl refl refl refl (version_is_page (codes "minReaderVersion")) refl),
      ((_, (3, (omega arith), refl), has_triples head_pages _ _ _ (magic ++ (id_page ++ (schema_page ++ version_page))) version_page [] refl refl refl refl (version_is_page (codes "minWriterVersion")) refl), tt),
    ),
  ),
)

abbrev head_own : Cells
head_own =
    cells_of_list (of (null ∷ of (number_cell 1 ∷ number_cell 1 ∷ []) ∷ []) ∷ of (of (text_cell (codes "t") ∷ text_cell (codes "s") ∷ []) ∷ null ∷ []) ∷ [])

pub head_file_means : FileMeans read_fields head_file head_rows
unfolding bytes_on_literals schema_on_literals
head_file_means = record {
  before = head_pages;
  part = head_footer;
  framed = record { content = id_page ++ (schema_page ++ (version_page ++ version_page)); front = refl; fits = omega arith; whole = refl };
  footer = head_said;
  spelled = head_spelled;
  fitting = refl;
  shares = head_own ∷ [];
  held = (record { columns = head_columns; held = head_held; triples = (((refl, ((refl, (refl, tt)), tt)), (((refl, (refl, tt)), (refl, tt)), tt)), refl); count = refl }, tt);
  count = refl;
  widened = refl;
}

-- ---- a sidecar's name

abbrev side_chunks : List (Path × Chunk)
side_chunks =
    (codes "sidecar" ∷ codes "path" ∷ [], record { physical = pos 6; codec = pos 0; values = 1; first_page = 4; dictionary_page = None })
    ∷ (codes "sidecar" ∷ codes "sizeInBytes" ∷ [], record { physical = pos 2; codec = pos 0; values = 1; first_page = 34; dictionary_page = None })
    ∷ (codes "sidecar" ∷ codes "modificationTime" ∷ [], record { physical = pos 2; codec = pos 0; values = 1; first_page = 59; dictionary_page = None })
    ∷ []

abbrev side_said : Footer
side_said = record {
  rows = 1;
  fields = one_node (file_node (codes "sidecar") 0 None (required (codes "path") 6 (required (codes "sizeInBytes") 2 (required (codes "modificationTime") 2 no_nodes)))) no_nodes;
  groups = record { rows = 1; columns = side_chunks } ∷ [];
}

side_spelled : SpellsFooter side_footer side_said
unfolding bytes_on_literals
side_spelled = footer_found side_footer side_said refl

side_read : IsRead 1 13
unfolding bytes_on_literals
side_read = refl

name_is_page : IsDataV1 (single (at (codes "sidecar") (codes "path")) shape.chars) None name_page (full 0 (cell.chars (codes "s.parquet")) ∷ [])
unfolding bytes_on_literals
name_is_page = one_value (at (codes "sidecar") (codes "path")) shape.chars (cell.chars (codes "s.parquet")) (plain_text (codes "s.parquet")) side_read (omega arith) (text_in_plain (codes "s.parquet") (omega arith) refl)

number_is_page : (name : List ℕ) (n : ℕ) → n < 2 ^ 63 → IsDataV1 (single (at (codes "sidecar") name) shape.int64) None (number_page n) (full 0 (cell.int (pos n)) ∷ [])
number_is_page name n small = one_value (at (codes "sidecar") name) shape.int64 (cell.int (pos n)) (plain.little 8 n) add_read.1 (omega arith) (long_in_plain n small)

abbrev side_columns : List Column
side_columns = (full 0 (cell.chars (codes "s.parquet")) ∷ []) ∷ (full 0 (cell.int (pos 1)) ∷ []) ∷ (full 0 (cell.int (pos 2)) ∷ []) ∷ []

abbrev side_said_group : RowGroup
side_said_group = record { rows = 1; columns = side_chunks }

side_held : HasColumns side_pages side_said_group (columns_of (projection read_fields side_said.fields) 0 0) side_columns
unfolding bytes_on_literals schema_on_literals
side_held = (
  (_, (0, (omega arith), refl), has_triples side_pages _ _ _ magic name_page (number_page 1 ++ number_page 2) refl refl refl refl name_is_page refl),
  (
    (_, (1, (omega arith), refl), has_triples side_pages _ _ _ (magic ++ name_page) (number_page 1) (number_page 2) refl refl refl refl (number_is_page (codes "sizeInBytes") 1 (omega arith)) refl),
    ((_, (2, (omega arith), refl), has_triples side_pages _ _ _ (magic ++ (name_page ++ number_page 1)) (number_page 2) [] refl refl refl refl (number_is_page (codes "modificationTime") 2 (omega arith)) refl), tt),
  ),
)

abbrev side_own : Cells
side_own = cells_of_list (of (of (text_cell (codes "s.parquet") ∷ number_cell 1 ∷ number_cell 2 ∷ []) ∷ []) ∷ [])

pub side_file_means : FileMeans read_fields side_file side_rows
unfolding bytes_on_literals schema_on_literals
side_file_means = record {
  before = side_pages;
  part = side_footer;
  framed = record { content = name_page ++ (number_page 1 ++ number_page 2); front = refl; fits = omega arith; whole = refl };
  footer = side_said;
  spelled = side_spelled;
  fitting = refl;
  shares = side_own ∷ [];
  held = (record { columns = side_columns; held = side_held; triples = ((((refl, (refl, (refl, tt))), tt), tt), refl); count = refl }, tt);
  count = refl;
  widened = refl;
}

-- ---- a version, a protocol and metadata

abbrev top_chunks : List (Path × Chunk)
top_chunks =
    (codes "metaData" ∷ codes "id" ∷ [], record { physical = pos 6; codec = pos 0; values = 3; first_page = 4; dictionary_page = None })
    ∷ (codes "metaData" ∷ codes "schemaString" ∷ [], record { physical = pos 6; codec = pos 0; values = 3; first_page = 34; dictionary_page = None })
    ∷ (codes "protocol" ∷ codes "minReaderVersion" ∷ [], record { physical = pos 1; codec = pos 0; values = 3; first_page = 64; dictionary_page = None })
    ∷ (codes "protocol" ∷ codes "minWriterVersion" ∷ [], record { physical = pos 1; codec = pos 0; values = 3; first_page = 95; dictionary_page = None })
    ∷ (codes "checkpointMetadata" ∷ codes "version" ∷ [], record { physical = pos 2; codec = pos 0; values = 3; first_page = 126; dictionary_page = None })
    ∷ []

abbrev top_said : Footer
top_said = record {
  rows = 3;
  fields =
      one_node (file_node (codes "metaData") 1 None (required (codes "id") 6 (required (codes "schemaString") 6 no_nodes)))
      (one_node (file_node (codes "protocol") 1 None (required (codes "minReaderVersion") 1 (required (codes "minWriterVersion") 1 no_nodes)))
      (one_node (file_node (codes "checkpointMetadata") 1 None (required (codes "version") 2 no_nodes)) no_nodes));
  groups = record { rows = 3; columns = top_chunks } ∷ [];
}

top_spelled : SpellsFooter top_footer top_said
unfolding bytes_on_literals
top_spelled = footer_found top_footer top_said refl

top_read : IsRead 3 13 × IsRead 3 14 × IsRead 3 16
unfolding bytes_on_literals
top_read = (refl, refl, refl)

abbrev in_first_triples : Value → Column
in_first_triples v = full 1 v ∷ nothing ∷ nothing ∷ []

abbrev in_second_triples : Value → Column
in_second_triples v = nothing ∷ full 1 v ∷ nothing ∷ []

abbrev in_third_triples : Value → Column
in_third_triples v = nothing ∷ nothing ∷ full 1 v ∷ []

in_first_levels : AreFirst 1 3 (1 ∷ 0 ∷ 0 ∷ []) in_first_of_3
in_first_levels = record {
  runs = repeated 1 1 ∷ repeated 2 0 ∷ [];
  spelled = (
    2 ∷ 1 ∷ [],
    4 ∷ 0 ∷ [],
    refl,
    record { header = 2 ∷ []; body = 1 ∷ []; whole = refl; number = ((omega arith), refl); values = (refl, refl) },
    (4 ∷ 0 ∷ [], [], refl, record { header = 4 ∷ []; body = 0 ∷ []; whole = refl; number = ((omega arith), refl); values = (refl, refl) }, refl),
  );
  needed = ((omega arith), ((omega arith), refl));
  first = refl;
}

in_second_levels : AreFirst 1 3 (0 ∷ 1 ∷ 0 ∷ []) in_second_of_3
in_second_levels = record {
  runs = repeated 1 0 ∷ repeated 1 1 ∷ repeated 1 0 ∷ [];
  spelled = (
    2 ∷ 0 ∷ [],
    2 ∷ 1 ∷ 2 ∷ 0 ∷ [],
    refl,
    record { header = 2 ∷ []; body = 0 ∷ []; whole = refl; number = ((omega arith), refl); values = (refl, refl) },
    (
      2 ∷ 1 ∷ [],
      2 ∷ 0 ∷ [],
      refl,
      record { header = 2 ∷ []; body = 1 ∷ []; whole = refl; number = ((omega arith), refl); values = (refl, refl) },
      (2 ∷ 0 ∷ [], [], refl, record { header = 2 ∷ []; body = 0 ∷ []; whole = refl; number = ((omega arith), refl); values = (refl, refl) }, refl),
    ),
  );
  needed = ((omega arith), ((omega arith), ((omega arith), refl)));
  first = refl;
}

in_third_levels : AreFirst 1 3 (0 ∷ 0 ∷ 1 ∷ []) in_third_of_3
in_third_levels = record {
  runs = repeated 2 0 ∷ repeated 1 1 ∷ [];
  spelled = (
    4 ∷ 0 ∷ [],
    2 ∷ 1 ∷ [],
    refl,
    record { header = 4 ∷ []; body = 0 ∷ []; whole = refl; number = ((omega arith), refl); values = (refl, refl) },
    (2 ∷ 1 ∷ [], [], refl, record { header = 2 ∷ []; body = 1 ∷ []; whole = refl; number = ((omega arith), refl); values = (refl, refl) }, refl),
  );
  needed = ((omega arith), ((omega arith), refl));
  first = refl;
}

each_of_3 : (P : Triple → Type 0) (c d e : Triple) → P c → P d → P e → All P (c ∷ d ∷ e ∷ [])
each_of_3 P c d e p q r = All-cons P c (d ∷ e ∷ []) p (both P d e q r)

top_text_page : (name t : List ℕ) → length (leveled in_third_of_3 (plain_text t)) ≡ 13 → length t < 2 ^ 32 → is_utf8 t ≡ true
    → IsDataV1 (optional (at (codes "metaData") name) shape.chars) None (page 3 (leveled in_third_of_3 (plain_text t))) (in_third_triples (cell.chars t))
top_text_page name t long short valid =
    leveled_values 3 (at (codes "metaData") name) shape.chars (in_third_triples (cell.chars t)) in_third_of_3 (plain_text t) (subst (IsRead 3) (sym long) top_read.0) (omega (arith, long)) (omega arith) (omega arith) refl
    (each_of_3 (IsFull 1) nothing nothing (full 1 (cell.chars t)) is_nothing is_nothing (is_full 1 (cell.chars t)), each_of_3 (At 0) nothing nothing (full 1 (cell.chars t)) (omega arith) (omega arith) (omega arith))
    in_third_levels refl (text_in_plain t short valid)

top_id_is_page : IsDataV1 (optional (at (codes "metaData") (codes "id")) shape.chars) None top_id_page (in_third_triples (cell.chars (codes "t")))
unfolding bytes_on_literals
top_id_is_page = top_text_page (codes "id") (codes "t") refl (omega arith) refl

top_schema_is_page : IsDataV1 (optional (at (codes "metaData") (codes "schemaString")) shape.chars) None top_schema_page (in_third_triples (cell.chars (codes "s")))
unfolding bytes_on_literals
top_schema_is_page = top_text_page (codes "schemaString") (codes "s") refl (omega arith) refl

top_protocol_is_page : (name : List ℕ) → IsDataV1 (optional (at (codes "protocol") name) shape.int32) None top_protocol_page (in_second_triples (cell.int (pos 1)))
top_protocol_is_page name =
    leveled_values 3 (at (codes "protocol") name) shape.int32 (in_second_triples (cell.int (pos 1))) in_second_of_3 (plain.little 4 1) top_read.1 (omega arith) (omega arith) (omega arith) refl
    (each_of_3 (IsFull 1) nothing (full 1 (cell.int (pos 1))) nothing is_nothing (is_full 1 (cell.int (pos 1))) is_nothing, each_of_3 (At 0) nothing (full 1 (cell.int (pos 1))) nothing (omega arith) (omega arith) (omega arith))
    in_second_levels refl (int_in_plain 1 (omega arith))

top_version_is_page : IsDataV1 (optional (at (codes "checkpointMetadata") (codes "version")) shape.int64) None top_version_page (in_first_triples (cell.int (pos 0)))
top_version_is_page =
    leveled_values 3 (at (codes "checkpointMetadata") (codes "version")) shape.int64 (in_first_triples (cell.int (pos 0))) in_first_of_3 (plain.little 8 0) top_read.2 (omega arith) (omega arith) (omega arith) refl
    (each_of_3 (IsFull 1) (full 1 (cell.int (pos 0))) nothing nothing (is_full 1 (cell.int (pos 0))) is_nothing is_nothing, each_of_3 (At 0) (full 1 (cell.int (pos 0))) nothing nothing (omega arith) (omega arith) (omega arith))
    in_first_levels refl (long_in_plain 0 (omega arith))

abbrev top_columns : List Column
top_columns =
    in_third_triples (cell.chars (codes "t")) ∷ in_third_triples (cell.chars (codes "s")) ∷ in_second_triples (cell.int (pos 1)) ∷ in_second_triples (cell.int (pos 1)) ∷ in_first_triples (cell.int (pos 0)) ∷ []

abbrev top_said_group : RowGroup
top_said_group = record { rows = 3; columns = top_chunks }

top_held : HasColumns top_pages top_said_group (columns_of (projection read_fields top_said.fields) 0 0) top_columns
unfolding bytes_on_literals schema_on_literals
top_held = (
  (_, (0, (omega arith), refl), has_triples top_pages _ _ _ magic top_id_page (top_schema_page ++ (top_protocol_page ++ (top_protocol_page ++ top_version_page))) refl refl refl refl top_id_is_page refl),
  (
    (_, (1, (omega arith), refl), has_triples top_pages _ _ _ (magic ++ top_id_page) top_schema_page (top_protocol_page ++ (top_protocol_page ++ top_version_page)) refl refl refl refl top_schema_is_page refl),
    (
      (_, (2, (omega arith), refl), has_triples top_pages _ _ _ (magic ++ (top_id_page ++ top_schema_page)) top_protocol_page (top_protocol_page ++ top_version_page) refl refl refl refl (top_protocol_is_page (codes "minReaderVersion")) refl),
      (
        (_, (3, (omega arith), refl), has_triples top_pages _ _ _ (magic ++ (top_id_page ++ (top_schema_page ++ top_protocol_page))) top_protocol_page top_version_page refl refl refl refl (top_protocol_is_page (codes "minWriterVersion")) refl),
        ((_, (4, (omega arith), refl), has_triples top_pages _ _ _ (magic ++ (top_id_page ++ (top_schema_page ++ (top_protocol_page ++ top_protocol_page)))) top_version_page [] refl refl refl refl top_version_is_page refl), tt),
      ),
    ),
  ),
)

abbrev top_own : Cells
top_own =
    cells_of_list (of (null ∷ null ∷ of (number_cell 0 ∷ []) ∷ []) ∷ of (null ∷ of (number_cell 1 ∷ number_cell 1 ∷ []) ∷ null ∷ []) ∷ of (of (text_cell (codes "t") ∷ text_cell (codes "s") ∷ []) ∷ null ∷ null ∷ []) ∷ [])

pub top_file_means : FileMeans read_fields top_file top_rows
unfolding bytes_on_literals schema_on_literals
top_file_means = record {
  before = top_pages;
  part = top_footer;
  framed = record { content = top_id_page ++ (top_schema_page ++ (top_protocol_page ++ (top_protocol_page ++ top_version_page))); front = refl; fits = omega arith; whole = refl };
  footer = top_said;
  spelled = top_spelled;
  fitting = refl;
  shares = top_own ∷ [];
  held = (
    record {
      columns = top_columns;
      held = top_held;
      triples = (((refl, (refl, ((refl, tt), tt))), ((refl, ((refl, (refl, tt)), (refl, tt))), (((refl, (refl, tt)), (refl, (refl, tt))), tt))), refl);
      count = refl;
    },
    tt,
  );
  count = refl;
  widened = refl;
}
