-- A footer is spelled by its parts, and the file by the footer.
use Rattle.std.proofs.Common.{◌≡◌, ◌<◌, ◌≤◌, ◌^◌, ◌+◌, ◌==◌, ℕ, ℤ, pos, nat_le, true, false, Option, Some, None, option_map, IfSome, All, List, [], ◌∷◌, ◌++◌, length, map, sum_by, codes, refl, sym, ap, subst, ◌∙◌, arith, lit<, append_assoc}
use Rattle.std.proofs.lemmas.Bool.{lt-ltb, le-leb, ne_eqb}
use Rattle.std.specs.List.{AllByRecursion}
use Rattle.std.proofs.lemmas.List.{length-append}
use Rattle.std.proofs.lemmas.List.Elements.{recursion_from_All}
use Rattle.std.proofs.lemmas.List.Sums.{sum_by-cons}
use Rattle.dk_grammar.specs.Plain.{little}
use Rattle.dk_grammar.specs.Spelling.{list_bytes}
use Rattle.dk_grammar.specs.Structs.{FieldValues, SpellsStruct, SpellsNumberField}
use Rattle.dk_grammar.specs.Lists.{Either, held, other, SpellsListOf, SpellsHeldOr}
use Rattle.dk_grammar.proofs.Digits.{length-digits_of}
use Rattle.dk_grammar.proofs.WrittenSpellings.{whole_written, binary_written}
use Rattle.dk_thrift.specs.Writing.{WrittenSoFar, with_bytes, with_field_header, with_struct, with_end}
use Rattle.dk_pqmodel.specs.Shape.{Fields}
use Rattle.dk_pqmodel.specs.Schema.{IsSchema}
use Rattle.dk_pqmodel.specs.FileMeans.{columns_of}
use Rattle.dk_pqmodel.specs.NodeView.{fields_of}
use Rattle.dk_pqmodel.specs.Footer as plain
use Rattle.dk_pqmodel.specs.Footer.{count_of, flat_of, each_of, schema_element, chunk_of, group_of, file_place, ◌>=◌}
use Rattle.dk_pqmodel.specs.FooterBytes.{SpellsFooter, magic}
use Rattle.dk_pqwrite.specs.Said.{ElementSaid, SpellsElementSaid, GroupSaid, SpellsGroupSaid, FileSaid, SpellsFileSaid}
use Rattle.dk_pqwrite.proofs.SaidRead.{element_read, chunk_read, group_read, file_read, file_found}
use Rattle.dk_pqmodel.specs.declared.node.Node.{Node}
use Rattle.dk_pqwrite.specs.declared.chunk.Chunk.{Chunk}
use Rattle.dk_pqwrite.specs.declared.group.RowGroup.{RowGroup}
use Rattle.dk_pqwrite.specs.Chunks.{IsFit, path_of_chunk, chunk_with_path, chunk_said, group_said}
use Rattle.dk_pqwrite.specs.Elements.{fields_said, read_element, said_of, WritesElement, WritesNodes}
use Rattle.dk_pqwrite.specs.FooterSizes.{name_size, element_size, chunk_size}
use Rattle.dk_pqwrite.specs.Footers.{SpellsFileFields, file_said, root_of, root_said, elements_size, footer_size, PutsSchema, AreColumnsOf, footer_of, EndsFile}
use Rattle.dk_pqwrite.specs.Items.{number_item, text_item, items_bytes, struct_bytes, Puts, PutsHeld}
use Rattle.dk_pqwrite.specs.OverItself.{own_plans, chunk_path, column_path}
use Rattle.dk_pqwrite.specs.Written.{written_nodes}
use Rattle.dk_pqwrite.proofs.FooterStructs.{fits, item, With}
use Rattle.dk_pqwrite.proofs.NodeElements.{count_is, one_element, elements_then}
use Rattle.dk_pqwrite.proofs.NumberSizes.{whole_32, whole_64, name_short}
use Rattle.dk_pqwrite.proofs.OwnPaths.{chunks_distinct}
use Rattle.dk_pqwrite.proofs.OwnTree.{own_tree}
use Rattle.dk_pqwrite.proofs.Structs.{struct_spelled, at_most, item_short, items_then, struct_ended, list_held}

-- ---- the schema

pub root_is : (ns : List Node) → fields_said (codes "root") None None (Some (length ns)) None ≡ root_said (fields_of ns)
root_is ns = ap (λ n. fields_said (codes "root") None None (Some n) None) (sym (count_is ns))

pub root_few : (ns : List Node) → length ns < 2 ^ 31 → count_of (written_nodes (fields_of ns)) < 2 ^ 31
root_few ns h = subst (λ n. n < 2 ^ 31) (sym (count_is ns)) h

root_read : (fs : Fields) → count_of (written_nodes fs) < 2 ^ 31 → read_element (root_said fs) ≡ Some (root_of fs)
root_read fs h = rw (lt-ltb (count_of (written_nodes fs)) (2 ^ 31) h) refl

one_more : (n : ℕ) (xs : List ElementSaid) (x : ElementSaid) → n ≡ length xs + 1 → n ≡ length (x ∷ xs)
one_more n xs x e = omega (arith, e)

pub schema_added : (fs : Fields) (f : ElementSaid) (count : ℕ) (old header counted v new : WrittenSoFar) → header ≡ with_field_header (pos 2) 9 old → counted ≡ with_bytes (list_bytes count 12) header
    → count ≡ length (said_of (written_nodes fs)) + 1 → count < 2 ^ 32 → f ≡ root_said fs → count_of (written_nodes fs) < 2 ^ 31 → WritesElement f counted v → WritesNodes (written_nodes fs) v new
    → PutsSchema fs old new
schema_added fs f count old header counted v new e g same small named few first nodes =
    let ns = written_nodes fs in
    let root = one_element (root_said fs) (root_of fs) counted v (root_read fs few) (subst (λ s. WritesElement s counted v) named first) in
    let all = elements_then (root_said fs ∷ []) (said_of ns) (root_of fs ∷ []) (flat_of ns) counted v new root nodes in
    record {
      held = list_held 2 12 count SpellsElementSaid (root_said fs ∷ said_of ns) (elements_size fs) (6 + elements_size fs) old header counted new (omega arith) e g
          (one_more count (said_of ns) (root_said fs) same) small refl (record { more = all.more; written = all.written; spelled = all.spelled; size = all.size; goes_on = all.goes_on });
      read = all.read;
    }

-- ---- the chunks

small_type : (n : ℕ) → n < 2 ^ 31 → nat_le n 2147483647 ≡ true
small_type n h = le-leb n 2147483647 (omega arith)

place_again : (place : Option ℕ) → IfSome place (λ n. (0 < n) × (n < 2 ^ 63)) → (option_map pos place >= file_place) ≡ place
place_again None h = refl
place_again (Some n) h = rw (above n h.0) refl
  where
    above : (n : ℕ) → 0 < n → (n == 0) ≡ false
    above n h = ne_eqb n 0 (λ same. (omega (arith, same, h)))

chunk_again : (c : Chunk) → IsFit c → chunk_of (chunk_read (chunk_said c)) ≡ Some (chunk_with_path c)
chunk_again c fit = rw (small_type c.physical fit.physical, place_again c.dictionary_page fit.dictionary) refl

chunks_again : (cs : List Chunk) → AllByRecursion IsFit cs → each_of chunk_of (map chunk_read (map chunk_said cs)) ≡ Some (map chunk_with_path cs)
chunks_again [] h = refl
chunks_again (c ∷ cs) h = rw (chunk_again c h.0, chunks_again cs h.1) refl

paths_are : (cs : List Chunk) → map chunk_path (map chunk_with_path cs) ≡ map path_of_chunk cs
paths_are [] = refl
paths_are (c ∷ cs) = ap (λ ps. path_of_chunk c ∷ ps) (paths_are cs)

group_again : (fs : Fields) (group : RowGroup) → IsSchema fs → All IsFit group.chunks.items → AreColumnsOf fs group.chunks.items
    → group_of (group_read (group_said group)) ≡ Some (record { rows = group.rows; columns = map chunk_with_path group.chunks.items })
group_again fs group is fit columns =
    let chunks = group.chunks.items in
    rw (chunks_again chunks (recursion_from_All IsFit chunks fit), chunks_distinct fs (map chunk_with_path chunks) is (paths_are chunks ∙ columns)) refl

-- ---- the whole

abbrev Groups : Type 0
Groups = Either (List GroupSaid) ℤ

abbrev file_spells : ℤ → ℕ → List ℕ → Option (Either (List ElementSaid) Groups) → Type 0
file_spells = SpellsHeldOr (pos 2) 9 (SpellsListOf 12 SpellsElementSaid) (SpellsHeldOr (pos 4) 9 (SpellsListOf 12 SpellsGroupSaid) SpellsNumberField)

abbrev empty : WrittenSoFar
empty = record { bytes = []; structs = [] }

file_short : (rows : ℕ) (schema groups author : List ℕ) (few short : ℕ) → rows < 2 ^ 63 → length author < 2 ^ 64 → length schema ≤ few → length groups ≤ short
    → length (struct_bytes (number_item 1 5 1 ∷ item 2 9 schema ∷ number_item 3 6 rows ∷ item 4 9 groups ∷ text_item 6 author ∷ [])) ≤ 21 + few + short + name_size author
file_short rows schema groups author few short small known h k =
    let own = name_size author in
    let i5 = text_item 6 author ∷ [] in
    let i4 = item 4 9 groups ∷ i5 in
    let i3 = number_item 3 6 rows ∷ i4 in
    let i2 = item 2 9 schema ∷ i3 in
    let s5 : length (items_bytes (pos 4) i5) ≤ 1 + own + 1 = item_short (pos 4) (text_item 6 author) [] own 1 refl (name_short author known) (omega arith) in
    let s4 : length (items_bytes (pos 3) i4) ≤ 1 + short + (1 + own + 1) = item_short (pos 3) (item 4 9 groups) i5 short (1 + own + 1) refl k s5 in
    let s3 : length (items_bytes (pos 2) i3) ≤ 11 + (1 + short + (1 + own + 1)) = item_short (pos 2) (number_item 3 6 rows) i4 10 (1 + short + (1 + own + 1)) refl (whole_64 rows small) s4 in
    let s2 : length (items_bytes (pos 1) i2) ≤ 1 + few + (11 + (1 + short + (1 + own + 1))) = item_short (pos 1) (item 2 9 schema) i3 few (11 + (1 + short + (1 + own + 1))) refl h s3 in
    let s1 = item_short (pos 0) (number_item 1 5 1) i2 5 (1 + few + (11 + (1 + short + (1 + own + 1)))) refl (whole_32 1 (lit< tt)) s2 in
    at_most (struct_bytes (number_item 1 5 1 ∷ i2)) (6 + (1 + few + (11 + (1 + short + (1 + own + 1))))) (21 + few + short + own) s1 (sum_is few short own)
  where
    sum_is : (few short own : ℕ) → 6 + (1 + few + (11 + (1 + short + (1 + own + 1)))) ≤ 21 + few + short + own
    sum_is few short own = omega arith

-- The bytes of a FileMetaData spell it, and are no more than so many.
pub record IsFile (elements : List ElementSaid) (rows : ℕ) (groups : List GroupSaid) (most : ℕ) (bytes : List ℕ) : Type 0 where
  pub spelled : SpellsFileSaid bytes (record { schema = Some elements; rows = Some (pos rows); groups = Some groups })
  pub size : length bytes ≤ most

module _ (elements : List ElementSaid) (rows : ℕ) (groups : List GroupSaid) (author : List ℕ) (few short most : ℕ) (begun a b d e f new : WrittenSoFar) where
  pub file_added : 21 + few + short + name_size author ≤ most → rows < 2 ^ 63 → length author < 2 ^ 64 → begun ≡ with_struct empty → Puts (number_item 1 5 1 ∷ []) begun a
      → PutsHeld 2 9 (SpellsListOf 12 SpellsElementSaid) elements few a b → Puts (number_item 3 6 rows ∷ []) b d → PutsHeld 4 9 (SpellsListOf 12 SpellsGroupSaid) groups short d e
      → Puts (text_item 6 author ∷ []) e f → new ≡ with_end f → IsFile elements rows groups most new.bytes
  file_added room small known started first second third fourth fifth ended =
      let i4 = item 4 9 fourth.bytes ∷ text_item 6 author ∷ [] in
      let i3 = number_item 3 6 rows ∷ i4 in
      let i2 = item 2 9 second.bytes ∷ i3 in
      let all = number_item 1 5 1 ∷ i2 in
      let w4 : With i4 d f = items_then (item 4 9 fourth.bytes ∷ []) (text_item 6 author ∷ []) d e f fourth.written fifth.0 in
      let w3 : With i3 b f = items_then (number_item 3 6 rows ∷ []) i4 b d f third.0 w4 in
      let w2 : With i2 a f = items_then (item 2 9 second.bytes ∷ []) i3 a b f second.written w3 in
      let w1 : With all begun f = items_then (number_item 1 5 1 ∷ []) i2 begun a f first.0 w2 in
      let written : new.bytes ≡ struct_bytes all = ap (λ w. w.bytes) (struct_ended all empty begun f new started w1 ended) in
      let parts : FieldValues (Either (List ElementSaid) Groups) = (pos 1, other (other (pos 1))) ∷ (pos 2, held elements) ∷ (pos 3, other (other (pos rows))) ∷ (pos 4, other (held groups)) ∷ [] in record {
        spelled = (
          parts,
          subst (λ bytes. SpellsStruct file_spells bytes parts) (sym written) (struct_spelled file_spells all parts (
            Some (other (other (pos 1))),
            (
              _,
              (
                refl,
                refl,
                refl,
                (refl, (refl, (refl, whole_written (pos 1) (fits 1 (lit< tt))))),
                (
                  Some (held elements),
                  (
                    _,
                    (
                      refl,
                      refl,
                      refl,
                      (refl, second.spelled),
                      (
                        Some (other (other (pos rows))),
                        (
                          _,
                          (
                            refl,
                            refl,
                            refl,
                            (refl, (refl, (refl, whole_written (pos rows) (fits rows small)))),
                            (
                              Some (other (held groups)),
                              (
                                _,
                                (
                                  refl,
                                  refl,
                                  refl,
                                  (refl, (refl, fourth.spelled)),
                                  (None, (_, (refl, refl, refl, (refl, (refl, (refl, (refl, (author, binary_written author known))))), refl))),
                                ),
                              ),
                            ),
                          ),
                        ),
                      ),
                    ),
                  ),
                ),
              ),
            ),
          )),
          refl,
        );
        size = subst (λ bytes. length bytes ≤ most) (sym written)
            (at_most (struct_bytes all) (21 + few + short + name_size author) most (file_short rows second.bytes fourth.bytes author few short small known second.size fourth.size) room);
      }

elements_again : (es : List ElementSaid) → each_of schema_element (map element_read es) ≡ each_of read_element es
elements_again [] = refl
elements_again (e ∷ es) = rw (elements_again es) refl

pub footer_spelled : (fs : Fields) (group : RowGroup) (bytes : List ℕ) → IsSchema fs → All IsFit group.chunks.items → AreColumnsOf fs group.chunks.items → SpellsFileFields fs group bytes → SpellsFooter bytes (footer_of fs group)
footer_spelled fs group bytes is fit columns file = (
  file_read (file_said fs group),
  file_found bytes (file_said fs group) file.spelled,
  record {
    elements = root_of fs ∷ flat_of (written_nodes fs);
    schema = elements_again (root_said fs ∷ said_of (written_nodes fs)) ∙ file.read;
    tree = own_tree fs (root_of fs) is refl;
    groups = rw (group_again fs group is fit columns) refl;
    rows = refl;
  },
)

-- ---- the file

pub file_ended : (footer : plain.Footer) (said : FileSaid) (before part bytes content : List ℕ) → SpellsFooter part footer → SpellsFileSaid part said → before ≡ magic ++ content → length part < 2 ^ 32
    → bytes ≡ before ++ (part ++ (little 4 (length part) ++ magic)) → EndsFile footer said before bytes
file_ended footer said before part bytes content spelled says begun small e = (part, record { content = content; front = begun; fits = small; whole = e }, spelled, says)

pub four_parts : (a b c d whole : List ℕ) → whole ≡ ((a ++ b) ++ c) ++ d → whole ≡ a ++ (b ++ (c ++ d))
four_parts a b c d whole e = e ∙ append_assoc (a ++ b) c d ∙ append_assoc a b (c ++ d)

-- with the footer come its length in four bytes, and the magic
pub file_size : (before part bytes : List ℕ) (most : ℕ) → bytes ≡ before ++ (part ++ (little 4 (length part) ++ magic)) → length part ≤ 70 + most → length bytes ≤ length before + 78 + most
file_size before part bytes most e h =
    let a = length-append before (part ++ (little 4 (length part) ++ magic)) in
    let b = length-append part (little 4 (length part) ++ magic) in
    let c : length (little 4 (length part) ++ magic) ≡ length (little 4 (length part)) + 4 = length-append (little 4 (length part)) magic in
    let four : length (little 4 (length part)) ≡ 4 = length-digits_of 256 4 (length part) in
    omega (arith, ap length e, a, b, c, four, h)

-- where the chunks are those of the schema's columns, the schema alone says how many bytes that are
pub footer_size_is : (fs : Fields) (cs : List Chunk) → AreColumnsOf fs cs
    → footer_size fs cs ≡ 31 + sum_by element_size (said_of (written_nodes fs)) + sum_by chunk_size (map column_path (columns_of (own_plans fs []) 0 0))
footer_size_is fs cs columns =
    let root : element_size (root_said fs) ≡ 31 = refl in
    omega (arith, root, sum_by-cons element_size (root_said fs) (said_of (written_nodes fs)), ap (sum_by chunk_size) columns)
