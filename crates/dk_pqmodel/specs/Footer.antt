-- What the footer of a Parquet file says (parquet.thrift, FileMetaData), from the fields of its structs by id.
use Rattle.std.specs.Prelude.{◌≡◌, ◌≤◌, ◌==◌, ◌^◌, ◌+◌, ℕ, suc, max, nat_le, nat_lt, int_le, Bool, true, false, ◌&&◌, ◌||◌, not, if◌then◌else◌, IsTrue, ℤ, pos, negsuc, Option, Some, None, option_map, option_and_then, List, [], ◌∷◌, ◌++◌}
use Rattle.std.specs.Cmp.Lexicographic.{pointwise}
use Rattle.std.specs.Str.{bytes_eq}
use Rattle.dk_grammar.specs.Structs.{FieldValues, last_under}
use Rattle.dk_grammar.specs.Lists.{Either, held_in, others_in}
use Rattle.dk_pqmodel.specs.FileSchema.{FileNode, file_node, FileNodes, no_nodes, one_node, node_name}
use Rattle.dk_pqmodel.specs.Projection.{Path}

-- A chunk of a column: its physical type, its codec, how many values it has, nulls among them, and where in the file its first data
-- page and its dictionary page stand.
pub record Chunk : Type 0 where
  pub physical : ℤ
  pub codec : ℤ
  pub values : ℕ
  pub first_page : ℕ
  pub dictionary_page : Option ℕ

-- how many rows it has, and its chunks by the paths of their columns
pub record RowGroup : Type 0 where
  pub rows : ℕ
  pub columns : List (Path × Chunk)

-- how many rows there are, the fields at the top of the file's schema, and the row groups
pub record Footer : Type 0 where
  pub rows : ℕ
  pub fields : FileNodes
  pub groups : List RowGroup

-- an element of the flat list that spells the schema: its children follow it
pub record Element : Type 0 where
  pub name : List ℕ
  pub repetition : Option ℤ
  pub physical : Option ℤ
  pub children : ℕ

-- ---- numbers

infixl 10 ◌>=◌
abbrev pub ◌>=◌ : {A B : Type 0} → Option A → (A → Option B) → Option B
x >= f = option_and_then f x

-- a number of 32 bits
abbrev pub int32 : ℤ → Option ℤ
int32 z = if int_le (negsuc 2147483647) z && int_le z (pos 2147483647) then Some z else None

-- a number that isn't below zero
abbrev pub natural : ℤ → Option ℕ
natural (pos n) = Some n
natural (negsuc n) = None

-- one of 32 bits
abbrev pub natural32 : ℤ → Option ℕ
natural32 (pos n) = if nat_lt n (2 ^ 31) then Some n else None
natural32 (negsuc n) = None

-- a place above 0
abbrev pub file_place : ℤ → Option ℕ
file_place (pos n) = if n == 0 then None else Some n
file_place (negsuc n) = None

-- a field that may be absent, but not wrong
abbrev pub absent_or : {A B : Type 0} → (A → Option B) → Option A → Option (Option B)
absent_or f None = Some None
absent_or f (Some x) = option_map Some (f x)

-- each turned; none where one can't be
abbrev pub each_of : {A B : Type 0} → (A → Option B) → List A → Option (List B)
each_of f [] = Some []
each_of f (x ∷ xs) = f x >= λ y. option_map (λ ys. y ∷ ys) (each_of f xs)

-- ---- the fields of structs, by their names

-- the value that a struct holds in the field of an id, and a number in one; of several it is the last
abbrev pub held_under : {A B : Type 0} → ℤ → FieldValues (Either A B) → Option A
held_under id fields = last_under id (held_in fields)

abbrev pub number_under : {A : Type 0} → ℤ → FieldValues (Either A ℤ) → Option ℤ
number_under id fields = last_under id (others_in fields)

-- ColumnMetaData
pub record MetaFields : Type 0 where
  pub physical : Option ℤ
  pub path : Option Path
  pub codec : Option ℤ
  pub values : Option ℤ
  pub first_page : Option ℤ
  pub dictionary_page : Option ℤ

abbrev pub meta_fields : FieldValues (Either Path ℤ) → MetaFields
meta_fields fields = record {
  physical = number_under (pos 1) fields;
  path = held_under (pos 3) fields;
  codec = number_under (pos 4) fields;
  values = number_under (pos 5) fields;
  first_page = number_under (pos 9) fields;
  dictionary_page = number_under (pos 11) fields;
}

-- ColumnChunk: its metadata
pub record ChunkFields : Type 0 where
  pub metadata : Option MetaFields

abbrev pub chunk_fields : FieldValues (Either MetaFields ℤ) → ChunkFields
chunk_fields fields = record { metadata = held_under (pos 3) fields }

-- RowGroup
pub record GroupFields : Type 0 where
  pub columns : Option (List ChunkFields)
  pub rows : Option ℤ

abbrev pub group_fields : FieldValues (Either (List ChunkFields) ℤ) → GroupFields
group_fields fields = record { columns = held_under (pos 1) fields; rows = number_under (pos 3) fields }

-- SchemaElement
pub record ElementFields : Type 0 where
  pub physical : Option ℤ
  pub repetition : Option ℤ
  pub name : Option (List ℕ)
  pub children : Option ℤ

abbrev pub element_fields : FieldValues (Either (List ℕ) ℤ) → ElementFields
element_fields fields = record {
  physical = number_under (pos 1) fields;
  repetition = number_under (pos 3) fields;
  name = held_under (pos 4) fields;
  children = number_under (pos 5) fields;
}

-- FileMetaData
pub record FileFields : Type 0 where
  pub schema : Option (List ElementFields)
  pub rows : Option ℤ
  pub groups : Option (List GroupFields)

abbrev pub file_fields : FieldValues (Either (List ElementFields) (Either (List GroupFields) ℤ)) → FileFields
file_fields fields = record {
  schema = held_under (pos 2) fields;
  rows = number_under (pos 3) (others_in fields);
  groups = held_under (pos 4) (others_in fields);
}

-- ---- row groups

-- a chunk, where all is there but perhaps the dictionary page
abbrev pub chunk_in : MetaFields → Option Chunk
chunk_in meta =
    meta.physical >= int32 >= λ physical. meta.codec >= int32 >= λ codec. meta.values >= natural >= λ values. meta.first_page >= natural >= λ first_page.
    Some (record { physical = physical; codec = codec; values = values; first_page = first_page; dictionary_page = meta.dictionary_page >= file_place })

-- with its column's path
abbrev pub column_chunk : MetaFields → Option (Path × Chunk)
column_chunk meta = chunk_in meta >= λ chunk. meta.path >= λ path. Some (path, chunk)

abbrev pub chunk_of : ChunkFields → Option (Path × Chunk)
chunk_of chunk = chunk.metadata >= column_chunk

abbrev pub is_path : Path → Path → Bool
is_path = pointwise bytes_eq

abbrev pub has_path : Path → List (Path × Chunk) → Bool
has_path path [] = false
has_path path (c ∷ cs) = is_path path c.0 || has_path path cs

-- no two chunks of one path, in the order of the file
abbrev pub is_new_each : List (Path × Chunk) → List (Path × Chunk) → Bool
is_new_each before [] = true
is_new_each before (c ∷ cs) = not (has_path (c.0) before) && is_new_each (before ++ (c ∷ [])) cs

abbrev pub if_distinct : List (Path × Chunk) → Option (List (Path × Chunk))
if_distinct columns = if is_new_each [] columns then Some columns else None

abbrev pub group_of : GroupFields → Option RowGroup
group_of group =
    group.columns >= each_of chunk_of >= if_distinct >= λ columns. group.rows >= natural >= λ rows. Some (record { rows = rows; columns = columns })

-- ---- the schema

-- an element that says no number of children has none
abbrev pub children_in : Option ℤ → Option ℕ
children_in None = Some 0
children_in (Some z) = natural32 z

abbrev pub schema_element : ElementFields → Option Element
schema_element element =
    absent_or int32 element.physical >= λ physical. children_in element.children >= λ children. element.name >= λ name.
    Some (record { name = name; repetition = element.repetition; physical = physical; children = children })

abbrev pub count_of : FileNodes → ℕ
count_of no_nodes = 0
count_of (one_node n ns) = suc (count_of ns)

-- a node's element and then those of its children: the tree, depth first
abbrev mutual
  pub flat : FileNode → List Element
  flat (file_node name repetition physical children) =
      record { name = name; repetition = Some (pos repetition); physical = physical; children = count_of children } ∷ flat_of children

  pub flat_of : FileNodes → List Element
  flat_of no_nodes = []
  flat_of (one_node n ns) = flat n ++ flat_of ns

abbrev pub is_among_names : List ℕ → List (List ℕ) → Bool
is_among_names name [] = false
is_among_names name (n ∷ ns) = bytes_eq name n || is_among_names name ns

-- no two nodes of one name: each name is new, behind those before
abbrev pub are_new : List (List ℕ) → FileNodes → Bool
are_new before no_nodes = true
are_new before (one_node n ns) = not (is_among_names (node_name n) before) && are_new (before ++ (node_name n ∷ [])) ns

-- each repetition is one of the three, and no two fields of a group have one name
abbrev mutual
  pub is_sound : FileNode → Bool
  is_sound (file_node name repetition physical children) = nat_le repetition 2 && are_new [] children && are_sound children

  pub are_sound : FileNodes → Bool
  are_sound no_nodes = true
  are_sound (one_node n ns) = is_sound n && are_sound ns

abbrev mutual
  pub levels_in : FileNode → ℕ
  levels_in (file_node name repetition physical children) = 1 + levels_of children

  pub levels_of : FileNodes → ℕ
  levels_of no_nodes = 0
  levels_of (one_node n ns) = max (levels_in n) (levels_of ns)

abbrev pub most_file_levels : ℕ
most_file_levels = 100

-- The elements spell the fields: the root's element, and then theirs. There are at most 100 levels, the root not counted.
pub record IsTree (elements : List Element) (fields : FileNodes) : Type 0 where
  pub root : Element
  pub whole : elements ≡ root ∷ flat_of fields
  pub count : root.children ≡ count_of fields
  pub distinct : IsTrue (are_new [] fields)
  pub sound : IsTrue (are_sound fields)
  pub levels : levels_of fields ≤ most_file_levels

-- ---- the whole

-- what the fields of a FileMetaData mean
pub record MeansFooter (file : FileFields) (footer : Footer) : Type 0 where
  pub elements : List Element
  pub schema : (file.schema >= each_of schema_element) ≡ Some elements
  pub tree : IsTree elements footer.fields
  pub groups : (file.groups >= each_of group_of) ≡ Some footer.groups
  pub rows : (file.rows >= natural) ≡ Some footer.rows
