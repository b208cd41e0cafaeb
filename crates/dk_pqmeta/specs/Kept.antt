-- What is kept of structs, as plain data, and what one field more makes of it.
use Rattle.std.specs.Prelude.{ℕ, ℤ, pos, Option, Some, None, option_map, List, map, string_bytes}
use Rattle.std.specs.Ordering.{int_eq}
use Rattle.dk_grammar.specs.Structs.{when, first_of_two}
use Rattle.dk_grammar.specs.Lists.{Either, held, other}
use Rattle.dk_pqmodel.specs.Projection.{Path}
use Rattle.dk_pqmodel.specs.Footer.{MetaFields, ChunkFields, GroupFields, ElementFields, FileFields}
use Rattle.dk_pqmeta.specs.declared.metadata.ColumnMetaData.{ColumnMetaData}
use Rattle.dk_pqmeta.specs.declared.chunk.ColumnChunk.{ColumnChunk}
use Rattle.dk_pqmeta.specs.declared.group.Group.{Group}
use Rattle.dk_pqmeta.specs.declared.element.Element.{Element}
use Rattle.dk_pqmeta.specs.declared.file.FileMetaData.{FileMetaData}

-- a value, if it stands in the field of the id, or else the value before
abbrev pub new_at : {V : Type 0} → ℤ → ℤ → V → Option V → Option V
new_at k id value before = first_of_two (when (int_eq id k) value) before

abbrev pub meta_kept : ColumnMetaData → MetaFields
meta_kept x = record {
  physical = x.physical;
  path = option_map (λ v. map string_bytes v.items) x.path;
  codec = x.codec;
  values = x.values;
  first_page = x.first_page;
  dictionary_page = x.dictionary_page;
}

abbrev pub meta_number : ℤ → ℤ → MetaFields → MetaFields
meta_number id z k = record k {
  physical = new_at (pos 1) id z k.physical;
  codec = new_at (pos 4) id z k.codec;
  values = new_at (pos 5) id z k.values;
  first_page = new_at (pos 9) id z k.first_page;
  dictionary_page = new_at (pos 11) id z k.dictionary_page;
}

abbrev pub with_meta : ℤ → Option (Either Path ℤ) → MetaFields → MetaFields
with_meta id None k = k
with_meta id (Some (held path)) k = record k { path = new_at (pos 3) id path k.path }
with_meta id (Some (other z)) k = meta_number id z k

abbrev pub chunk_kept : ColumnChunk → ChunkFields
chunk_kept x = record { metadata = option_map meta_kept x.metadata }

abbrev pub with_chunk : ℤ → Option (Either MetaFields ℤ) → ChunkFields → ChunkFields
with_chunk id None k = k
with_chunk id (Some (held metadata)) k = record k { metadata = new_at (pos 3) id metadata k.metadata }
with_chunk id (Some (other z)) k = k

abbrev pub group_kept : Group → GroupFields
group_kept x = record { columns = option_map (λ v. map chunk_kept v.items) x.columns; rows = x.rows }

abbrev pub group_number : ℤ → ℤ → GroupFields → GroupFields
group_number id z k = record k { rows = new_at (pos 3) id z k.rows }

abbrev pub with_group : ℤ → Option (Either (List ChunkFields) ℤ) → GroupFields → GroupFields
with_group id None k = k
with_group id (Some (held columns)) k = record k { columns = new_at (pos 1) id columns k.columns }
with_group id (Some (other z)) k = group_number id z k

abbrev pub element_kept : Element → ElementFields
element_kept x = record { physical = x.physical; repetition = x.repetition; name = option_map string_bytes x.name; children = x.children }

abbrev pub element_number : ℤ → ℤ → ElementFields → ElementFields
element_number id z k = record k { physical = new_at (pos 1) id z k.physical; repetition = new_at (pos 3) id z k.repetition; children = new_at (pos 5) id z k.children }

abbrev pub with_element : ℤ → Option (Either (List ℕ) ℤ) → ElementFields → ElementFields
with_element id None k = k
with_element id (Some (held name)) k = record k { name = new_at (pos 4) id name k.name }
with_element id (Some (other z)) k = element_number id z k

abbrev pub file_kept : FileMetaData → FileFields
file_kept x = record { schema = option_map (λ v. map element_kept v.items) x.schema; rows = x.rows; groups = option_map (λ v. map group_kept v.items) x.groups }

abbrev pub file_number : ℤ → ℤ → FileFields → FileFields
file_number id z k = record k { rows = new_at (pos 3) id z k.rows }

abbrev pub with_file : ℤ → Option (Either (List ElementFields) (Either (List GroupFields) ℤ)) → FileFields → FileFields
with_file id None k = k
with_file id (Some (held schema)) k = record k { schema = new_at (pos 2) id schema k.schema }
with_file id (Some (other (held groups))) k = record k { groups = new_at (pos 4) id groups k.groups }
with_file id (Some (other (other z))) k = file_number id z k
