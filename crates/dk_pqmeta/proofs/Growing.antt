-- One field more, and what is kept then.
use Rattle.std.proofs.Common.{◌≡◌, ℕ, ℤ, pos, Option, Some, None, option_map, List, [], ◌++◌, refl, ap}
use Rattle.std.proofs.lemmas.List.{append-nil}
use Rattle.dk_grammar.specs.Structs.{FieldValues, under}
use Rattle.dk_grammar.specs.Lists.{Either, held, other, others_in}
use Rattle.dk_pqmodel.specs.Projection.{Path}
use Rattle.dk_pqmodel.specs.Footer.{MetaFields, meta_fields, ChunkFields, chunk_fields, GroupFields, group_fields, ElementFields, element_fields, file_fields}
use Rattle.dk_pqmeta.specs.Kept.{with_meta, with_chunk, with_group, with_element, with_file}
use Rattle.dk_pqmeta.proofs.Helds.{held_last, held_stays, others_more, others_same, number_last, number_stays}

pub element_grows : (id : ℤ) (value : Option (Either (List ℕ) ℤ)) (done : FieldValues (Either (List ℕ) ℤ)) → element_fields (done ++ under id value []) ≡ with_element id value (element_fields done)
element_grows id None done = ap element_fields (append-nil done)
element_grows id (Some (held x)) done = rw (held_last (pos 4) id x done, number_stays (pos 1) id x done, number_stays (pos 3) id x done, number_stays (pos 5) id x done) refl
element_grows id (Some (other z)) done = rw (held_stays (pos 4) id z done, number_last (pos 1) id z done, number_last (pos 3) id z done, number_last (pos 5) id z done) refl

pub meta_grows : (id : ℤ) (value : Option (Either Path ℤ)) (done : FieldValues (Either Path ℤ)) → meta_fields (done ++ under id value []) ≡ with_meta id value (meta_fields done)
meta_grows id None done = ap meta_fields (append-nil done)
meta_grows id (Some (held x)) done = rw (held_last (pos 3) id x done, number_stays (pos 1) id x done, number_stays (pos 4) id x done, number_stays (pos 5) id x done, number_stays (pos 9) id x done, number_stays (pos 11) id x done) refl
meta_grows id (Some (other z)) done = rw (held_stays (pos 3) id z done, number_last (pos 1) id z done, number_last (pos 4) id z done, number_last (pos 5) id z done, number_last (pos 9) id z done, number_last (pos 11) id z done) refl

pub group_grows : (id : ℤ) (value : Option (Either (List ChunkFields) ℤ)) (done : FieldValues (Either (List ChunkFields) ℤ)) → group_fields (done ++ under id value []) ≡ with_group id value (group_fields done)
group_grows id None done = ap group_fields (append-nil done)
group_grows id (Some (held x)) done = rw (held_last (pos 1) id x done, number_stays (pos 3) id x done) refl
group_grows id (Some (other z)) done = rw (held_stays (pos 1) id z done, number_last (pos 3) id z done) refl

pub chunk_grows : (id : ℤ) (value : Option (Either MetaFields ℤ)) (done : FieldValues (Either MetaFields ℤ)) → chunk_fields (done ++ under id value []) ≡ with_chunk id value (chunk_fields done)
chunk_grows id None done = ap chunk_fields (append-nil done)
chunk_grows id (Some (held x)) done = rw (held_last (pos 3) id x done) refl
chunk_grows id (Some (other z)) done = rw (held_stays (pos 3) id z done) refl

-- a number in a ColumnChunk is of no account
pub chunk_stays : (id : ℤ) (number : Option ℤ) (done : FieldValues (Either MetaFields ℤ)) → chunk_fields (done ++ under id (option_map other number) []) ≡ chunk_fields done
chunk_stays id None done = chunk_grows id None done
chunk_stays id (Some z) done = chunk_grows id (Some (other z)) done

pub file_grows : (id : ℤ) (value : Option (Either (List ElementFields) (Either (List GroupFields) ℤ))) (done : FieldValues (Either (List ElementFields) (Either (List GroupFields) ℤ)))
    → file_fields (done ++ under id value []) ≡ with_file id value (file_fields done)
file_grows id None done = ap file_fields (append-nil done)
file_grows id (Some (held x)) done = rw (held_last (pos 2) id x done, others_same done id x) refl
file_grows id (Some (other (held x))) done =
    rw (held_stays (pos 2) id (held x) done, others_more done id (held x), held_last (pos 4) id x (others_in done), number_stays (pos 3) id x (others_in done)) refl
file_grows id (Some (other (other z))) done =
    rw (held_stays (pos 2) id (other z) done, others_more done id (other z), held_stays (pos 4) id z (others_in done), number_last (pos 3) id z (others_in done)) refl
