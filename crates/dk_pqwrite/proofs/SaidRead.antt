-- What a written footer says is read of it: what more it says is passed over.
use Rattle.std.proofs.Common.{◌≡◌, ℕ, zero, suc, ◌==◌, ◌&&◌, ◌||◌, true, false, Bool, ℤ, pos, Option, Some, None, option_map, option_and_then, List, [], ◌∷◌, length, map, refl, sym, ap, subst, ◌∙◌, arith}
use Rattle.std.proofs.lemmas.List.{length-map}
use Rattle.std.specs.Ordering.{int_eq}
use Rattle.std.proofs.lemmas.Bool.{eqb-true, ne_eqb}
use Rattle.std.proofs.lemmas.Bool.Decides.{Decides-int_eq}
use Rattle.dk_grammar.specs.Thrift.{head}
use Rattle.dk_grammar.specs.Grammar.{SpellsList, SpellsWhole}
use Rattle.dk_grammar.specs.Nested.{Repeats, SpellsAnyElement, SpellsValue}
use Rattle.dk_grammar.specs.declared.thrift.Kind.TheVariants as kinds
use Rattle.dk_grammar.specs.Structs.{FieldValues, under, last_under, first_of_two, when, SpellsFields, SpellsStruct, SpellsNumberField}
use Rattle.dk_grammar.specs.Lists.{Either, held, other, is_held, held_in, others_in, SpellsEach, SpellsListHeader, SpellsListOf, SpellsHeldOr}
use Rattle.dk_pqmodel.specs.Projection.{Path}
use Rattle.dk_pqmodel.specs.Footer.{MetaFields, meta_fields, ChunkFields, GroupFields, ElementFields, FileFields, held_under, number_under}
use Rattle.dk_pqmodel.specs.FooterBytes.{SpellsPath, SpellsMeta, SpellsChunk, SpellsGroup, SpellsElement, SpellsMetaData}
use Rattle.dk_pqwrite.specs.Said.{MetaSaid, MetaPart, SpellsMetaSaid, ChunkSaid, SpellsChunkSaid, GroupSaid, SpellsGroupSaid, ElementSaid, SpellsElementSaid, FileSaid, FilePart, SpellsFileSaid}

-- ---- fields, one by one

module _ {V W : Type 0} (f : V → Option W) where
  abbrev pub kept : FieldValues V → FieldValues W
  kept [] = []
  kept (x ∷ xs) = under x.0 (f x.1) (kept xs)

  under_kept : (id : ℤ) (value : Option V) (more : FieldValues V) → kept (under id value more) ≡ under id (option_and_then f value) (kept more)
  under_kept id None more = refl
  under_kept id (Some value) more = refl

  module _ (spells : ℤ → ℕ → List ℕ → Option V → Type 0) (reads : ℤ → ℕ → List ℕ → Option W → Type 0)
      (turn : (id : ℤ) (kind : ℕ) (bytes : List ℕ) (value : Option V) → spells id kind bytes value → reads id kind bytes (option_and_then f value)) where
    fields_kept : (n : ℕ) (last : ℤ) (bytes : List ℕ) (fields : FieldValues V) → SpellsFields spells n last bytes fields → SpellsFields reads n last bytes (kept fields)
    fields_kept zero last bytes fields s = (s.0, ap kept s.1)
    fields_kept (suc n) last bytes fields s =
        let id = s.0 in
        let kind = s.1.0 in
        let value = s.1.1.0 in
        let more = s.1.1.1.0 in
        let behind = s.1.1.1.1.1 in
        let nested = behind.1.3 in (
          id,
          (
            kind,
            (
              option_and_then f value,
              (
                kept more,
                (
                  ap kept s.1.1.1.1.0 ∙ under_kept id value more,
                  (
                    behind.0,
                    (
                      behind.1.0,
                      behind.1.1,
                      behind.1.2,
                      (nested.0, (nested.1.0, nested.1.1, turn id kind nested.0 value nested.1.2, fields_kept n id nested.1.0 more nested.1.3)),
                    ),
                  ),
                ),
              ),
            ),
          ),
        )

    pub struct_kept : (bytes : List ℕ) (fields : FieldValues V) → SpellsStruct spells bytes fields → SpellsStruct reads bytes (kept fields)
    struct_kept bytes fields s = (s.0, fields_kept s.0 (pos 0) bytes fields s.1)

-- ---- lists

each_as : {A B : Type 0} (f : A → B) (spells : List ℕ → A → Type 0) (reads : List ℕ → B → Type 0) → ((bytes : List ℕ) (x : A) → spells bytes x → reads bytes (f x)) → (bytes : List ℕ) (xs : List A)
    → SpellsEach spells bytes xs → SpellsEach reads bytes (map f xs)
each_as f spells reads turn bytes [] s = s
each_as f spells reads turn bytes (x ∷ xs) s = (s.0, (s.1.0, s.1.1, turn s.0 x s.1.2, each_as f spells reads turn s.1.0 xs s.1.3))

list_as : {A B : Type 0} (f : A → B) (kind : ℕ) (spells : List ℕ → A → Type 0) (reads : List ℕ → B → Type 0) → ((bytes : List ℕ) (x : A) → spells bytes x → reads bytes (f x)) → (bytes : List ℕ) (xs : List A)
    → SpellsListOf kind spells bytes xs → SpellsListOf kind reads bytes (map f xs)
list_as {A} {B} f kind spells reads turn bytes xs s =
    (s.0, (s.1.0, s.1.1, subst (λ n. SpellsListHeader kind n s.0) (sym (length-map xs f)) s.1.2, each_as f spells reads turn s.1.0 xs s.1.3))

-- ---- the value under an id

last_map : {A B : Type 0} (f : A → B) (id : ℤ) (xs : FieldValues A) → last_under id (map (λ (x : ℤ × A). (x.0, f x.1)) xs) ≡ option_map f (last_under id xs)
last_map f id [] = refl
last_map {A} {B} f id (x ∷ xs) =
    ap (λ o. first_of_two o (when (int_eq x.0 id) (f x.1))) (last_map f id xs) ∙ by (last_under id xs) (int_eq x.0 id)
  where
    by : (later : Option A) (b : Bool) → first_of_two (option_map f later) (when b (f x.1)) ≡ option_map f (first_of_two later (when b x.1))
    by (Some y) b = refl
    by None true = refl
    by None false = refl

-- ---- ColumnMetaData

abbrev meta_kept : MetaPart → Option (Either Path ℤ)
meta_kept (held x) = None
meta_kept (other y) = Some y

both_true : (a b : Bool) → (a && b) ≡ true → (a ≡ true) × (b ≡ true)
both_true true true h = (refl, refl)
both_true true false h = cc
both_true false true h = cc
both_true false false h = cc

holds : (a b : Bool) → (a || b) ≡ true → a ≡ false → b ≡ true
holds false b h none = h
holds true b h none = cc

repeated : (values : List ℤ) (bytes : List ℕ) → SpellsEach SpellsWhole bytes values → Repeats (SpellsAnyElement 31 kinds.Whole) (length values) bytes
repeated [] bytes s = s
repeated (z ∷ zs) bytes s = (s.0, (s.1.0, s.1.1, (s.1.2.0, s.1.2.1), repeated zs s.1.0 s.1.3))

-- a list of whole numbers is passed over
wholes_passed : (values : List ℤ) (bytes : List ℕ) → SpellsListOf 5 SpellsWhole bytes values → SpellsValue 9 bytes
wholes_passed [] bytes s = (refl, (head 0 s.1.2.0, (s.0, (s.1.0, s.1.1, s.1.2.2, s.1.3))))
wholes_passed (z ∷ zs) bytes s =
    let some : (length (z ∷ zs) == 0) ≡ false = ne_eqb (length (z ∷ zs)) 0 (λ same. omega (arith, same)) in
    let of_is : s.1.2.0 ≡ 5 = eqb-true s.1.2.0 5 (holds (length (z ∷ zs) == 0) (s.1.2.0 == 5) s.1.2.1 some) in
    let header : SpellsList s.0 (head (length (z ∷ zs)) 5) = subst (λ k. SpellsList s.0 (head (length (z ∷ zs)) k)) of_is s.1.2.2 in
    (refl, (head (length (z ∷ zs)) 5, (s.0, (s.1.0, s.1.1, header, repeated (z ∷ zs) s.1.0 s.1.3))))

-- what a chunk's metadata says more is a list of whole numbers, and no path
encodings_passed : (id : ℤ) (kind : ℕ) (bytes : List ℕ) (codes : List ℤ) → is_held (pos 2) 9 id kind ≡ true → SpellsListOf 5 SpellsWhole bytes codes
    → SpellsHeldOr {B = ℤ} (pos 3) 9 SpellsPath SpellsNumberField id kind bytes None
encodings_passed id kind bytes codes is s =
    let both = both_true (int_eq id (pos 2)) (kind == 9) is in
    let id_is : id ≡ pos 2 = (Decides-int_eq id (pos 2)).0 both.0 in
    let kind_is : kind ≡ 9 = eqb-true kind 9 both.1 in
    subst (λ i. SpellsHeldOr {B = ℤ} (pos 3) 9 SpellsPath SpellsNumberField i kind bytes None) (sym id_is)
    (subst (λ k. SpellsHeldOr {B = ℤ} (pos 3) 9 SpellsPath SpellsNumberField (pos 2) k bytes None) (sym kind_is) (refl, (refl, wholes_passed codes bytes s)))

meta_turned : (id : ℤ) (kind : ℕ) (bytes : List ℕ) (value : Option MetaPart)
    → SpellsHeldOr (pos 2) 9 (SpellsListOf 5 SpellsWhole) (SpellsHeldOr (pos 3) 9 SpellsPath SpellsNumberField) id kind bytes value
    → SpellsHeldOr (pos 3) 9 SpellsPath SpellsNumberField id kind bytes (option_and_then meta_kept value)
meta_turned id kind bytes None s = s.1
meta_turned id kind bytes (Some (held codes)) s = encodings_passed id kind bytes codes s.0 s.1
meta_turned id kind bytes (Some (other y)) s = s.1

meta_others : (fields : FieldValues MetaPart) → others_in fields ≡ kept meta_kept fields
meta_others [] = refl
meta_others ((id, held x) ∷ fields) = meta_others fields
meta_others ((id, other y) ∷ fields) = ap (λ more. (id, y) ∷ more) (meta_others fields)

pub meta_read : (bytes : List ℕ) (meta : MetaSaid) → SpellsMetaSaid bytes meta → SpellsMeta bytes meta.read
meta_read bytes meta s = (
  kept meta_kept s.0,
  struct_kept meta_kept (SpellsHeldOr (pos 2) 9 (SpellsListOf 5 SpellsWhole) (SpellsHeldOr (pos 3) 9 SpellsPath SpellsNumberField)) (SpellsHeldOr (pos 3) 9 SpellsPath SpellsNumberField) meta_turned bytes s.0 s.1,
  ap (λ (m : MetaSaid). m.read) s.2 ∙ ap meta_fields (meta_others s.0),
)

-- ---- a struct that holds a value beside whole numbers

module _ {A B : Type 0} (f : A → B) where
  abbrev value_kept : Either A ℤ → Option (Either B ℤ)
  value_kept (held x) = Some (held (f x))
  value_kept (other y) = Some (other y)

  value_turned : (held_id : ℤ) (held_kind : ℕ) (spells : List ℕ → A → Type 0) (reads : List ℕ → B → Type 0) → ((bytes : List ℕ) (x : A) → spells bytes x → reads bytes (f x))
      → (id : ℤ) (kind : ℕ) (bytes : List ℕ) (value : Option (Either A ℤ)) → SpellsHeldOr held_id held_kind spells SpellsNumberField id kind bytes value
      → SpellsHeldOr held_id held_kind reads SpellsNumberField id kind bytes (option_and_then value_kept value)
  value_turned held_id held_kind spells reads turn id kind bytes None s = s
  value_turned held_id held_kind spells reads turn id kind bytes (Some (held x)) s = (s.0, turn bytes x s.1)
  value_turned held_id held_kind spells reads turn id kind bytes (Some (other y)) s = s

  held_kept : (fields : FieldValues (Either A ℤ)) → held_in (kept value_kept fields) ≡ map (λ (x : ℤ × A). (x.0, f x.1)) (held_in fields)
  held_kept [] = refl
  held_kept ((id, held x) ∷ fields) = ap (λ more. (id, f x) ∷ more) (held_kept fields)
  held_kept ((id, other y) ∷ fields) = held_kept fields

  others_kept : (fields : FieldValues (Either A ℤ)) → others_in (kept value_kept fields) ≡ others_in fields
  others_kept [] = refl
  others_kept ((id, held x) ∷ fields) = others_kept fields
  others_kept ((id, other y) ∷ fields) = ap (λ more. (id, y) ∷ more) (others_kept fields)

  held_there : (id : ℤ) (fields : FieldValues (Either A ℤ)) → held_under id (kept value_kept fields) ≡ option_map f (held_under id fields)
  held_there id fields = ap (last_under id) (held_kept fields) ∙ last_map f id (held_in fields)

  number_there : (id : ℤ) (fields : FieldValues (Either A ℤ)) → number_under id (kept value_kept fields) ≡ number_under id fields
  number_there id fields = ap (last_under id) (others_kept fields)

-- ---- ColumnChunk

abbrev pub chunk_read : ChunkSaid → ChunkFields
chunk_read chunk = record { metadata = option_map (λ (m : MetaSaid). m.read) chunk.metadata }

pub chunk_found : (bytes : List ℕ) (chunk : ChunkSaid) → SpellsChunkSaid bytes chunk → SpellsChunk bytes (chunk_read chunk)
chunk_found bytes chunk s =
    let read = λ (m : MetaSaid). m.read in (
      kept (value_kept read) s.0,
      struct_kept (value_kept read) (SpellsHeldOr (pos 3) 12 SpellsMetaSaid SpellsNumberField) (SpellsHeldOr (pos 3) 12 SpellsMeta SpellsNumberField)
          (value_turned read (pos 3) 12 SpellsMetaSaid SpellsMeta meta_read) bytes s.0 s.1,
      ap chunk_read s.2 ∙ ap (λ (m : Option MetaFields). record { metadata = m }) (sym (held_there read (pos 3) s.0)),
    )

-- ---- RowGroup

abbrev pub group_read : GroupSaid → GroupFields
group_read group = record { columns = option_map (map chunk_read) group.columns; rows = group.rows }

pub group_found : (bytes : List ℕ) (group : GroupSaid) → SpellsGroupSaid bytes group → SpellsGroup bytes (group_read group)
group_found bytes group s = (
  kept (value_kept (map chunk_read)) s.0,
  struct_kept (value_kept (map chunk_read)) (SpellsHeldOr (pos 1) 9 (SpellsListOf 12 SpellsChunkSaid) SpellsNumberField) (SpellsHeldOr (pos 1) 9 (SpellsListOf 12 SpellsChunk) SpellsNumberField)
      (value_turned (map chunk_read) (pos 1) 9 (SpellsListOf 12 SpellsChunkSaid) (SpellsListOf 12 SpellsChunk) (list_as chunk_read 12 SpellsChunkSaid SpellsChunk chunk_found)) bytes s.0 s.1,
  ap group_read s.2
      ∙ ap (λ (cs : Option (List ChunkFields)). record { columns = cs; rows = number_under (pos 3) s.0 }) (sym (held_there (map chunk_read) (pos 1) s.0))
      ∙ ap (λ (n : Option ℤ). record { columns = held_under (pos 1) (kept (value_kept (map chunk_read)) s.0); rows = n }) (sym (number_there (map chunk_read) (pos 3) s.0)),
)

-- ---- SchemaElement

abbrev pub element_read : ElementSaid → ElementFields
element_read element = element.read

pub element_found : (bytes : List ℕ) (element : ElementSaid) → SpellsElementSaid bytes element → SpellsElement bytes (element_read element)
element_found bytes element s = (s.0, s.1, ap (λ (e : ElementSaid). e.read) s.2)

-- ---- FileMetaData

abbrev Elements : Type 0
Elements = List ElementSaid

abbrev Inner : Type 0
Inner = Either (List GroupSaid) ℤ

abbrev InnerRead : Type 0
InnerRead = Either (List GroupFields) ℤ

abbrev file_kept : FilePart → Option (Either (List ElementFields) InnerRead)
file_kept (held es) = Some (held (map element_read es))
file_kept (other (held gs)) = Some (other (held (map group_read gs)))
file_kept (other (other z)) = Some (other (other z))

file_turned : (id : ℤ) (kind : ℕ) (bytes : List ℕ) (value : Option FilePart)
    → SpellsHeldOr (pos 2) 9 (SpellsListOf 12 SpellsElementSaid) (SpellsHeldOr (pos 4) 9 (SpellsListOf 12 SpellsGroupSaid) SpellsNumberField) id kind bytes value
    → SpellsHeldOr (pos 2) 9 (SpellsListOf 12 SpellsElement) (SpellsHeldOr (pos 4) 9 (SpellsListOf 12 SpellsGroup) SpellsNumberField) id kind bytes (option_and_then file_kept value)
file_turned id kind bytes None s = s
file_turned id kind bytes (Some (held es)) s = (s.0, list_as element_read 12 SpellsElementSaid SpellsElement element_found bytes es s.1)
file_turned id kind bytes (Some (other (held gs))) s = (s.0, (s.1.0, list_as group_read 12 SpellsGroupSaid SpellsGroup group_found bytes gs s.1.1))
file_turned id kind bytes (Some (other (other z))) s = s

elements_kept : (fields : FieldValues FilePart) → held_in (kept file_kept fields) ≡ map (λ (x : ℤ × Elements). (x.0, map element_read x.1)) (held_in fields)
elements_kept [] = refl
elements_kept ((id, held es) ∷ fields) = ap (λ more. (id, map element_read es) ∷ more) (elements_kept fields)
elements_kept ((id, other (held gs)) ∷ fields) = elements_kept fields
elements_kept ((id, other (other z)) ∷ fields) = elements_kept fields

inner_kept : (fields : FieldValues FilePart) → others_in (kept file_kept fields) ≡ kept (value_kept (map group_read)) (others_in fields)
inner_kept [] = refl
inner_kept ((id, held es) ∷ fields) = inner_kept fields
inner_kept ((id, other (held gs)) ∷ fields) = ap (λ more. (id, held (map group_read gs)) ∷ more) (inner_kept fields)
inner_kept ((id, other (other z)) ∷ fields) = ap (λ more. (id, other z) ∷ more) (inner_kept fields)

abbrev pub file_read : FileSaid → FileFields
file_read file = record { schema = option_map (map element_read) file.schema; rows = file.rows; groups = option_map (map group_read) file.groups }

three_same : (a b : Option (List ElementFields)) (c d : Option ℤ) (e f : Option (List GroupFields)) → a ≡ b → c ≡ d → e ≡ f
    → ◌≡◌ {A = FileFields} (record { schema = a; rows = c; groups = e }) (record { schema = b; rows = d; groups = f })
three_same a b c d e f g h k = rw (g, h, k) refl

pub file_found : (bytes : List ℕ) (file : FileSaid) → SpellsFileSaid bytes file → SpellsMetaData bytes (file_read file)
file_found bytes file s = (
  kept file_kept s.0,
  struct_kept file_kept (SpellsHeldOr (pos 2) 9 (SpellsListOf 12 SpellsElementSaid) (SpellsHeldOr (pos 4) 9 (SpellsListOf 12 SpellsGroupSaid) SpellsNumberField))
      (SpellsHeldOr (pos 2) 9 (SpellsListOf 12 SpellsElement) (SpellsHeldOr (pos 4) 9 (SpellsListOf 12 SpellsGroup) SpellsNumberField)) file_turned bytes s.0 s.1,
  ap file_read s.2
      ∙ three_same _ _ _ _ _ _ (sym (ap (last_under (pos 2)) (elements_kept s.0) ∙ last_map (map element_read) (pos 2) (held_in s.0)))
      (sym (ap (number_under (pos 3)) (inner_kept s.0) ∙ number_there (map group_read) (pos 3) (others_in s.0)))
      (sym (ap (held_under (pos 4)) (inner_kept s.0) ∙ held_there (map group_read) (pos 4) (others_in s.0))),
)
