-- The footer is read exactly where one is spelled.
use Rattle.std.proofs.Common.{◌≡◌, ℕ, ◌==◌, Bool, true, false, cond, pos, Some, None, option_and_then, List, [], ◌∷◌, ◌++◌, length, Ok, Err, refl, sym, ap, subst, ◌∙◌, inl, inr, arith}
use Rattle.std.proofs.lemmas.Bool.{eqb-true}
use Rattle.std.proofs.lemmas.List.{append-nil}
use Rattle.std.specs.Str.{is_utf8}
use Rattle.dk_grammar.specs.Thrift.{Front, binary_at, bad_at}
use Rattle.dk_grammar.specs.Grammar.{ReadsBy, Spelled}
use Rattle.dk_grammar.specs.Structs.{SpellsNumberField, number_meaning}
use Rattle.dk_grammar.specs.Lists.{SpellsListOf, SpellsHeldOr, list_of, held_or}
use Rattle.dk_grammar.proofs.Fronts.{choice, bound, ok_is, bad_is_not_ok}
use Rattle.dk_grammar.proofs.Spellings.{binaries}
use Rattle.dk_grammar.proofs.StructSpellings.{structs, number_fields}
use Rattle.dk_grammar.proofs.ListSpellings.{lists_by, turned_by, held_by}
use Rattle.dk_pqmodel.specs.FileSchema.{FileNodes}
use Rattle.dk_pqmodel.specs.Footer.{◌>=◌, Footer, RowGroup, FileFields, MeansFooter, meta_fields, chunk_fields, group_fields, element_fields, file_fields, each_of, schema_element, group_of, natural}
use Rattle.dk_pqmodel.specs.FooterBytes.{SpellsName, SpellsPath, SpellsMeta, SpellsChunk, SpellsGroup, SpellsElement, SpellsMetaData, SpellsFooter, HasFooter}
use Rattle.dk_pqmeta.specs.Readings.{text_at, path_at, meta_meaning, meta_at, chunk_meaning, column_chunk_at, group_meaning, group_at, element_meaning, schema_element_at, file_meaning, file_at}
use Rattle.dk_pqmeta.specs.Trees.{footer_from, tree_of}
use Rattle.dk_pqmeta.specs.Footers.{whole_of, file_in}
use Rattle.dk_pqmeta.proofs.Framing.{framed_once}
use Rattle.dk_pqmeta.proofs.Trees.{none_is_not_some, some_is, some_bound, tree_found, tree_only}

name_spelled : (bytes rest name : List ℕ) → text_at bytes ≡ Ok (name, rest) → Spelled SpellsName bytes name rest
name_spelled bytes rest name h =
    let x = bound (binary_at bytes) (λ x. cond (is_utf8 x.0) (Ok (x.0, x.1)) (bad_at bytes)) (name, rest) h in
    elim (choice (is_utf8 x.0.0) _ _ _ x.2) [
      | inl c ↦ (
          let t = binaries.spelled bytes x.0.1 x.0.0 x.1 in
          subst (λ (y : List ℕ × List ℕ). Spelled SpellsName bytes y.0 y.1) (ok_is (x.0.0, x.0.1) (name, rest) c.1) (t.0, t.1, (t.2, c.0)))
      | inr c ↦ absurd (bad_is_not_ok bytes (name, rest) c.1)
    ]

name_given : (front rest name : List ℕ) → SpellsName front name → text_at (front ++ rest) ≡ Ok (name, rest)
name_given front rest name s = rw (binaries.given front rest name s.0, s.1) refl

names : ReadsBy SpellsName text_at
names = record { spelled = name_spelled; given = name_given }

paths : ReadsBy SpellsPath path_at
paths = lists_by SpellsName text_at names 8

metas : ReadsBy SpellsMeta meta_at
metas = turned_by meta_fields _ _ (structs _ meta_meaning (held_by (pos 3) 9 SpellsPath path_at paths SpellsNumberField number_meaning number_fields))

chunks : ReadsBy SpellsChunk column_chunk_at
chunks = turned_by chunk_fields _ _ (structs _ chunk_meaning (held_by (pos 3) 12 SpellsMeta meta_at metas SpellsNumberField number_meaning number_fields))

groups : ReadsBy SpellsGroup group_at
groups = turned_by group_fields _ _ (structs _ group_meaning (held_by (pos 1) 9 (SpellsListOf 12 SpellsChunk) (list_of 12 column_chunk_at) (lists_by SpellsChunk column_chunk_at chunks 12) SpellsNumberField number_meaning number_fields))

elements : ReadsBy SpellsElement schema_element_at
elements = turned_by element_fields _ _ (structs _ element_meaning (held_by (pos 4) 8 SpellsName text_at names SpellsNumberField number_meaning number_fields))

pub files : ReadsBy SpellsMetaData file_at
files = turned_by file_fields _ _ (structs _ file_meaning (held_by (pos 2) 9 (SpellsListOf 12 SpellsElement) (list_of 12 schema_element_at) (lists_by SpellsElement schema_element_at elements 12)
    (SpellsHeldOr (pos 4) 9 (SpellsListOf 12 SpellsGroup) SpellsNumberField) (held_or (pos 4) 9 (list_of 12 group_at) number_meaning)
    (held_by (pos 4) 9 (SpellsListOf 12 SpellsGroup) (list_of 12 group_at) (lists_by SpellsGroup group_at groups 12) SpellsNumberField number_meaning number_fields)))

nothing_left : (bytes : List ℕ) → (length bytes == 0) ≡ true → bytes ≡ []
nothing_left [] h = refl
nothing_left (b ∷ bs) h = let none : length (b ∷ bs) ≡ 0 = eqb-true (length (b ∷ bs)) 0 h in absurd (omega arith)

when_is : {A : Type 0} (b : Bool) (x y : A) → cond b (Some x) None ≡ Some y → (b ≡ true) × (x ≡ y)
when_is true x y h = (refl, some_is x y h)
when_is false x y h = absurd (none_is_not_some y h)

whole_is : (front : Front FileFields) (file : FileFields) → whole_of front ≡ Some file → front ≡ Ok (file, [])
whole_is (Err flaw) file h = absurd (none_is_not_some file h)
whole_is (Ok x) file h =
    let c = when_is (length x.1 == 0) x.0 file h in
    ap (λ rest. Ok (x.0, rest)) (nothing_left x.1 c.0) ∙ ap (λ f. Ok (f, [])) c.1

file_found : (bytes : List ℕ) (file : FileFields) → file_in bytes ≡ Some file → SpellsMetaData bytes file
file_found bytes file h =
    let t = files.spelled bytes [] file (whole_is (file_at bytes) file h) in
    subst (λ b. SpellsMetaData b file) (sym (t.1 ∙ append-nil t.0)) t.2

file_only : (bytes : List ℕ) (file : FileFields) → SpellsMetaData bytes file → file_in bytes ≡ Some file
file_only bytes file s = ap (λ b. whole_of (file_at b)) (sym (append-nil bytes)) ∙ ap whole_of (files.given bytes [] file s)

abbrev footer_of : ℕ → FileNodes → List RowGroup → Footer
footer_of rows fields groups = record { rows = rows; fields = fields; groups = groups }

means_found : (file : FileFields) (footer : Footer) → footer_from file ≡ Some footer → MeansFooter file footer
means_found file footer h =
    let r = some_bound (file.rows >= natural) (λ rows. file.schema >= λ schema. file.groups >= λ groups. each_of schema_element schema >= tree_of >= λ fields. each_of group_of groups >= λ groups.
    Some (record { rows = rows; fields = fields; groups = groups })) footer h in
    let s = some_bound file.schema (λ schema. file.groups >= λ groups. each_of schema_element schema >= tree_of >= λ fields. each_of group_of groups >= λ groups.
    Some (record { rows = r.0; fields = fields; groups = groups })) footer r.1.1 in
    let g = some_bound file.groups (λ groups. each_of schema_element s.0 >= tree_of >= λ fields. each_of group_of groups >= λ groups. Some (record { rows = r.0; fields = fields; groups = groups })) footer s.1.1 in
    let f = some_bound (each_of schema_element s.0 >= tree_of) (λ fields. each_of group_of g.0 >= λ groups. Some (record { rows = r.0; fields = fields; groups = groups })) footer g.1.1 in
    let k = some_bound (each_of group_of g.0) (λ groups. Some (record { rows = r.0; fields = f.0; groups = groups })) footer f.1.1 in
    let e = some_bound (each_of schema_element s.0) tree_of f.0 f.1.0 in
    subst (MeansFooter file) (some_is (footer_of r.0 f.0 k.0) footer k.1.1) (record {
      elements = e.0;
      schema = ap (λ o. o >= each_of schema_element) s.1.0 ∙ e.1.0;
      tree = tree_found e.0 f.0 e.1.1;
      groups = ap (λ o. o >= each_of group_of) g.1.0 ∙ k.1.0;
      rows = r.1.0;
    })

means_only : (file : FileFields) (footer : Footer) → MeansFooter file footer → footer_from file ≡ Some footer
means_only file footer m =
    let s = some_bound file.schema (each_of schema_element) m.elements m.schema in
    let g = some_bound file.groups (each_of group_of) footer.groups m.groups in
    rw (m.rows, s.1.0, g.1.0, s.1.1, tree_only m.elements footer.fields m.tree, g.1.1) refl

pub footer_found : (bytes : List ℕ) (footer : Footer) → option_and_then footer_from (file_in bytes) ≡ Some footer → SpellsFooter bytes footer
footer_found bytes footer h =
    let x = some_bound (file_in bytes) footer_from footer h in
    (x.0, file_found bytes x.0 x.1.0, means_found x.0 footer x.1.1)

pub footer_only : (bytes : List ℕ) (footer : Footer) → SpellsFooter bytes footer → option_and_then footer_from (file_in bytes) ≡ Some footer
footer_only bytes footer s = rw (file_only bytes s.0 s.1, means_only s.0 footer s.2) refl

pub one_footer : (bytes : List ℕ) (footer other : Footer) → HasFooter bytes footer → HasFooter bytes other → footer ≡ other
one_footer bytes footer other f g =
    let same = framed_once bytes g.0 g.1 f.0 f.1 g.2 f.2 in
    some_is footer other (sym (footer_only f.1 footer f.3) ∙ footer_only f.1 other (subst (λ b. SpellsFooter b other) same g.3))
