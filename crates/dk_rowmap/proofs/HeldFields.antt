-- Cells hold the fields of an object, whatever form these have.
use Rattle.std.proofs.Common.{◌≡◌, ℕ, ℤ, pos, negsuc, ◌^◌, ◌<◌, List, [], ◌∷◌, map, Option, Some, None, option_map, refl, sym, ap, subst, ◌∙◌}
use Rattle.std.specs.Prelude.{IfSome, Bool}
use Rattle.std.specs.Ordering.{nat_cmp}
use Rattle.std.specs.Cmp.Lexicographic.{slice_cmp}
use Rattle.std.specs.List.Sorted.{IsStrictlySortedBy}
use Rattle.std.proofs.lemmas.Bool.{lt-ltb}
use Rattle.serde_json.specs.Data.{Data, Members, no_members, put, object, array, string, item}
use Rattle.serde_json.specs.View as view
use Rattle.dk_pqmodel.specs.Shape.{Shape, leaf, int32, int64, chars, flag, group, list, map_of, Field, field, Fields, no_fields, one_field, field_name, shape_in, entry}
use Rattle.dk_pqmodel.specs.Datum.{Datum, null, atom, int}
use Rattle.dk_pqmodel.specs.RowView.{cells_of_list}
use Rattle.dk_pqmodel.specs.Fits.{CellBy, EachBy, AllBy, fits_leaf}
use Rattle.dk_pqmodel.specs.Object.{json_in, put_present, items_of, entries_of, members_of}
use Rattle.dk_model.specs.Pairs.{AreKeysRising}
use Rattle.dk_model.specs.Shown.{text_data, whole_data, version_data, flag_data, names_data, pairs_data, with_pairs, with_field}
use Rattle.dk_model.proofs.FormsBack.{names_back, pairs_back}
use Rattle.dk_lawful.specs.CheckpointSchema.{nullable_field, list_of_texts, text_map}
use Rattle.dk_rowmap.specs.ActionRows.{held, text_cell, names_cell, entry_cell, pairs_cell, cell_in, Table, value_at, field_cell, each_cell}
use Rattle.dk_rowmap.specs.WrittenRows.{keys_in, HasOrderedMaps, HaveOrderedMaps}
use Rattle.dk_rowmap.proofs.FieldOrders.{laid}

-- the cell fits the field, shows the value in an object, and has the keys of a map in order
pub record Holds (f : Field) (c : Datum) (v : Option Data) : Type 0 where
  pub fits : CellBy fits_leaf c f
  pub shows : (ms : Members) → put_present (field_name f) c (json_in c f) ms ≡ with_field (field_name f) v ms
  pub in_order : HasOrderedMaps (shape_in f) c

abbrev pub IsHeld : Field → Option Data → Type 0
IsHeld f v = Holds f (held (cell_in (shape_in f)) v) v

-- ---- one form after another

pub whole_cell : (z : ℤ) → atom (int z) ≡ cell_in (leaf int64) (whole_data z)
whole_cell (pos n) = refl
whole_cell (negsuc n) = refl

null_in_order : (s : Shape) → HasOrderedMaps s null
null_in_order (leaf l) = tt
null_in_order (group fs) = tt
null_in_order (list f) = tt
null_in_order (map_of f) = tt

pub absent_held : (k : List ℕ) (s : Shape) → IsHeld (nullable_field k s) None
absent_held k s = record { fits = refl; shows = λ ms. refl; in_order = null_in_order s }

pub held_if : {A : Type 0} (k : List ℕ) (s : Shape) (shown : A → Data) (P : A → Type 0) (o : Option A) → IfSome o P → ((x : A) → P x → IsHeld (nullable_field k s) (Some (shown x))) → IsHeld (nullable_field k s) (option_map shown o)
held_if k s shown P None h each = absent_held k s
held_if k s shown P (Some x) h each = each x h

pub any_held : {A : Type 0} (k : List ℕ) (s : Shape) (shown : A → Data) (o : Option A) → ((x : A) → IsHeld (nullable_field k s) (Some (shown x))) → IsHeld (nullable_field k s) (option_map shown o)
any_held k s shown None each = absent_held k s
any_held k s shown (Some x) each = each x

pub text_held : (k : List ℕ) (t : List ℕ) → IsHeld (nullable_field k (leaf chars)) (Some (text_data t))
text_held k t = record { fits = refl; shows = λ ms. refl; in_order = tt }

pub flag_held : (k : List ℕ) (b : Bool) → IsHeld (nullable_field k (leaf flag)) (Some (flag_data b))
flag_held k b = record { fits = refl; shows = λ ms. refl; in_order = tt }

pub whole_held : (k : List ℕ) (z : ℤ) → IsHeld (nullable_field k (leaf int64)) (Some (whole_data z))
whole_held k (pos n) = record { fits = refl; shows = λ ms. refl; in_order = tt }
whole_held k (negsuc n) = record { fits = refl; shows = λ ms. refl; in_order = tt }

pub count_held : (k : List ℕ) (n : ℕ) → IsHeld (nullable_field k (leaf int64)) (Some (version_data n))
count_held k n = record { fits = refl; shows = λ ms. refl; in_order = tt }

pub version_held : (k : List ℕ) (n : ℕ) → n < 2 ^ 31 → IsHeld (nullable_field k (leaf int32)) (Some (version_data n))
version_held k n small = record { fits = lt-ltb n (2 ^ 31) small; shows = λ ms. refl; in_order = tt }

-- ---- lists of texts

texts_fit : (ns : List (List ℕ)) → AllBy fits_leaf (cells_of_list (map text_cell ns)) (nullable_field [] (leaf chars))
texts_fit [] = tt
texts_fit (n ∷ ns) = (refl, texts_fit ns)

texts_shown : (ns : List (List ℕ)) (f : Field) → items_of (cells_of_list (map text_cell ns)) f ≡ view.items_of (map string ns)
texts_shown [] f = refl
texts_shown (n ∷ ns) f = ap (item (string n)) (texts_shown ns f)

pub names_are_held : (ns : List (List ℕ)) → names_cell ns ≡ cell_in list_of_texts (names_data ns)
names_are_held ns = sym (ap (held names_cell) (names_back ns))

pub names_held : (k : List ℕ) (ns : List (List ℕ)) → IsHeld (nullable_field k list_of_texts) (Some (names_data ns))
names_held k ns = subst (λ c. Holds (nullable_field k list_of_texts) c (Some (names_data ns))) (names_are_held ns)
    (record { fits = texts_fit ns; shows = λ ms. ap (λ ds. put k (array ds) ms) (texts_shown ns (nullable_field [] (leaf chars))); in_order = tt })

-- ---- maps of texts

abbrev value : Field
value = nullable_field [] (leaf chars)

entries_fit : (ps : List (List ℕ × Option (List ℕ))) → AllBy fits_leaf (cells_of_list (map entry_cell ps)) (entry value)
entries_fit [] = tt
entries_fit ((k, None) ∷ ps) = ((refl, (refl, tt)), entries_fit ps)
entries_fit ((k, Some t) ∷ ps) = ((refl, (refl, tt)), entries_fit ps)

entries_shown : (ps : List (List ℕ × Option (List ℕ))) (ms : Members) → entries_of (cells_of_list (map entry_cell ps)) value ms ≡ with_pairs ps ms
entries_shown [] ms = refl
entries_shown ((k, None) ∷ ps) ms = entries_shown ps _
entries_shown ((k, Some t) ∷ ps) ms = entries_shown ps _

entry_keys : (ps : List (List ℕ × Option (List ℕ))) → keys_in (cells_of_list (map entry_cell ps)) ≡ map (λ p. p.0) ps
entry_keys [] = refl
entry_keys (p ∷ ps) = ap (λ ks. p.0 ∷ ks) (entry_keys ps)

pub pairs_are_held : (k : List ℕ) (ps : List (List ℕ × Option (List ℕ))) → AreKeysRising ps → Holds (nullable_field k text_map) (pairs_cell ps) (Some (pairs_data ps))
pairs_are_held k ps rising = record { fits = entries_fit ps; shows = λ ms. ap (λ es. put k (object es) ms) (entries_shown ps no_members); in_order = subst (IsStrictlySortedBy (slice_cmp nat_cmp)) (sym (entry_keys ps)) rising }

pub pairs_cell_is : (ps : List (List ℕ × Option (List ℕ))) → AreKeysRising ps → pairs_cell ps ≡ cell_in text_map (pairs_data ps)
pairs_cell_is ps rising = sym (ap (held pairs_cell) (pairs_back ps rising))

pub pairs_held : (k : List ℕ) (ps : List (List ℕ × Option (List ℕ))) → AreKeysRising ps → IsHeld (nullable_field k text_map) (Some (pairs_data ps))
pairs_held k ps rising = subst (λ c. Holds (nullable_field k text_map) c (Some (pairs_data ps))) (pairs_cell_is ps rising) (pairs_are_held k ps rising)

-- ---- all fields of a group

abbrev pub AllHeld : Table → Fields → Type 0
AllHeld table no_fields = Unit {0}
AllHeld table (one_field f fs) = IsHeld f (value_at (field_name f) table) × AllHeld table fs

-- the fields of the table in the order of the group
abbrev pub ordered : Fields → Table → Table
ordered no_fields table = []
ordered (one_field f fs) table = (field_name f, value_at (field_name f) table) ∷ ordered fs table

pub group_fits : (fs : Fields) (table : Table) → AllHeld table fs → EachBy fits_leaf (cells_of_list (each_cell (field_cell table) fs)) fs
group_fits no_fields table h = tt
group_fits (one_field f fs) table h = (h.0.fits, group_fits fs table h.1)

pub group_shown : (fs : Fields) (table : Table) → AllHeld table fs → members_of (cells_of_list (each_cell (field_cell table) fs)) fs ≡ laid (ordered fs table)
group_shown no_fields table h = refl
group_shown (one_field f fs) table h = h.0.shows _ ∙ ap (with_field (field_name f) (value_at (field_name f) table)) (group_shown fs table h.1)

pub group_in_order : (fs : Fields) (table : Table) → AllHeld table fs → HaveOrderedMaps fs (cells_of_list (each_cell (field_cell table) fs))
group_in_order no_fields table h = tt
group_in_order (one_field (field name nullable s) fs) table h = (h.0.in_order, group_in_order fs table h.1)
