-- Steps of the readers of rows, over plain data.
use Rattle.std.proofs.Common.{◌≡◌, ℕ, ◌+◌, zero, suc, List, [], ◌∷◌, ◌++◌, Bool, true, false, ◌&&◌, cond, Option, Some, None, Result, Ok, Err, ◌==◌, ◌<◌, length, get_or, drop, min, Vec, Global, subst, arith, option_map, option_and_then, refl, sym, ap, ◌∙◌, nat_cmp, append_assoc}
use Rattle.std.specs.Prelude.{if◌then◌else◌}
use Rattle.std.specs.Option.{option_to_list, option_or}
use Rattle.std.specs.Str.{bytes_eq}
use Rattle.std.proofs.lemmas.Slice.Eq.{bytes_eq-Decides}
use Rattle.std.specs.Cmp.Lexicographic.{slice_cmp}
use Rattle.std.specs.FinMap as fin
use Rattle.std.specs.FinMap.{entries, insert, entries-insert}
use Rattle.dk_actjson.proofs.Slots.{Slots}
use Rattle.std.proofs.lemmas.List.{drop_more}
use Rattle.dk_pqmodel.proofs.NodeViews.{field_of-is, fields_of-drop}
use Rattle.std.proofs.lemmas.Cmp.{nat_list_cmp_total}
use Rattle.serde_json.specs.Data.{Data, Items, Members, no_members, member, object, put}
use Rattle.serde_json.specs.Find.{get_member}
use Rattle.serde_json.proofs.Views.{get_member-put, get_member-put_other}
use Rattle.dk_pqmodel.specs.Shape.{Shape, leaf, map_of, Field, Fields, no_fields, one_field, field_name, shape_in, fields_at, element_at}
use Rattle.dk_pqmodel.specs.Shape as shape
use Rattle.dk_pqmodel.specs.Datum.{Value, Datum, null, atom, group, list, chars, flag, int, Cells, no_cells, one_cell}
use Rattle.dk_pqmodel.specs.Object.{list_or_map, value_at, json_in, members_of, items_of, entries_of, put_present, entry_key}
use Rattle.dk_model.specs.Fields.{present, field, text, text_or_null, texts_of, pairs_of}
use Rattle.dk_model.specs.declared.action.Action.{Action}
use Rattle.dk_model.specs.CommitText.{after_line, with_front, commit_in}
use Rattle.dk_lawful.specs.CheckpointRows.{row_means, actions_of_rows, with_action, is_vector_name, each_by}
use Rattle.dk_actjson.specs.Slots.{Slot, all_slots}
use Rattle.dk_actjson.proofs.Slots.{slots, slots_put, pairs_of-slots}
use Rattle.dk_pqmodel.specs.RowView.{datum_of, cells_of}
use Rattle.dk_pqmodel.specs.NodeView.{field_of, fields_of, shape_of}
use Rattle.dk_pqmodel.specs.declared.node.Node.{Node}
use Rattle.dk_pqmodel.specs.declared.row.Cell.{Cell}
use Rattle.dk_rowmap.specs.declared.fault.RowFault.{RowFault}
use Rattle.dk_rowmap.specs.declared.fault.RowFault.TheVariants as row
use Rattle.dk_rowmap.specs.RowFaults.{GivesRows, GivesMeaning}
use Rattle.dk_rowmap.specs.RowsReading.{rows_reading}
use Rattle.dk_rowmap.specs.Parts.{turned, group_data, named_part, text_in, slot_in, entry_in, entry_value, after_entries, after_group_field, slots_in}
use Rattle.dk_rowmap.specs.declared.part.Depth.{Depth}
use Rattle.dk_rowmap.specs.declared.part.Depth.TheVariants as depth

-- ---- groups

pub inner_same : (fs : Fields) (cs : Cells) → each_by (turned depth.Inner) fs cs ≡ cs
inner_same no_fields cs = refl
inner_same (one_field f fs) no_cells = refl
inner_same (one_field f fs) (one_cell c cs) = ap (one_cell c) (inner_same fs cs)

by_name : (q k : List ℕ) (d : Data) (ms : Members) (b : Bool) → bytes_eq k q ≡ b → present (Some d) ≡ Some d → present (get_member q (put k d ms)) ≡ option_or (cond b (Some d) None) (present (get_member q ms))
by_name q k d ms true e is =
    let same : k ≡ q = (bytes_eq-Decides k q).0 e in
    ap (λ x. present (get_member x (put k d ms))) (sym same) ∙ ap present (get_member-put k d ms) ∙ is
by_name q k d ms false e is = ap present (get_member-put_other q k d ms (λ same. differs ((bytes_eq-Decides k q).1 (sym same)) e))
  where
    differs : {b : Bool} → b ≡ true → b ≡ false → ⊥
    differs t f = cc

list_is : (s : Shape) (ds : Items) (ms : Members) → present (Some (list_or_map s ds ms)) ≡ Some (list_or_map s ds ms)
list_is (leaf l) ds ms = refl
list_is (shape.group fs) ds ms = refl
list_is (shape.list f) ds ms = refl
list_is (map_of f) ds ms = refl

none_cond : (b : Bool) → ◌≡◌ {A = Option Data} (cond b None None) None
none_cond true = refl
none_cond false = refl

value_is : (v : Value) (f : Field) → present (Some (json_in (atom v) f)) ≡ Some (json_in (atom v) f)
value_is (flag b) f = refl
value_is (int n) f = refl
value_is (chars t) f = refl

-- a field is that of the first cell, or of one after it
by_cell : (q : List ℕ) (f : Field) (c : Datum) (ms : Members) → present (get_member q (put_present (field_name f) c (json_in c f) ms)) ≡ option_or (named_part q f c) (present (get_member q ms))
by_cell q f null ms = ap (λ o. option_or o (present (get_member q ms))) (sym (none_cond (bytes_eq (field_name f) q)))
by_cell q f (atom v) ms = by_name q (field_name f) (json_in (atom v) f) ms (bytes_eq (field_name f) q) refl (value_is v f) ∙ ap (λ o. option_or (cond (bytes_eq (field_name f) q) o None) (present (get_member q ms))) (sym (value_is v f))
by_cell q f (group cs) ms = by_name q (field_name f) (json_in (group cs) f) ms (bytes_eq (field_name f) q) refl refl
by_cell q f (list cs) ms =
    by_name q (field_name f) (json_in (list cs) f) ms (bytes_eq (field_name f) q) refl (list_is (shape_in f) _ _)
    ∙ ap (λ o. option_or (cond (bytes_eq (field_name f) q) o None) (present (get_member q ms))) (sym (list_is (shape_in f) _ _))

pub one_step : (q : List ℕ) (d : Depth) (f : Field) (fs : Fields) (c : Datum) (cs : Cells)
    → field q (group_data d (one_field f fs) (one_cell c cs)) ≡ option_or (named_part q f (turned d f c)) (field q (group_data d fs cs))
one_step q d f fs c cs = by_cell q f (turned d f c) (members_of (each_by (turned d) fs cs) fs)

-- ---- texts

pub text_in_is : (c : Datum) (f : Field) → text (json_in c f) ≡ text_in c
text_in_is null f = refl
text_in_is (atom (flag b)) f = refl
text_in_is (atom (int n)) f = refl
text_in_is (atom (chars t)) f = refl
text_in_is (group cs) f = refl
text_in_is (list cs) f = by_shape (shape_in f) _ _
  where
    by_shape : (s : Shape) (ds : Items) (ms : Members) → text (list_or_map s ds ms) ≡ None
    by_shape (leaf l) ds ms = refl
    by_shape (shape.group fs) ds ms = refl
    by_shape (shape.list f) ds ms = refl
    by_shape (map_of f) ds ms = refl

pub slot_in_is : (c : Datum) (f : Field) → text_or_null (json_in c f) ≡ slot_in c
slot_in_is null f = refl
slot_in_is (atom (flag b)) f = refl
slot_in_is (atom (int n)) f = refl
slot_in_is (atom (chars t)) f = refl
slot_in_is (group cs) f = refl
slot_in_is (list cs) f = by_shape (shape_in f) _ _
  where
    by_shape : (s : Shape) (ds : Items) (ms : Members) → text_or_null (list_or_map s ds ms) ≡ None
    by_shape (leaf l) ds ms = refl
    by_shape (shape.group fs) ds ms = refl
    by_shape (shape.list f) ds ms = refl
    by_shape (map_of f) ds ms = refl

-- the answer, with a front
abbrev pub before : List (List ℕ) → Option (List (List ℕ)) → Option (List (List ℕ))
before front rest = option_map (λ xs. front ++ xs) rest

before-push : (front : List (List ℕ)) (x : List ℕ) (rest : Option (List (List ℕ))) → before front (option_map (λ xs. x ∷ xs) rest) ≡ before (front ++ x ∷ []) rest
before-push front x None = refl
before-push front x (Some xs) = ap Some (sym (append_assoc front (x ∷ []) xs))

pub names_turn : (front : List (List ℕ)) (c : Datum) (cs : Cells) (f : Field) (t : List ℕ) → text_in c ≡ Some t
    → before front (texts_of (items_of (one_cell c cs) f)) ≡ before (front ++ t ∷ []) (texts_of (items_of cs f))
names_turn front c cs f t h =
    ap (λ o. before front (option_and_then (λ t. option_map (λ ts. t ∷ ts) (texts_of (items_of cs f))) o)) (text_in_is c f ∙ h)
    ∙ before-push front t (texts_of (items_of cs f))

-- ---- pairs

pub map_slots : (cs : Cells) (f : Field) (ms : Members) → slots (entries_of cs f ms) ≡ after_entries cs (slots ms)
map_slots no_cells f ms = refl
map_slots (one_cell null cs) f ms = map_slots cs f ms
map_slots (one_cell (atom v) cs) f ms = map_slots cs f ms
map_slots (one_cell (list ds) cs) f ms = map_slots cs f ms
map_slots (one_cell (group no_cells) cs) f ms = map_slots cs f ms
map_slots (one_cell (group (one_cell k no_cells)) cs) f ms = map_slots cs f ms
map_slots (one_cell (group (one_cell k (one_cell v no_cells))) cs) f ms =
    map_slots cs f (put (entry_key k) (json_in v f) ms)
    ∙ ap (after_entries cs) (slots_put (entry_key k) (json_in v f) ms ∙ ap (λ x. fin.put (slice_cmp nat_cmp) (entry_key k) x (slots ms)) (slot_in_is v f))
map_slots (one_cell (group (one_cell k (one_cell v (one_cell w ws)))) cs) f ms = map_slots cs f ms

pub map_pairs : (cs : Cells) (f : Field) → pairs_of (entries_of cs f no_members) ≡ all_slots (after_entries cs [])
map_pairs cs f = pairs_of-slots (entries_of cs f no_members) ∙ ap all_slots (map_slots cs f no_members)

pub group_slots : (d : Depth) (f : Field) (fs : Fields) (c : Datum) (cs : Cells)
    → slots (members_of (each_by (turned d) (one_field f fs) (one_cell c cs)) (one_field f fs))
    ≡ after_group_field (field_name f) (present (Some (json_in (turned d f c) f))) (slots (members_of (each_by (turned d) fs cs) fs))
group_slots d f fs c cs = by_turned (turned d f c)
  where
    rest : Members
    rest = members_of (each_by (turned d) fs cs) fs

    by_turned : (c : Datum) → slots (put_present (field_name f) c (json_in c f) rest) ≡ after_group_field (field_name f) (present (Some (json_in c f))) (slots rest)
    by_turned null = refl
    by_turned (atom v) = slots_put (field_name f) (json_in (atom v) f) rest ∙ ap (λ o. after_group_field (field_name f) o (slots rest)) (sym (value_is v f))
    by_turned (group ds) = slots_put (field_name f) (json_in (group ds) f) rest
    by_turned (list ds) = slots_put (field_name f) (json_in (list ds) f) rest ∙ ap (λ o. after_group_field (field_name f) o (slots rest)) (sym (list_is (shape_in f) _ _))

-- one more key
pub inserted : (m n : Slots) (k : List ℕ) (x : Option (Option (List ℕ))) → n ≡ insert m k x → entries n ≡ fin.put (slice_cmp nat_cmp) k x (entries m)
inserted m n k x e = ap entries e ∙ entries-insert nat_list_cmp_total m k x

-- ---- the entry of a map

pub pair_in : (ps : List Cell) (d : Cell) → length ps ≡ 2 → entry_in (group (cells_of ps)) ≡ Some (datum_of (get_or ps 0 d), datum_of (get_or ps 1 d))
pair_in [] d h = absurd (omega arith)
pair_in (p ∷ []) d h = absurd (omega arith)
pair_in (p ∷ q ∷ []) d h = refl
pair_in (p ∷ q ∷ r ∷ ps) d h = absurd (omega arith)

pub no_pair : (ps : List Cell) → (length ps == 2) ≡ false → None ≡ entry_in (group (cells_of ps))
no_pair [] h = refl
no_pair (p ∷ []) h = refl
no_pair (p ∷ q ∷ []) h = cc
no_pair (p ∷ q ∷ r ∷ ps) h = refl

-- ---- rows

by_row : (m : Option (Option Action)) (n : ℕ) (rest : Result (List Action) ℕ) → commit_in (after_line m n rest) ≡ option_and_then (λ a. option_map (with_action a) (commit_in rest)) m
by_row None n rest = refl
by_row (Some a) n (Ok xs) = refl
by_row (Some a) n (Err k) = refl

means_by : (n : ℕ) (rows : Cells) → commit_in (rows_reading n rows) ≡ actions_of_rows rows
means_by n no_cells = refl
means_by n (one_cell row rows) =
    by_row (row_means row) n (rows_reading (n + 1) rows)
    ∙ ap (λ o. option_and_then (λ a. option_map (with_action a) o) (row_means row)) (means_by (n + 1) rows)

by_result : (result : Result (Vec Action Global) RowFault) (r : Result (List Action) ℕ) → GivesRows result r → GivesMeaning result (commit_in r)
by_result (Ok v) r h = ap commit_in h
by_result (Err (row.NotAnAction n)) r h = ap commit_in h
by_result (Err row.OutOfMemory) r h = tt

pub meaning_of : (result : Result (Vec Action Global) RowFault) (rows : Cells) → GivesRows result (rows_reading 0 rows) → GivesMeaning result (actions_of_rows rows)
meaning_of result rows h = subst (GivesMeaning result) (means_by 0 rows) (by_result result _ h)

-- ---- the ends of walks

no_fields_left : (t : Field → Datum → Datum) (cs : Cells) → members_of (each_by t no_fields cs) no_fields ≡ no_members
no_fields_left t no_cells = refl
no_fields_left t (one_cell c cs) = refl

no_cells_left : (t : Field → Datum → Datum) (fs : Fields) → members_of (each_by t fs no_cells) fs ≡ no_members
no_cells_left t no_fields = refl
no_cells_left t (one_field f fs) = refl

-- beyond the shorter of the two there is no member
pub none_left : (t : Field → Datum → Datum) (ns : List Node) (cs : List Cell) (n : ℕ) → n ≡ min (length cs) (length ns)
    → members_of (each_by t (fields_of (drop n ns)) (cells_of (drop n cs))) (fields_of (drop n ns)) ≡ no_members
none_left t [] cs zero h = no_fields_left t (cells_of cs)
none_left t [] cs (suc n) h = no_fields_left t (cells_of (drop (suc n) cs))
none_left t (m ∷ ns) [] zero h = no_cells_left t (fields_of (m ∷ ns))
none_left t (m ∷ ns) [] (suc n) h = no_cells_left t (fields_of (drop (suc n) (m ∷ ns)))
none_left t (m ∷ ns) (c ∷ cs) zero h = absurd (omega (arith, h))
none_left t (m ∷ ns) (c ∷ cs) (suc n) h = none_left t ns cs n (omega (arith, h))

pub none_found : (q : List ℕ) (d : Depth) (ns : List Node) (cs : List Cell) (n : ℕ) → n ≡ min (length cs) (length ns) → field q (group_data d (fields_of (drop n ns)) (cells_of (drop n cs))) ≡ None
none_found q d ns cs n h = ap (λ ms. present (get_member q ms)) (none_left (turned d) ns cs n h)

pub slots_are : (ms : Members) → slots ms ≡ slots_in ms
slots_are no_members = refl
slots_are (member k d ms) = ap (λ es. (k, text_or_null d) ∷ es) (slots_are ms)

-- a field more, from the back
pub group_turn : (d : Depth) (n : Node) (ns : List Node) (c : Cell) (cs : List Cell) (before after : List Slot)
    → after ≡ after_group_field (field_name (field_of n)) (present (Some (json_in (turned d (field_of n) (datum_of c)) (field_of n)))) before
    → before ≡ slots_in (members_of (each_by (turned d) (fields_of ns) (cells_of cs)) (fields_of ns))
    → after ≡ slots_in (members_of (each_by (turned d) (fields_of (n ∷ ns)) (cells_of (c ∷ cs))) (fields_of (n ∷ ns)))
group_turn d n ns c cs before after more so_far =
    more ∙ ap (after_group_field (field_name (field_of n)) (present (Some (json_in (turned d (field_of n) (datum_of c)) (field_of n))))) so_far
    ∙ sym (sym (slots_are _) ∙ group_slots d (field_of n) (fields_of ns) (datum_of c) (cells_of cs) ∙ ap (after_group_field (field_name (field_of n)) (present (Some (json_in (turned d (field_of n) (datum_of c)) (field_of n))))) (slots_are _))

-- the rows from here on, after one row was read
joined_front : (front : List Action) (a : Option Action) (r : Result (List Action) ℕ) → with_front front (with_front (option_to_list a) r) ≡ with_front (front ++ option_to_list a) r
joined_front front a (Ok xs) = ap Ok (sym (append_assoc front (option_to_list a) xs))
joined_front front a (Err n) = refl

pub row_turn : (front : List Action) (n : ℕ) (row : Datum) (rows : Cells) (a : Option Action) → row_means row ≡ Some a
    → with_front front (rows_reading n (one_cell row rows)) ≡ with_front (front ++ option_to_list a) (rows_reading (n + 1) rows)
row_turn front n row rows a h = ap (λ m. with_front front (after_line m n (rows_reading (n + 1) rows))) h ∙ joined_front front a (rows_reading (n + 1) rows)

pub bad_row : (front : List Action) (n : ℕ) (row : Datum) (rows : Cells) → row_means row ≡ None → with_front front (rows_reading n (one_cell row rows)) ≡ Err n
bad_row front n row rows h = ap (λ m. with_front front (after_line m n (rows_reading (n + 1) rows))) h

pub object_pairs : (ms : Members) → pairs_of ms ≡ all_slots (slots_in ms)
object_pairs ms = pairs_of-slots ms ∙ ap all_slots (slots_are ms)

-- ---- a list under a field

by_bool : (b : Bool) (cs : Cells) → (if b && false then null else list cs) ≡ list cs
by_bool true cs = refl
by_bool false cs = refl

list_turned : (d : Depth) (f : Field) (cs : Cells) → turned d f (list cs) ≡ list cs
list_turned depth.Row f cs = refl
list_turned depth.Kind f cs = by_bool (is_vector_name (field_name f)) cs
list_turned depth.Inner f cs = refl

pub part_list : (d : Depth) (n : Node) (cs : Cells) (x : Data) → x ≡ list_or_map (shape_of n.kind) (items_of cs (element_at (shape_of n.kind))) (entries_of cs (value_at (shape_of n.kind)) no_members)
    → Some x ≡ present (Some (json_in (turned d (field_of n) (list cs)) (field_of n)))
part_list d n cs x e =
    let same : shape_in (field_of n) ≡ shape_of n.kind = ap shape_in (field_of-is n) in
    ap Some (e ∙ ap (λ s. list_or_map s (items_of cs (element_at s)) (entries_of cs (value_at s) no_members)) (sym same))
    ∙ sym (ap (λ c. present (Some (json_in c (field_of n)))) (list_turned d (field_of n) cs) ∙ list_is (shape_in (field_of n)) _ _)

-- ---- a turn of the walk along a group

cells_of-drop : (cs : List Cell) (i : ℕ) (c : Cell) → i < length cs → c ≡ get_or cs i c → cells_of (drop i cs) ≡ one_cell (datum_of c) (cells_of (drop (i + 1) cs))
cells_of-drop cs i c h is = ap cells_of (drop_more cs i c h ∙ ap (λ x. x ∷ drop (i + 1) cs) (sym is))

pub find_turn : (q : List ℕ) (d : Depth) (ns : List Node) (cs : List Cell) (i : ℕ) (n : Node) (c : Cell) → i < length ns → i < length cs → n ≡ get_or ns i n → c ≡ get_or cs i c
    → field q (group_data d (fields_of (drop i ns)) (cells_of (drop i cs)))
    ≡ option_or (named_part q (field_of n) (turned d (field_of n) (datum_of c))) (field q (group_data d (fields_of (drop (i + 1) ns)) (cells_of (drop (i + 1) cs))))
find_turn q d ns cs i n c node cell node_is cell_is =
    ap (λ fs. field q (group_data d fs (cells_of (drop i cs)))) (fields_of-drop ns i n node node_is)
    ∙ ap (λ ds. field q (group_data d (one_field (field_of n) (fields_of (drop (i + 1) ns))) ds)) (cells_of-drop cs i c cell cell_is)
    ∙ one_step q d (field_of n) (fields_of (drop (i + 1) ns)) (datum_of c) (cells_of (drop (i + 1) cs))

-- a field more, from the back, in lists
pub group_back : (d : Depth) (ns : List Node) (cs : List Cell) (p place : ℕ) (n : Node) (c : Cell) (before after : List Slot) → place ≡ p + 1
    → p < length ns → p < length cs → n ≡ get_or ns p n → c ≡ get_or cs p c
    → after ≡ after_group_field (field_name (field_of n)) (present (Some (json_in (turned d (field_of n) (datum_of c)) (field_of n)))) before
    → before ≡ slots_in (members_of (each_by (turned d) (fields_of (drop place ns)) (cells_of (drop place cs))) (fields_of (drop place ns)))
    → after ≡ slots_in (members_of (each_by (turned d) (fields_of (drop p ns)) (cells_of (drop p cs))) (fields_of (drop p ns)))
group_back d ns cs p place n c before after next node cell node_is cell_is more so_far =
    let nodes : drop p ns ≡ n ∷ drop (p + 1) ns = drop_more ns p n node ∙ ap (λ x. x ∷ drop (p + 1) ns) (sym node_is) in
    let cells : drop p cs ≡ c ∷ drop (p + 1) cs = drop_more cs p c cell ∙ ap (λ x. x ∷ drop (p + 1) cs) (sym cell_is) in
    group_turn d n (drop (p + 1) ns) c (drop (p + 1) cs) before after more
    (so_far ∙ ap (λ i. slots_in (members_of (each_by (turned d) (fields_of (drop i ns)) (cells_of (drop i cs))) (fields_of (drop i ns)))) next)
    ∙ ap (λ xs. slots_in (members_of (each_by (turned d) (fields_of xs) (cells_of (c ∷ drop (p + 1) cs))) (fields_of xs))) (sym nodes)
    ∙ ap (λ xs. slots_in (members_of (each_by (turned d) (fields_of (drop p ns)) (cells_of xs)) (fields_of (drop p ns)))) (sym cells)

-- ---- a key of a map

-- what the entries leave of what was found before them
abbrev pub entries_value : List ℕ → Field → Cells → Option Data → Option Data
entries_value q f no_cells found = found
entries_value q f (one_cell c cs) found = entries_value q f cs (entry_value q f (entry_in c) found)

value_in : (q k : List ℕ) (d : Data) (ms : Members) (b : Bool) → bytes_eq k q ≡ b → present (get_member q (put k d ms)) ≡ cond b (present (Some d)) (present (get_member q ms))
value_in q k d ms true e =
    let same : k ≡ q = (bytes_eq-Decides k q).0 e in
    ap (λ x. present (get_member x (put k d ms))) (sym same) ∙ ap present (get_member-put k d ms)
value_in q k d ms false e = ap present (get_member-put_other q k d ms (λ same. differs ((bytes_eq-Decides k q).1 (sym same)) e))
  where
    differs : {b : Bool} → b ≡ true → b ≡ false → ⊥
    differs t f = cc

by_entries : (q : List ℕ) (f : Field) (cs : Cells) (ms : Members) → present (get_member q (entries_of cs f ms)) ≡ entries_value q f cs (present (get_member q ms))
by_entries q f no_cells ms = refl
by_entries q f (one_cell null cs) ms = by_entries q f cs ms
by_entries q f (one_cell (atom v) cs) ms = by_entries q f cs ms
by_entries q f (one_cell (list ds) cs) ms = by_entries q f cs ms
by_entries q f (one_cell (group no_cells) cs) ms = by_entries q f cs ms
by_entries q f (one_cell (group (one_cell k no_cells)) cs) ms = by_entries q f cs ms
by_entries q f (one_cell (group (one_cell k (one_cell v no_cells))) cs) ms =
    by_entries q f cs (put (entry_key k) (json_in v f) ms)
    ∙ ap (entries_value q f cs) (value_in q (entry_key k) (json_in v f) ms (bytes_eq (entry_key k) q) refl)
by_entries q f (one_cell (group (one_cell k (one_cell v (one_cell w ws)))) cs) ms = by_entries q f cs ms

pub map_field : (q : List ℕ) (f : Field) (cs : Cells) → field q (object (entries_of cs f no_members)) ≡ entries_value q f cs None
map_field q f cs = by_entries q f cs no_members

pub entries_turn : (q : List ℕ) (f : Field) (cs : List Cell) (i : ℕ) (c : Cell) (found : Option Data) → i < length cs → c ≡ get_or cs i c
    → entries_value q f (cells_of (drop i cs)) found ≡ entries_value q f (cells_of (drop (i + 1) cs)) (entry_value q f (entry_in (datum_of c)) found)
entries_turn q f cs i c found cell is = ap (λ ds. entries_value q f ds found) (cells_of-drop cs i c cell is)
