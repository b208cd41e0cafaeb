-- The fields of an object may be put in any order.
use Rattle.std.proofs.Common.{◌≡◌, ℕ, Bool, true, false, not, cond, List, [], ◌∷◌, Option, Some, None, bytes_eq, nat_cmp, Ordering, Less, Equal, Greater, refl, sym, ap, ◌∙◌}
use Rattle.std.specs.Ordering.{ordering_reverse}
use Rattle.std.specs.Cmp.Lexicographic.{slice_cmp}
use Rattle.std.specs.List.{list_any}
use Rattle.std.proofs.lemmas.Cmp.{nat_list_cmp_total}
use Rattle.std.proofs.lemmas.Bool.{or_parts}
use Rattle.std.proofs.lemmas.Slice.Eq.{bytes_eq-Decides}
use Rattle.serde_json.specs.Data.{Data, Members, no_members, member, put}
use Rattle.dk_model.specs.Shown.{Field, with_field, with_fields}
use Rattle.dk_model.proofs.TextMaps.{text_order}
use Rattle.dk_rowmap.specs.ActionRows.{Table, value_at}

-- ---- two members of different keys

abbrev order : List ℕ → List ℕ → Ordering
order = slice_cmp nat_cmp

turned_round : (k l : List ℕ) → order k l ≡ Less → order l k ≡ Greater
turned_round k l h = nat_list_cmp_total.antisymm l k ∙ ap ordering_reverse h

-- where the greater key goes behind the first member, by how the lesser one stands to it
puts_behind : (k l : List ℕ) (d e : Data) (m : List ℕ) (x : Data) (ms : Members) (o : Ordering) → order k l ≡ Less → order l m ≡ Greater → order k m ≡ o → put k d (put l e ms) ≡ put l e (put k d ms)
    → put k d (put l e (member m x ms)) ≡ put l e (put k d (member m x ms))
puts_behind k l d e m x ms Less below behind is later = rw (behind, is, turned_round k l below, behind)
puts_behind k l d e m x ms Equal below behind is later = rw (behind, is, behind)
puts_behind k l d e m x ms Greater below behind is later = rw (behind, is, behind) (ap (member m x) later)

-- by how the greater key stands to the first member
puts_at : (k l : List ℕ) (d e : Data) (m : List ℕ) (x : Data) (ms : Members) (o : Ordering) → order k l ≡ Less → order l m ≡ o → put k d (put l e ms) ≡ put l e (put k d ms)
    → put k d (put l e (member m x ms)) ≡ put l e (put k d (member m x ms))
puts_at k l d e m x ms Less below is later =
    let first : order k m ≡ Less = nat_list_cmp_total.trans k l m below is in
    rw (is, first, below, turned_round k l below, is)
puts_at k l d e m x ms Equal below is later =
    let first : order k m ≡ Less = ap (order k) (sym (text_order l m is)) ∙ below in
    rw (is, first, turned_round k l below, is)
puts_at k l d e m x ms Greater below is later = puts_behind k l d e m x ms (order k m) below is refl later

puts : (k l : List ℕ) (d e : Data) (ms : Members) → order k l ≡ Less → put k d (put l e ms) ≡ put l e (put k d ms)
puts k l d e no_members below = rw (below, turned_round k l below)
puts k l d e (member m x ms) below = puts_at k l d e m x ms (order l m) below refl (puts k l d e ms below)

-- ---- fields of different keys

apart : (k l : List ℕ) → bytes_eq k l ≡ false → (o : Ordering) → order k l ≡ o → (d e : Data) (ms : Members) → put k d (put l e ms) ≡ put l e (put k d ms)
apart k l other Less is d e ms = puts k l d e ms is
apart k l other Equal is d e ms = absurd (differs ((bytes_eq-Decides k l).1 (text_order k l is)) other)
  where
    differs : {b : Bool} → b ≡ true → b ≡ false → ⊥
    differs t f = cc
apart k l other Greater is d e ms = sym (puts l k e d ms (nat_list_cmp_total.antisymm l k ∙ ap ordering_reverse is))

fields_apart : (k l : List ℕ) (v w : Option Data) (ms : Members) → bytes_eq k l ≡ false → with_field k v (with_field l w ms) ≡ with_field l w (with_field k v ms)
fields_apart k l None w ms other = refl
fields_apart k l (Some d) None ms other = refl
fields_apart k l (Some d) (Some e) ms other = apart k l other (order k l) refl d e ms

abbrev pub has_key : List ℕ → Table → Bool
has_key key table = list_any (λ f. bytes_eq key f.0) table

-- a field whose key isn't among those after it may be put after them
put_later : (f : Field) (table : Table) (ms : Members) → has_key f.0 table ≡ false → with_fields table (with_field f.0 f.1 ms) ≡ with_field f.0 f.1 (with_fields table ms)
put_later f [] ms none = refl
put_later f (g ∷ table) ms none =
    let parts = or_parts (bytes_eq f.0 g.0) (has_key f.0 table) none in
    ap (with_fields table) (sym (fields_apart f.0 g.0 f.1 g.1 ms parts.0)) ∙ put_later f table (with_field g.0 g.1 ms) parts.1

-- ---- one field is taken out

abbrev pub without : List ℕ → Table → Table
without key [] = []
without key (f ∷ table) = cond (bytes_eq key f.0) table (f ∷ without key table)

abbrev pub is_once : List ℕ → Table → Bool
is_once key [] = false
is_once key (f ∷ table) = cond (bytes_eq key f.0) (not (has_key key table)) (is_once key table)

negated : (b : Bool) → not b ≡ true → b ≡ false
negated true e = cc
negated false e = refl

taken : (b : Bool) (key : List ℕ) (f : Field) (table : Table) (ms : Members) → bytes_eq key f.0 ≡ b → cond b (not (has_key key table)) (is_once key table) ≡ true
    → (is_once key table ≡ true → with_fields table (with_field f.0 f.1 ms) ≡ with_field key (value_at key table) (with_fields (without key table) (with_field f.0 f.1 ms)))
    → with_fields table (with_field f.0 f.1 ms) ≡ with_field key (cond b f.1 (value_at key table)) (with_fields (cond b table (f ∷ without key table)) ms)
taken true key f table ms same once later =
    let is : key ≡ f.0 = (bytes_eq-Decides key f.0).0 same in
    put_later f table ms (ap (λ k. has_key k table) (sym is) ∙ negated _ once) ∙ ap (λ k. with_field k f.1 (with_fields table ms)) (sym is)
taken false key f table ms same once later = later once

pub taken_out : (key : List ℕ) (table : Table) (ms : Members) → is_once key table ≡ true → with_fields table ms ≡ with_field key (value_at key table) (with_fields (without key table) ms)
taken_out key [] ms once = cc
taken_out key (f ∷ table) ms once = taken (bytes_eq key f.0) key f table ms refl once (taken_out key table (with_field f.0 f.1 ms))

-- ---- all fields, in another order

abbrev pub laid : Table → Members
laid [] = no_members
laid (f ∷ fs) = with_field f.0 f.1 (laid fs)

-- the list has the fields of the table, each once
abbrev pub IsOrderOf : Table → Table → Type 0
IsOrderOf [] table = table ≡ []
IsOrderOf (f ∷ fs) table = (is_once f.0 table ≡ true) × ((value_at f.0 table ≡ f.1) × IsOrderOf fs (without f.0 table))

pub in_any_order : (fs table : Table) → IsOrderOf fs table → with_fields table no_members ≡ laid fs
in_any_order [] table h = ap (λ t. with_fields t no_members) h
in_any_order (f ∷ fs) table h =
    taken_out f.0 table no_members h.0 ∙ ap (λ v. with_field f.0 v (with_fields (without f.0 table) no_members)) h.1.0 ∙ ap (with_field f.0 f.1) (in_any_order fs (without f.0 table) h.1.1)
