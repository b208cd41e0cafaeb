-- What is written field by field is a struct of these fields.
use Rattle.std.proofs.Common.{◌≡◌, ◌<◌, ◌≤◌, ◌^◌, ◌+◌, ◌*◌, ℕ, zero, suc, true, map, drop, get_or, add-one, ℤ, pos, IsTrue, Option, List, [], ◌∷◌, ◌++◌, length, sum_by, refl, sym, ap, subst, ◌∙◌, append_assoc, arith}
use Rattle.std.proofs.lemmas.List.{append-nil, drop_all, length-append, length-map}
use Rattle.std.proofs.lemmas.List.Sums.{sum_by-cons}
use Rattle.dk_grammar.specs.Thrift.{is_id, is_kind, head}
use Rattle.dk_grammar.specs.Grammar.{SpellsList}
use Rattle.dk_grammar.specs.Spelling.{field_bytes, list_bytes}
use Rattle.dk_grammar.specs.Structs.{FieldValues, under, SpellsFields, SpellsStruct}
use Rattle.dk_grammar.specs.Lists.{SpellsEach, SpellsListOf}
use Rattle.dk_grammar.proofs.ListSpellings.{own_header}
use Rattle.dk_grammar.proofs.WrittenSpellings.{field_written, end_written, list_written}
use Rattle.dk_thrift.specs.Writing.{WrittenSoFar, IsOpen, with_bytes, with_struct, with_field_header, with_end}
use Rattle.dk_pqwrite.specs.Items.{Item, items_bytes, struct_bytes, with_items, WritesValue, PutsHeld}
use Rattle.dk_pqwrite.proofs.NumberSizes.{list_short}

-- ---- the writer

items_written : (items : List Item) (bytes : List ℕ) (last : ℤ) (outer : List ℤ)
    → with_end (with_items items (record { bytes = bytes; structs = last ∷ outer })) ≡ record { bytes = bytes ++ items_bytes last items; structs = outer }
items_written [] bytes last outer = refl
items_written (x ∷ xs) bytes last outer =
    items_written xs ((bytes ++ field_bytes last x.id x.kind) ++ x.bytes) x.id outer
    ∙ ap (λ all. record { bytes = all; structs = outer }) (append_assoc (bytes ++ field_bytes last x.id x.kind) x.bytes (items_bytes x.id xs) ∙ append_assoc bytes (field_bytes last x.id x.kind) (x.bytes ++ items_bytes x.id xs))

pub struct_written : (items : List Item) (w : WrittenSoFar) → with_end (with_items items (with_struct w)) ≡ with_bytes (struct_bytes items) w
struct_written items w = items_written items w.bytes (pos 0) w.structs

pub items_behind : (xs ys : List Item) (w : WrittenSoFar) → with_items (xs ++ ys) w ≡ with_items ys (with_items xs w)
items_behind [] ys w = refl
items_behind (x ∷ xs) ys w = items_behind xs ys (with_bytes x.bytes (with_field_header x.id x.kind w))

pub items_then : (xs ys : List Item) (u v w : WrittenSoFar) → v ≡ with_items xs u → w ≡ with_items ys v → w ≡ with_items (xs ++ ys) u
items_then xs ys u v w first second = second ∙ ap (with_items ys) first ∙ sym (items_behind xs ys u)

pub struct_ended : (items : List Item) (old inner last new : WrittenSoFar) → inner ≡ with_struct old → last ≡ with_items items inner → new ≡ with_end last → new ≡ with_bytes (struct_bytes items) old
struct_ended items old inner last new begun gone ended = ended ∙ ap with_end (gone ∙ ap (with_items items) begun) ∙ struct_written items old

pub bytes_behind : (a b : List ℕ) (old middle new : WrittenSoFar) → middle ≡ with_bytes a old → new ≡ with_bytes b middle → new ≡ with_bytes (a ++ b) old
bytes_behind a b old middle new first second =
    second ∙ ap (with_bytes b) first ∙ ap (λ all. record { bytes = all; structs = old.structs }) (append_assoc old.bytes a b)

pub none_added : (w : WrittenSoFar) → w ≡ with_bytes [] w
none_added w = ap (λ all. record { bytes = all; structs = w.structs }) (sym (append-nil w.bytes))

pub still_open : (more : List ℕ) (old new : WrittenSoFar) → new ≡ with_bytes more old → IsOpen old → IsOpen new
still_open more old new e h none = h (sym (ap (λ w. w.structs) e) ∙ none)

pub at_most : (bytes : List ℕ) (few most : ℕ) → length bytes ≤ few → few ≤ most → length bytes ≤ most
at_most bytes few most h room = omega (arith, h, room)

-- a field whose header is one byte
pub item_short : (last : ℤ) (x : Item) (xs : List Item) (own most : ℕ) → length (field_bytes last x.id x.kind) ≡ 1 → length x.bytes ≤ own → length (items_bytes x.id xs) ≤ most
    → length (items_bytes last (x ∷ xs)) ≤ 1 + own + most
item_short last x xs own most one few rest =
    omega (arith, one, few, rest, length-append (field_bytes last x.id x.kind) (x.bytes ++ items_bytes x.id xs), length-append x.bytes (items_bytes x.id xs))

-- ---- the grammar

module _ {V : Type 0} (spells : ℤ → ℕ → List ℕ → Option V → Type 0) where
  -- the values that count of the fields
  abbrev pub Says : List Item → FieldValues V → Type 0
  Says [] values = values ≡ []
  Says (x ∷ xs) values =
      (value : Option V) × ((more : FieldValues V) × ((values ≡ under x.id value more) × IsTrue (is_id x.id) × IsTrue (is_kind x.kind) × spells x.id x.kind x.bytes value × Says xs more))

  items_spelled : (items : List Item) (last : ℤ) (values : FieldValues V) → Says items values → SpellsFields spells (length items) last (items_bytes last items) values
  items_spelled [] last values s = (end_written last, s)
  items_spelled (x ∷ xs) last values s =
      let said = s.1.1 in (
        x.id,
        (
          x.kind,
          (
            s.0,
            (
              s.1.0,
              (
                said.0,
                (
                  field_bytes last x.id x.kind,
                  (
                    x.bytes ++ items_bytes x.id xs,
                    refl,
                    field_written last x.id x.kind said.1 said.2,
                    (x.bytes, (items_bytes x.id xs, refl, said.3, items_spelled xs x.id s.1.0 said.4)),
                  ),
                ),
              ),
            ),
          ),
        ),
      )

  pub struct_spelled : (items : List Item) (values : FieldValues V) → Says items values → SpellsStruct spells (struct_bytes items) values
  struct_spelled items values s = (length items, items_spelled items (pos 0) values s)

-- ---- lists

pub each_behind : {A : Type 0} (spells : List ℕ → A → Type 0) (xs ys : List A) (a b : List ℕ) → SpellsEach spells a xs → SpellsEach spells b ys → SpellsEach spells (a ++ b) (xs ++ ys)
each_behind spells [] ys a b s t = subst (λ front. SpellsEach spells (front ++ b) ys) (sym s) t
each_behind spells (x ∷ xs) ys a b s t =
    (s.0, (s.1.0 ++ b, ap (λ front. front ++ b) s.1.1 ∙ append_assoc s.0 s.1.0 b, s.1.2, each_behind spells xs ys s.1.0 b s.1.3 t))

pub one_each : {A : Type 0} (spells : List ℕ → A → Type 0) (x : A) (a : List ℕ) → spells a x → SpellsEach spells a (x ∷ [])
one_each spells x a s = (a, ([], sym (append-nil a), s, refl))

-- whatever adds the values from a place on adds all of them
abbrev pub GoesOn : {A B : Type 0} → (List ℕ → B → Type 0) → (A → B) → (A → ℕ) → List A → ℕ → WrittenSoFar → WrittenSoFar → Type 0
GoesOn spells view size xs i old now =
    IsOpen now × ((new : WrittenSoFar) → WritesValue (SpellsEach spells) (map view (drop i xs)) (sum_by size (drop i xs)) now new → WritesValue (SpellsEach spells) (map view xs) (sum_by size xs) old new)

drop_step : {A : Type 0} (xs : List A) (i : ℕ) (x : A) → i < length xs → x ≡ get_or xs i x → drop i xs ≡ x ∷ drop (suc i) xs
drop_step [] i x room is = absurd (omega arith)
drop_step (y ∷ ys) zero x room is = ap (λ z. z ∷ ys) (sym is)
drop_step (y ∷ ys) (suc i) x room is = drop_step ys i x (omega arith) is

pub drop_next : {A : Type 0} (xs : List A) (i : ℕ) (x : A) → i < length xs → x ≡ get_or xs i x → drop i xs ≡ x ∷ drop (i + 1) xs
drop_next xs i x room is = rw add-one (drop_step xs i x room is)

pub drop_past : {A : Type 0} (xs : List A) (i : ℕ) → length xs ≤ i → drop i xs ≡ []
drop_past xs i h = grind (arith, drop_all)

none_more : {B : Type 0} (spells : List ℕ → B → Type 0) (w : WrittenSoFar) → IsOpen w → WritesValue (SpellsEach spells) [] 0 w w
none_more spells w h = record { more = []; written = none_added w; spelled = refl; size = omega arith; goes_on = h }

module _ {A B : Type 0} (spells : List ℕ → B → Type 0) (view : A → B) (size : A → ℕ) where
  one_more : (x : A) (xs : List A) (u v w : WrittenSoFar) → WritesValue spells (view x) (size x) u v → WritesValue (SpellsEach spells) (map view xs) (sum_by size xs) v w
      → WritesValue (SpellsEach spells) (map view (x ∷ xs)) (sum_by size (x ∷ xs)) u w
  one_more x xs u v w first others = record {
    more = first.more ++ others.more;
    written = bytes_behind first.more others.more u v w first.written others.written;
    spelled = (first.more, (others.more, refl, first.spelled, others.spelled));
    size = omega (arith, first.size, others.size, length-append first.more others.more, sum_by-cons size x xs);
    goes_on = others.goes_on;
  }

  pub next_value : (xs : List A) (i : ℕ) (x : A) (old now new : WrittenSoFar) → i < length xs → x ≡ get_or xs i x → GoesOn spells view size xs i old now → WritesValue spells (view x) (size x) now new
      → GoesOn spells view size xs (i + 1) old new
  next_value xs i x old now new room is before added = (
    added.goes_on,
    λ last rest. before.1 last (subst (λ left. WritesValue (SpellsEach spells) (map view left) (sum_by size left) now last) (sym (drop_next xs i x room is)) (one_more x (drop (i + 1) xs) now new last added rest)),
  )

  pub all_values : (xs : List A) (i : ℕ) (old now : WrittenSoFar) → length xs ≤ i → GoesOn spells view size xs i old now → WritesValue (SpellsEach spells) (map view xs) (sum_by size xs) old now
  all_values xs i old now past before =
      before.1 now (subst (λ left. WritesValue (SpellsEach spells) (map view left) (sum_by size left) now now) (sym (drop_past xs i past)) (none_more spells now before.0))

-- the same sum, of what the values are seen as
pub sum_of : {A B : Type 0} (size : B → ℕ) (view : A → B) (xs : List A) → sum_by (λ x. size (view x)) xs ≡ sum_by size (map view xs)
sum_of size view [] = refl
sum_of size view (x ∷ xs) =
    sum_by-cons (λ y. size (view y)) x xs ∙ ap (λ n. size (view x) + n) (sum_of size view xs) ∙ sym (sum_by-cons size (view x) (map view xs))

pub sum_of_twos : {A : Type 0} (xs : List A) → sum_by (λ x. 2) xs ≡ 2 * length xs
sum_of_twos [] = refl
sum_of_twos {A} (x ∷ xs) = omega (arith, sum_by-cons (λ (y : A). 2) x xs, sum_of_twos xs)

-- ---- a list inside a field

pub list_held : {B : Type 0} (id kind count : ℕ) (spells : List ℕ → B → Type 0) (values : List B) (few most : ℕ) (old header counted new : WrittenSoFar) → 6 + few ≤ most → header ≡ with_field_header (pos id) 9 old → counted ≡ with_bytes (list_bytes count kind) header
    → count ≡ length values → count < 2 ^ 32 → is_kind kind ≡ true → WritesValue (SpellsEach spells) values few counted new → PutsHeld id 9 (SpellsListOf kind spells) values most old new
list_held id kind count spells values few most old header counted new room e f same small known a = record {
  bytes = list_bytes count kind ++ a.more;
  written = bytes_behind (list_bytes count kind) a.more header counted new f a.written ∙ ap (with_bytes (list_bytes count kind ++ a.more)) e;
  spelled = (list_bytes count kind, (a.more, refl, own_header kind (length values) (list_bytes count kind) (subst (λ n. SpellsList (list_bytes count kind) (head n kind)) same (list_written count kind small known)), a.spelled));
  size = omega (arith, room, a.size, list_short count kind small, length-append (list_bytes count kind) a.more);
  goes_on = a.goes_on;
}

pub length_of_map : {A B : Type 0} (f : A → B) (xs : List A) (n : ℕ) → n ≡ length xs → n ≡ length (map f xs)
length_of_map f xs n e = e ∙ sym (length-map xs f)

pub one_value : {B : Type 0} (spells : List ℕ → B → Type 0) (x : B) (most : ℕ) (old new : WrittenSoFar) → WritesValue spells x most old new → WritesValue (SpellsEach spells) (x ∷ []) most old new
one_value spells x most old new a = record { more = a.more; written = a.written; spelled = one_each spells x a.more a.spelled; size = a.size; goes_on = a.goes_on }
