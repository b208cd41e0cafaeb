-- The bytes of an element spell it.
use Rattle.std.proofs.Common.{◌≡◌, ◌<◌, ◌≤◌, ◌+◌, ◌^◌, ℕ, ℤ, pos, true, false, Option, Some, None, List, [], ◌∷◌, ◌++◌, length, refl, arith, FitsSigned, w64}
use Rattle.std.specs.Str.{is_utf8}
use Rattle.dk_grammar.specs.Spelling.{binary_bytes, field_bytes}
use Rattle.dk_grammar.specs.Thrift.{is_id}
use Rattle.dk_grammar.specs.Structs.{FieldValues, SpellsNumberField}
use Rattle.dk_grammar.specs.Lists.{Either, held, other, is_held, SpellsHeldOr}
use Rattle.dk_grammar.proofs.WrittenSpellings.{whole_written, binary_written}
use Rattle.dk_pqmodel.specs.FooterBytes.{SpellsName}
use Rattle.dk_pqwrite.specs.Said.{SpellsElementSaid, said_element}
use Rattle.dk_thrift.specs.Writing.{WrittenSoFar, with_bytes, with_struct, with_end}
use Rattle.dk_pqwrite.specs.FooterSizes.{element_size, name_size}
use Rattle.dk_pqwrite.specs.Items.{Item, IsWithin32Bits, number_item, text_item, optional_items, items_bytes, struct_bytes, with_items}
use Rattle.dk_pqwrite.specs.Elements.{element_items, fields_said}
use Rattle.dk_pqwrite.proofs.NumberSizes.{whole_32, name_short}
use Rattle.dk_pqwrite.proofs.Structs.{Says, struct_spelled, at_most, item_short, items_then, struct_ended}

pub far : (n : ℕ) → n < 2 ^ 32 → FitsSigned w64 (pos n)
far n h = record { sfits = below n h }
  where
    below : (n : ℕ) → n < 2 ^ 32 → n < 2 ^ 63
    below n h = omega arith

abbrev Part : Type 0
Part = Either (List ℕ) ℤ

abbrev spells : ℤ → ℕ → List ℕ → Option Part → Type 0
spells = SpellsHeldOr (pos 4) 8 SpellsName SpellsNumberField

abbrev optional_part : ℕ → Option ℕ → FieldValues Part → FieldValues Part
optional_part id None more = more
optional_part id (Some n) more = (pos id, other (pos n)) ∷ more

-- a number under an id, behind which other fields stand
optional_says : (id : ℕ) (n : Option ℕ) (items : List Item) (more : FieldValues Part) → is_id (pos id) ≡ true → is_held (pos 4) 8 (pos id) 5 ≡ false → IsWithin32Bits n → Says spells items more
    → Says spells (optional_items id 5 n ++ items) (optional_part id n more)
optional_says id None items more fits apart h s = s
optional_says id (Some n) items more fits apart h s = (Some (other (pos n)), (more, (refl, fits, refl, (apart, (refl, whole_written (pos n) (far n h))), s)))

last_says : (id : ℕ) (n : Option ℕ) → is_id (pos id) ≡ true → is_held (pos 4) 8 (pos id) 5 ≡ false → IsWithin32Bits n → Says spells (optional_items id 5 n) (optional_part id n [])
last_says id None fits apart h = refl
last_says id (Some n) fits apart h = (Some (other (pos n)), ([], (refl, fits, refl, (apart, (refl, whole_written (pos n) (far n h))), refl)))

abbrev parts : List ℕ → Option ℕ → Option ℕ → Option ℕ → Option ℕ → FieldValues Part
parts name repetition physical children converted =
    optional_part 1 physical (optional_part 3 repetition ((pos 4, held name) ∷ optional_part 5 children (optional_part 6 converted [])))

read_back : (name : List ℕ) (repetition physical children converted : Option ℕ) → fields_said name repetition physical children converted ≡ said_element (parts name repetition physical children converted)
read_back name None None None None = refl
read_back name None None None (Some v) = refl
read_back name None None (Some c) None = refl
read_back name None None (Some c) (Some v) = refl
read_back name None (Some p) None None = refl
read_back name None (Some p) None (Some v) = refl
read_back name None (Some p) (Some c) None = refl
read_back name None (Some p) (Some c) (Some v) = refl
read_back name (Some r) None None None = refl
read_back name (Some r) None None (Some v) = refl
read_back name (Some r) None (Some c) None = refl
read_back name (Some r) None (Some c) (Some v) = refl
read_back name (Some r) (Some p) None None = refl
read_back name (Some r) (Some p) None (Some v) = refl
read_back name (Some r) (Some p) (Some c) None = refl
read_back name (Some r) (Some p) (Some c) (Some v) = refl

pub element_spelled : (name : List ℕ) (repetition physical children converted : Option ℕ) → is_utf8 name ≡ true → length name < 2 ^ 64
    → IsWithin32Bits repetition → IsWithin32Bits physical → IsWithin32Bits children → IsWithin32Bits converted
    → SpellsElementSaid (struct_bytes (element_items name repetition physical children converted)) (fields_said name repetition physical children converted)
element_spelled name repetition physical children converted utf8 short r p c v = (
  parts name repetition physical children converted,
  struct_spelled spells (element_items name repetition physical children converted) (parts name repetition physical children converted)
      (optional_says 1 physical _ _ refl refl p (optional_says 3 repetition _ _ refl refl r (
        Some (held name),
        (
          optional_part 5 children (optional_part 6 converted []),
          (
            refl,
            refl,
            refl,
            (refl, (binary_written name short, utf8)),
            optional_says 5 children _ _ refl refl c (last_says 6 converted refl refl v),
          ),
        ),
      ))),
  read_back name repetition physical children converted,
)

pub element_written : (name : List ℕ) (repetition physical children converted : Option ℕ) (old inner a b d e f new : WrittenSoFar)
    → inner ≡ with_struct old → a ≡ with_items (optional_items 1 5 physical) inner → b ≡ with_items (optional_items 3 5 repetition) a → d ≡ with_items (text_item 4 name ∷ []) b
    → e ≡ with_items (optional_items 5 5 children) d → f ≡ with_items (optional_items 6 5 converted) e → new ≡ with_end f
    → new ≡ with_bytes (struct_bytes (element_items name repetition physical children converted)) old
element_written name repetition physical children converted old inner a b d e f new begun first second third fourth fifth ended =
    let two = optional_items 5 5 children ++ optional_items 6 5 converted in
    let three = text_item 4 name ∷ two in
    let four = optional_items 3 5 repetition ++ three in
    let last_two = items_then (optional_items 5 5 children) (optional_items 6 5 converted) d e f fourth fifth in
    let last_three = items_then (text_item 4 name ∷ []) two b d f third last_two in
    let last_four = items_then (optional_items 3 5 repetition) three a b f second last_three in
    struct_ended (element_items name repetition physical children converted) old inner f new begun (items_then (optional_items 1 5 physical) four inner a f first last_four) ended

-- ---- how many bytes there are

optional_short : (last : ℤ) (id : ℕ) (n : Option ℕ) (items : List Item) (most : ℕ) → IsWithin32Bits n → length (field_bytes last (pos id) 5) ≡ 1 → length (items_bytes last items) ≤ most
    → length (items_bytes (pos id) items) ≤ most → length (items_bytes last (optional_items id 5 n ++ items)) ≤ 6 + most
optional_short last id None items most h one without behind = omega (arith, without)
optional_short last id (Some n) items most h one without behind = item_short last (number_item id 5 n) items 5 most one (whole_32 n h) behind

last_short : (last : ℤ) (id : ℕ) (n : Option ℕ) → IsWithin32Bits n → length (field_bytes last (pos id) 5) ≡ 1 → length (items_bytes last (optional_items id 5 n)) ≤ 7
last_short last id None h one = omega arith
last_short last id (Some n) h one = item_short last (number_item id 5 n) [] 5 1 one (whole_32 n h) (omega arith)

module _ (name : List ℕ) (repetition physical children converted : Option ℕ) (own : ℕ) (r : IsWithin32Bits repetition) (p : IsWithin32Bits physical) (c : IsWithin32Bits children) (v : IsWithin32Bits converted) where
  abbrev behind_name : List Item
  behind_name = optional_items 5 5 children ++ optional_items 6 5 converted

  behind_name_short : length (items_bytes (pos 4) behind_name) ≤ 13
  behind_name_short = optional_short (pos 4) 5 children (optional_items 6 5 converted) 7 c refl (last_short (pos 4) 6 converted v refl) (last_short (pos 5) 6 converted v refl)

  abbrev from_name : List Item
  from_name = text_item 4 name ∷ behind_name

  name_within : (last : ℤ) → length (binary_bytes name) ≤ own → length (field_bytes last (pos 4) 8) ≡ 1 → length (items_bytes last from_name) ≤ 14 + own
  name_within last few one = at_most (items_bytes last from_name) (1 + own + 13) (14 + own) (item_short last (text_item 4 name) behind_name own 13 one few behind_name_short) (omega arith)

  abbrev from_repetition : List Item
  from_repetition = optional_items 3 5 repetition ++ from_name

  repetition_within : (last : ℤ) → length (binary_bytes name) ≤ own → length (field_bytes last (pos 3) 5) ≡ 1 → length (field_bytes last (pos 4) 8) ≡ 1
      → length (items_bytes last from_repetition) ≤ 6 + (14 + own)
  repetition_within last few one then = optional_short last 3 repetition from_name (14 + own) r one (name_within last few then) (name_within (pos 3) few refl)

  element_within : length (binary_bytes name) ≤ own → length (struct_bytes (element_items name repetition physical children converted)) ≤ 26 + own
  element_within few =
      at_most (struct_bytes (element_items name repetition physical children converted)) (6 + (6 + (14 + own))) (26 + own)
      (optional_short (pos 0) 1 physical from_repetition (6 + (14 + own)) p refl (repetition_within (pos 0) few refl refl) (repetition_within (pos 1) few refl refl)) (omega arith)

pub element_short : (name : List ℕ) (repetition physical children converted : Option ℕ) → length name < 2 ^ 64 → IsWithin32Bits repetition → IsWithin32Bits physical → IsWithin32Bits children → IsWithin32Bits converted
    → length (struct_bytes (element_items name repetition physical children converted)) ≤ element_size (fields_said name repetition physical children converted)
element_short name repetition physical children converted short r p c v = element_within name repetition physical children converted (name_size name) r p c v (name_short name short)
