-- Values that are added one behind another.
use Rattle.std.proofs.Common.{◌≡◌, ℕ, suc, ◌+◌, ◌/◌, ◌^◌, ◌<◌, ◌≤◌, Bool, true, false, IsTrue, Option, Some, None, ℤ, pos, negsuc, List, [], ◌∷◌, ◌++◌, length, map, take, get_or, refl, sym, ap, ◌∙◌, append_assoc, arith, add-one, of_z, FitsSigned, w32, w64}
use Rattle.std.specs.List.{All, filter_map}
use Rattle.std.specs.Int.{to_le_bytes}
use Rattle.std.specs.Prelude.{IfSome}
use Rattle.std.specs.Option.{option_and_then, option_to_list}
use Rattle.std.specs.Str.{is_utf8}
use Rattle.std.proofs.lemmas.Bool.{ltb-true}
use Rattle.std.proofs.lemmas.List.Sums.{sum_by-append, sum_by-cons}
use Rattle.std.proofs.Math.Seq.{take-suc}
use Rattle.std.proofs.lemmas.List.{length-append, length-map, get_or-map, map-append, append-nil}
use Rattle.std.proofs.lemmas.List.Elements.{All-get_or, All-head, All-tail, filter_map-append}
use Rattle.dk_grammar.specs.Plain.{Plain, AreFlags, IsPlain, plain_values, little, complement}
use Rattle.dk_grammar.specs.Plain as plain
use Rattle.dk_grammar.proofs.Digits.{length-digits_of}
use Rattle.dk_pqmodel.specs.Shape.{Leaf, flag, int32, int64, chars}
use Rattle.dk_pqmodel.specs.Datum as cell
use Rattle.dk_pqmodel.specs.Datum.{Value, Triple, Column}
use Rattle.dk_pqmodel.specs.Fits.{fits_leaf, in_i32}
use Rattle.dk_pqmodel.specs.FilePages.{IsPlainOf, ArePlainOf, InPlain}
use Rattle.dk_pqmodel.specs.Weight.{text_length}
use Rattle.dk_levels.specs.Borrowed.{borrowed_triple, borrowed_value}
use Rattle.dk_levels.specs.declared.borrowed.BorrowedTriple.{BorrowedTriple}
use Rattle.dk_pqwrite.specs.Adding.{AddsBytes}
use Rattle.dk_pqwrite.specs.PlainValues.{ArePlain, FitsEntry, flag_value, flags_in, plain_size}
use Rattle.dk_pqwrite.specs.WrittenColumn.{values_of_column}

-- ---- one value

abbrev pub one : Leaf → Value → List ℕ → Type 0
one kind v bytes = ArePlain kind (v ∷ []) bytes

pub one_plain : (kind : Leaf) (p : Plain) (v : Value) → IsPlain p → IsPlainOf kind p v → ArePlain kind (v ∷ []) (plain.plain_bytes p)
one_plain kind p v fits is = (p ∷ [], sym (append-nil (plain.plain_bytes p)), (fits, is, tt))

both_are : (kind : Leaf) (ps qs : List Plain) (vs ws : List Value) → ArePlainOf kind ps vs → ArePlainOf kind qs ws → ArePlainOf kind (ps ++ qs) (vs ++ ws)
both_are kind [] qs [] ws h g = g
both_are kind (p ∷ ps) qs (v ∷ vs) ws h g = (h.0, h.1, both_are kind ps qs vs ws h.2 g)
both_are kind [] qs (v ∷ vs) ws h g = absurd h
both_are kind (p ∷ ps) qs [] ws h g = absurd h

both_bytes : (ps qs : List Plain) → plain_values (ps ++ qs) ≡ plain_values ps ++ plain_values qs
both_bytes [] qs = refl
both_bytes (p ∷ ps) qs = ap (λ bs. plain.plain_bytes p ++ bs) (both_bytes ps qs) ∙ sym (append_assoc (plain.plain_bytes p) (plain_values ps) (plain_values qs))

both_size : (vs ws : List Value) → plain_size (vs ++ ws) ≡ plain_size vs + plain_size ws
both_size vs ws = sum_by-append (λ v. 8 + text_length v) vs ws

pub both_plain : (kind : Leaf) (vs ws : List Value) (old mid new : List ℕ) → AddsBytes (ArePlain kind vs) (plain_size vs) old mid → AddsBytes (ArePlain kind ws) (plain_size ws) mid new
    → AddsBytes (ArePlain kind (vs ++ ws)) (plain_size (vs ++ ws)) old new
both_plain kind vs ws old mid new h g = record {
  part = h.part ++ g.part;
  added = g.added ∙ ap (λ bs. bs ++ g.part) h.added ∙ append_assoc old h.part g.part;
  is = (h.is.0 ++ g.is.0, ap (λ bs. bs ++ g.part) h.is.1 ∙ ap (λ bs. plain_values h.is.0 ++ bs) g.is.1 ∙ sym (both_bytes h.is.0 g.is.0), both_are kind h.is.0 g.is.0 vs ws h.is.2 g.is.2);
  size = omega (arith, h.size, g.size, both_size vs ws, length-append h.part g.part);
}

-- ---- numbers and texts

pub in_range : (z : ℤ) → in_i32 z ≡ true → FitsSigned w32 z
in_range (pos n) h = record { sfits = ltb-true n (2 ^ 31) h }
in_range (negsuc n) h = record { sfits = ltb-true n (2 ^ 31) h }

little_4 : (n : ℕ) → to_le_bytes w32 n ≡ little 4 n
little_4 n =
    let second : n / 256 / 256 ≡ n / 65536 = omega arith in
    let third : n / 65536 / 256 ≡ n / 16777216 = omega arith in
    rw (second, third) refl

little_8 : (n : ℕ) → to_le_bytes w64 n ≡ little 8 n
little_8 n =
    let second : n / 256 / 256 ≡ n / 65536 = omega arith in
    let third : n / 65536 / 256 ≡ n / 16777216 = omega arith in
    let fourth : n / 16777216 / 256 ≡ n / 4294967296 = omega arith in
    let fifth : n / 4294967296 / 256 ≡ n / 1099511627776 = omega arith in
    let sixth : n / 1099511627776 / 256 ≡ n / 281474976710656 = omega arith in
    let seventh : n / 281474976710656 / 256 ≡ n / 72057594037927936 = omega arith in
    rw (second, third, fourth, fifth, sixth, seventh) refl

complement_32 : (z : ℤ) → of_z w32 z ≡ complement 4 z
complement_32 (pos n) = refl
complement_32 (negsuc n) = refl

complement_64 : (z : ℤ) → of_z w64 z ≡ complement 8 z
complement_64 (pos n) = refl
complement_64 (negsuc n) = refl

pub adds_short : (z : ℤ) (n : ℕ) (old new bytes : List ℕ) → in_i32 z ≡ true → n ≡ of_z w32 z → bytes ≡ to_le_bytes w32 n → new ≡ old ++ bytes → AddsBytes (ArePlain int32 (cell.int z ∷ [])) 8 old new
adds_short z n old new bytes fits cast is e = record {
  part = little 4 (complement 4 z);
  added = e ∙ ap (λ bs. old ++ bs) (is ∙ little_4 n ∙ ap (little 4) (cast ∙ complement_32 z));
  is = one_plain int32 (plain.int32 z) (cell.int z) (in_range z fits) refl;
  size = omega (arith, length-digits_of 256 4 (complement 4 z));
}

pub adds_long : (z : ℤ) (n : ℕ) (old new bytes : List ℕ) → FitsSigned w64 z → n ≡ of_z w64 z → bytes ≡ to_le_bytes w64 n → new ≡ old ++ bytes → AddsBytes (ArePlain int64 (cell.int z ∷ [])) 8 old new
adds_long z n old new bytes fits cast is e = record {
  part = little 8 (complement 8 z);
  added = e ∙ ap (λ bs. old ++ bs) (is ∙ little_8 n ∙ ap (little 8) (cast ∙ complement_64 z));
  is = one_plain int64 (plain.int64 z) (cell.int z) fits refl;
  size = omega (arith, length-digits_of 256 8 (complement 8 z));
}

pub adds_text : (text old new : List ℕ) → length text < 2 ^ 32 → is_utf8 text ≡ true → new ≡ old ++ (little 4 (length text) ++ text) → AddsBytes (ArePlain chars (cell.chars text ∷ [])) (8 + length text) old new
adds_text text old new short utf8 e = record {
  part = little 4 (length text) ++ text;
  added = e;
  is = one_plain chars (plain.chars text) (cell.chars text) short (refl, utf8);
  size = omega (arith, length-append (little 4 (length text)) text, length-digits_of 256 4 (length text));
}

-- ---- the values of triples, one after another

pub single : {X : Type 0} (x : Option X) → filter_map (λ y. y) (x ∷ []) ≡ option_to_list x
single None = refl
single (Some x) = refl

module _ (triples : List BorrowedTriple) (i : ℕ) (t : BorrowedTriple) (within : i < length triples) (there : t ≡ get_or triples i t) where
  pub entries_more : map borrowed_triple (take (i + 1) triples) ≡ map borrowed_triple (take i triples) ++ borrowed_triple t ∷ []
  entries_more =
      let one_more : take (suc i) triples ≡ take i triples ++ get_or triples i t ∷ [] = take-suc triples i t within in
      rw (add-one i, one_more, ← there) (map-append borrowed_triple (take i triples) (t ∷ []))

  pub flags_more : (b : Option Bool) → b ≡ option_and_then flag_value (borrowed_triple t).value → flags_in (map borrowed_triple (take (i + 1) triples)) ≡ flags_in (map borrowed_triple (take i triples)) ++ option_to_list b
  flags_more b e =
      let both = filter_map-append (λ (x : Triple). option_and_then flag_value x.value) (map borrowed_triple (take i triples)) (borrowed_triple t ∷ []) in
      rw (entries_more, e) (both ∙ ap (λ xs. flags_in (map borrowed_triple (take i triples)) ++ xs) (single (option_and_then flag_value (borrowed_triple t).value)))

  values_more : values_of_column (map borrowed_triple (take (i + 1) triples)) ≡ values_of_column (map borrowed_triple (take i triples)) ++ option_to_list (borrowed_value t.value)
  values_more =
      let both = filter_map-append (λ (x : Triple). x.value) (map borrowed_triple (take i triples)) (borrowed_triple t ∷ []) in
      rw entries_more (both ∙ ap (λ xs. values_of_column (map borrowed_triple (take i triples)) ++ xs) (single (borrowed_value t.value)))

module _ (kind : Leaf) (triples : List BorrowedTriple) (i : ℕ) (t : BorrowedTriple) (within : i < length triples) (there : t ≡ get_or triples i t) where
  pub fits_there : All (FitsEntry kind) (map borrowed_triple triples) → FitsEntry kind (borrowed_triple t)
  fits_there h =
      let here = All-get_or (FitsEntry kind) (map borrowed_triple triples) i (borrowed_triple t) (rw length-map within) h in
      rw (get_or-map borrowed_triple triples i t (borrowed_triple t) within, ← there) at here

  pub value_more : (old mid new : List ℕ) → AddsBytes (ArePlain kind (values_of_column (map borrowed_triple (take i triples)))) (plain_size (values_of_column (map borrowed_triple (take i triples)))) old mid
      → AddsBytes (ArePlain kind (option_to_list (borrowed_value t.value))) (plain_size (option_to_list (borrowed_value t.value))) mid new
      → AddsBytes (ArePlain kind (values_of_column (map borrowed_triple (take (i + 1) triples)))) (plain_size (values_of_column (map borrowed_triple (take (i + 1) triples)))) old new
  value_more old mid new h g =
      rw (values_more triples i t within there) (both_plain kind (values_of_column (map borrowed_triple (take i triples))) (option_to_list (borrowed_value t.value)) old mid new h g)

-- ---- flags

pub not_true : false ≡ true → ⊥
not_true h = cc

first_flag : (r d : ℕ) (v : Option Value) (es : Column) → IfSome v (λ x. IsTrue (fits_leaf x flag) × (text_length x < 2 ^ 32)) → values_of_column es ≡ map cell.flag (flags_in es)
    → values_of_column (record { repetition = r; definition = d; value = v } ∷ es) ≡ map cell.flag (flags_in (record { repetition = r; definition = d; value = v } ∷ es))
first_flag r d None es fits rest = rest
first_flag r d (Some (cell.flag b)) es fits rest = ap (λ vs. cell.flag b ∷ vs) rest
first_flag r d (Some (cell.int n)) es fits rest = absurd (not_true fits.0)
first_flag r d (Some (cell.chars t)) es fits rest = absurd (not_true fits.0)

flag_values : (entries : Column) → All (FitsEntry flag) entries → values_of_column entries ≡ map cell.flag (flags_in entries)
flag_values [] h = refl
flag_values (e ∷ es) h = first_flag e.repetition e.definition e.value es (All-head (FitsEntry flag) e es h) (flag_values es (All-tail (FitsEntry flag) e es h))

pub as_many : (values : List Value) → length values ≤ plain_size values
as_many [] = omega arith
as_many (v ∷ vs) = omega (arith, as_many vs, sum_by-cons (λ x. 8 + text_length x) v vs)

pub flags_in_plain : (entries : Column) (flags : List Bool) (old new : List ℕ) → All (FitsEntry flag) entries → flags ≡ flags_in entries → AddsBytes (AreFlags flags) (length flags) old new
    → AddsBytes (InPlain flag (values_of_column entries)) (plain_size (values_of_column entries)) old new
flags_in_plain entries flags old new fits e h =
    let values : values_of_column entries ≡ map cell.flag flags = flag_values entries fits ∙ ap (map cell.flag) (sym e) in
    record {
      part = h.part;
      added = h.added;
      is = (flags, h.part, [], sym (append-nil h.part), h.is, values);
      size = omega (arith, h.size, as_many (values_of_column entries), ap length values, length-map flags cell.flag);
    }
