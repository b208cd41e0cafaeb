-- Plain values are read exactly where they stand.
use Rattle.std.proofs.Common.{◌≡◌, ℕ, zero, suc, ◌^◌, ◌<◌, Bool, true, false, cond, Option, Some, None, ℤ, pos, negsuc, List, [], ◌∷◌, ◌++◌, length, refl, sym, ap, subst, ◌∙◌, arith, append_assoc, lit<}
use Rattle.std.specs.Option.{option_map}
use Rattle.std.proofs.lemmas.Int.{of_z-to_z, to_z-of_z, ints}
use Rattle.std.proofs.Math.Facts.{sfits_to_z}
use Rattle.std.specs.Prelude.{FitsSigned}
use Rattle.std.specs.Int.{w32, w64, cast_signed, cast_unsigned}
use Rattle.std.specs.Str.{is_utf8, IsUtf8}
use Rattle.std.proofs.lemmas.Str.{IsUtf8-from_is_utf8}
use Rattle.dk_grammar.specs.Digits.{number_of}
use Rattle.dk_grammar.specs.Plain.{little, complement, Plain, IsPlain, plain_bytes, plain_values}
use Rattle.dk_grammar.specs.Plain as plain
use Rattle.dk_grammar.proofs.Bodies.{AreBytes}
use Rattle.dk_grammar.proofs.Digits.{digits_of-number_of, length-digits_of, number_of-below, number_of-digits_of}
use Rattle.dk_pqmodel.specs.Shape.{Leaf, flag, int32, int64, chars}
use Rattle.dk_pqmodel.specs.Datum as cell
use Rattle.dk_pqmodel.specs.Datum.{Value}
use Rattle.dk_pqmodel.specs.FilePages.{IsPlainOf, ArePlainOf}
use Rattle.dk_pages.specs.Split.{cut, sized}
use Rattle.dk_pqread.specs.Values.{plain_at, plains_at}
use Rattle.dk_pqread.proofs.PartLaws.{cut_given, cut_found, sized_given, sized_found, none_is_not_some, some_is, some_bound, when_is, front_bytes, back_bytes}

complement_32 : (z : ℤ) → complement 4 z ≡ cast_unsigned w32 z
complement_32 (pos n) = refl
complement_32 (negsuc n) = refl

complement_64 : (z : ℤ) → complement 8 z ≡ cast_unsigned w64 z
complement_64 (pos n) = refl
complement_64 (negsuc n) = refl

small_32 : (z : ℤ) → FitsSigned w32 z → complement 4 z < 256 ^ 4
small_32 (pos n) fits = omega (arith, ints, fits)
small_32 (negsuc n) fits = omega arith

small_64 : (z : ℤ) → FitsSigned w64 z → complement 8 z < 256 ^ 8
small_64 (pos n) fits = omega (arith, ints, fits)
small_64 (negsuc n) fits = omega arith

back_32 : (z : ℤ) → FitsSigned w32 z → cast_signed w32 (number_of 256 (little 4 (complement 4 z))) ≡ z
back_32 z fits = rw (number_of-digits_of 256 4 (complement 4 z) (lit< tt) (small_32 z fits), complement_32 z) (to_z-of_z w32 z fits)

back_64 : (z : ℤ) → FitsSigned w64 z → cast_signed w64 (number_of 256 (little 8 (complement 8 z))) ≡ z
back_64 z fits = rw (number_of-digits_of 256 8 (complement 8 z) (lit< tt) (small_64 z fits), complement_64 z) (to_z-of_z w64 z fits)

-- a plain value is read, whatever follows it
pub plain_given : (kind : Leaf) (p : Plain) (v : Value) (more : List ℕ) → IsPlain p → IsPlainOf kind p v → plain_at kind (plain_bytes p ++ more) ≡ Some (v, more)
plain_given int32 (plain.int32 z) (cell.int y) more fits is =
    rw (cut_given (little 4 (complement 4 z)) more 4 (length-digits_of 256 4 (complement 4 z))) (ap (λ n. Some (cell.int n, more)) (back_32 z fits ∙ sym is))
plain_given int64 (plain.int64 z) (cell.int y) more fits is =
    rw (cut_given (little 8 (complement 8 z)) more 8 (length-digits_of 256 8 (complement 8 z))) (ap (λ n. Some (cell.int n, more)) (back_64 z fits ∙ sym is))
plain_given chars (plain.chars text) (cell.chars t) more fits is =
    let whole : plain_bytes (plain.chars text) ++ more ≡ little 4 (length text) ++ (text ++ more) = append_assoc (little 4 (length text)) text more in
    ap (plain_at chars) whole ∙ rw (sized_given text more fits, is.1) (ap (λ n. Some (cell.chars n, more)) (sym is.0))
plain_given kind p v more fits is = absurd is

pub plains_given : (kind : Leaf) (ps : List Plain) (vs : List Value) (more : List ℕ) → ArePlainOf kind ps vs → plains_at kind (length vs) (plain_values ps ++ more) ≡ Some (vs, more)
plains_given kind [] [] more h = refl
plains_given kind (p ∷ ps) (v ∷ vs) more h =
    let whole : (plain_bytes p ++ plain_values ps) ++ more ≡ plain_bytes p ++ (plain_values ps ++ more) = append_assoc (plain_bytes p) (plain_values ps) more in
    ap (plains_at kind (suc (length vs))) whole ∙ rw (plain_given kind p v (plain_values ps ++ more) h.0 h.1, plains_given kind ps vs more h.2) refl
plains_given kind [] (v ∷ vs) more h = absurd h
plains_given kind (p ∷ ps) [] more h = absurd h

-- what is read stands there
pub record IsPlainAt (kind : Leaf) (bytes : List ℕ) (v : Value) (more : List ℕ) : Type 0 where
  pub p : Plain
  pub fits : IsPlain p
  pub is : IsPlainOf kind p v
  pub whole : bytes ≡ plain_bytes p ++ more

module _ (bytes front more : List ℕ) (small : AreBytes bytes) where
  spelled : (n : ℕ) → (length front ≡ n) × (bytes ≡ front ++ more) → little n (number_of 256 front) ≡ front
  spelled n h = ap (λ m. little m (number_of 256 front)) (sym h.0) ∙ digits_of-number_of 256 front (front_bytes front more (subst (λ y. AreBytes y) h.1 small))

  below : (n : ℕ) → (length front ≡ n) × (bytes ≡ front ++ more) → number_of 256 front < 256 ^ n
  below n h = subst (λ m. number_of 256 front < 256 ^ m) h.0 (number_of-below 256 front (front_bytes front more (subst (λ y. AreBytes y) h.1 small)))

  pub found_32 : (length front ≡ 4) × (bytes ≡ front ++ more) → FitsSigned w32 (cast_signed w32 (number_of 256 front)) → IsPlainAt int32 bytes (cell.int (cast_signed w32 (number_of 256 front))) more
  found_32 h fits = record {
    p = plain.int32 (cast_signed w32 (number_of 256 front));
    fits = fits;
    is = refl;
    whole =
        h.1 ∙ ap (λ x. x ++ more) (sym (ap (little 4) (complement_32 (cast_signed w32 (number_of 256 front)) ∙ of_z-to_z w32 (number_of 256 front) (below 4 h)) ∙ spelled 4 h));
  }

  pub found_64 : (length front ≡ 8) × (bytes ≡ front ++ more) → FitsSigned w64 (cast_signed w64 (number_of 256 front)) → IsPlainAt int64 bytes (cell.int (cast_signed w64 (number_of 256 front))) more
  found_64 h fits = record {
    p = plain.int64 (cast_signed w64 (number_of 256 front));
    fits = fits;
    is = refl;
    whole =
        h.1 ∙ ap (λ x. x ++ more) (sym (ap (little 8) (complement_64 (cast_signed w64 (number_of 256 front)) ∙ of_z-to_z w64 (number_of 256 front) (below 8 h)) ∙ spelled 8 h));
  }

abbrev none_of : Option (Value × List ℕ)
none_of = None

map_bound : {A B : Type 0} (o : Option A) (f : A → B) (y : B) → option_map f o ≡ Some y → (x : A) × ((o ≡ Some x) × (f x ≡ y))
map_bound None f y h = absurd (none_is_not_some y h)
map_bound (Some x) f y h = (x, (refl, some_is (f x) y h))

pub plain_found : (kind : Leaf) (bytes more : List ℕ) (v : Value) → AreBytes bytes → plain_at kind bytes ≡ Some (v, more) → IsPlainAt kind bytes v more
plain_found flag bytes more v small h = absurd (none_is_not_some (v, more) h)
plain_found int32 bytes more v small h =
    let x = map_bound (cut 4 bytes) (λ x. (cell.int (cast_signed w32 (number_of 256 x.0)), x.1)) (v, more) h in
    let c = cut_found 4 bytes (x.0.0) (x.0.1) x.1.0 in
    let room : number_of 256 (x.0.0) < 256 ^ 4 = below bytes (x.0.0) (x.0.1) small 4 c in
    let fits = sfits_to_z {w = w32} {n = number_of 256 (x.0.0)} (omega (arith, room)) in
    let found = found_32 bytes (x.0.0) (x.0.1) small c fits in
    subst (λ (y : Value × List ℕ). IsPlainAt int32 bytes y.0 y.1) x.1.1 found
plain_found int64 bytes more v small h =
    let x = map_bound (cut 8 bytes) (λ x. (cell.int (cast_signed w64 (number_of 256 x.0)), x.1)) (v, more) h in
    let c = cut_found 8 bytes (x.0.0) (x.0.1) x.1.0 in
    let room : number_of 256 (x.0.0) < 256 ^ 8 = below bytes (x.0.0) (x.0.1) small 8 c in
    let fits = sfits_to_z {w = w64} {n = number_of 256 (x.0.0)} (omega (arith, room)) in
    let found = found_64 bytes (x.0.0) (x.0.1) small c fits in
    subst (λ (y : Value × List ℕ). IsPlainAt int64 bytes y.0 y.1) x.1.1 found
plain_found chars bytes more v small h =
    let x = some_bound (sized bytes) (λ x. cond (is_utf8 x.0) (Some (cell.chars x.0, x.1)) None) (v, more) h in
    let s = sized_found bytes (x.0.0) (x.0.1) small x.1.0 in
    let c = when_is (is_utf8 x.0.0) (cell.chars x.0.0, x.0.1) (v, more) x.1.1 in
    let found : IsPlainAt chars bytes (cell.chars x.0.0) (x.0.1) = record {
      p = plain.chars (x.0.0);
      fits = s.0;
      is = (refl, c.0);
      whole = s.1 ∙ sym (append_assoc (little 4 (length x.0.0)) (x.0.0) (x.0.1));
    } in
    subst (λ (y : Value × List ℕ). IsPlainAt chars bytes y.0 y.1) c.1 found

pub record ArePlainsAt (kind : Leaf) (n : ℕ) (bytes : List ℕ) (vs : List Value) (more : List ℕ) : Type 0 where
  pub ps : List Plain
  pub are : ArePlainOf kind ps vs
  pub whole : bytes ≡ plain_values ps ++ more
  pub count : length vs ≡ n

pub plains_found : (kind : Leaf) (n : ℕ) (bytes more : List ℕ) (vs : List Value) → AreBytes bytes → plains_at kind n bytes ≡ Some (vs, more) → ArePlainsAt kind n bytes vs more
plains_found kind zero bytes more vs small h =
    let same : ([], bytes) ≡ (vs, more) = some_is ([], bytes) (vs, more) h in
    subst (λ (y : List Value × List ℕ). ArePlainsAt kind 0 bytes y.0 y.1) same (record { ps = []; are = tt; whole = refl; count = refl })
plains_found kind (suc n) bytes more vs small h =
    let x = some_bound (plain_at kind bytes) (λ x. option_map (λ more. (x.0 ∷ more.0, more.1)) (plains_at kind n x.1)) (vs, more) h in
    let first = plain_found kind bytes (x.0.1) (x.0.0) small x.1.0 in
    let y = map_bound (plains_at kind n x.0.1) (λ more. (x.0.0 ∷ more.0, more.1)) (vs, more) x.1.1 in
    let rest_small : AreBytes (x.0.1) = back_bytes (plain_bytes first.p) (x.0.1) (subst (λ z. AreBytes z) first.whole small) in
    let rest = plains_found kind n (x.0.1) (y.0.1) (y.0.0) rest_small y.1.0 in
    let found : ArePlainsAt kind (suc n) bytes (x.0.0 ∷ y.0.0) (y.0.1) = record {
      ps = first.p ∷ rest.ps;
      are = (first.fits, first.is, rest.are);
      whole = first.whole ∙ ap (λ z. plain_bytes first.p ++ z) rest.whole ∙ sym (append_assoc (plain_bytes first.p) (plain_values rest.ps) (y.0.1));
      count = ap suc rest.count;
    } in
    subst (λ (z : List Value × List ℕ). ArePlainsAt kind (suc n) bytes z.0 z.1) y.1.1 found

-- a text in front of others
pub text_found : (bytes front rest : List ℕ) → sized bytes ≡ Some (front, rest) → is_utf8 front ≡ true → plain_at chars bytes ≡ Some (cell.chars front, rest)
text_found bytes front rest e text = rw (e, text) refl

pub text_broken : (bytes front rest : List ℕ) → sized bytes ≡ Some (front, rest) → is_utf8 front ≡ false → plain_at chars bytes ≡ None
text_broken bytes front rest e text = rw (e, text) refl

pub not_text : (bytes : List ℕ) → (IsUtf8 bytes → ⊥) → is_utf8 bytes ≡ false
not_text bytes h = by_test (is_utf8 bytes) refl
  where
    by_test : (b : Bool) → is_utf8 bytes ≡ b → is_utf8 bytes ≡ false
    by_test true e = absurd (h (IsUtf8-from_is_utf8 bytes e))
    by_test false e = e
