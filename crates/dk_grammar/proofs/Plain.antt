-- No spelling of a plain value begins the spelling of another of its type, and bytes hold so many flags in one way.
use Rattle.std.proofs.Common.{◌≡◌, ℕ, ◌^◌, ◌<◌, ℤ, pos, negsuc, Bool, true, false, List, [], ◌∷◌, ◌++◌, length, map, refl, sym, ap, ◌∙◌, arith, lit<}
use Rattle.std.proofs.lemmas.List.{append_assoc, length-map}
use Rattle.std.proofs.lemmas.Int.{ints}
use Rattle.std.specs.Prelude.{FitsSigned}
use Rattle.std.specs.Int.{w32, w64}
use Rattle.dk_grammar.specs.Digits.{number_of}
use Rattle.dk_grammar.specs.Plain.{little, complement, Plain, int32, int64, chars, IsPlain, plain_bytes, AreAlike, bit_of, AreFlags}
use Rattle.dk_grammar.proofs.Digits.{length-digits_of, number_of-digits_of, same_digits}
use Rattle.dk_grammar.proofs.Runs.{same_front}

-- numbers of so many bytes, whatever follows
pub little_again : (count m n : ℕ) (x y : List ℕ) → m < 256 ^ count → n < 256 ^ count → little count m ++ x ≡ little count n ++ y → (m ≡ n) × (x ≡ y)
little_again count m n x y small other whole =
    let same = same_front (little count m) (little count n) x y (length-digits_of 256 count m ∙ sym (length-digits_of 256 count n)) whole in
    (sym (number_of-digits_of 256 count m (lit< tt) small) ∙ ap (number_of 256) same.0 ∙ number_of-digits_of 256 count n (lit< tt) other, same.1)

complement_small_32 : (z : ℤ) → FitsSigned w32 z → complement 4 z < 256 ^ 4
complement_small_32 (pos n) fits = omega (arith, ints, fits)
complement_small_32 (negsuc n) fits = omega arith

complement_again_32 : (y z : ℤ) → FitsSigned w32 y → FitsSigned w32 z → complement 4 y ≡ complement 4 z → y ≡ z
complement_again_32 (pos m) (pos n) small other same = ap pos same
complement_again_32 (pos m) (negsuc n) small other same = absurd (omega (arith, ints, small, other, same))
complement_again_32 (negsuc m) (pos n) small other same = absurd (omega (arith, ints, small, other, same))
complement_again_32 (negsuc m) (negsuc n) small other same = ap negsuc (omega (arith, ints, small, other, same))

complement_small_64 : (z : ℤ) → FitsSigned w64 z → complement 8 z < 256 ^ 8
complement_small_64 (pos n) fits = omega (arith, ints, fits)
complement_small_64 (negsuc n) fits = omega arith

complement_again_64 : (y z : ℤ) → FitsSigned w64 y → FitsSigned w64 z → complement 8 y ≡ complement 8 z → y ≡ z
complement_again_64 (pos m) (pos n) small other same = ap pos same
complement_again_64 (pos m) (negsuc n) small other same = absurd (omega (arith, ints, small, other, same))
complement_again_64 (negsuc m) (pos n) small other same = absurd (omega (arith, ints, small, other, same))
complement_again_64 (negsuc m) (negsuc n) small other same = ap negsuc (omega (arith, ints, small, other, same))

pub plain_again : (value other : Plain) (x y : List ℕ) → AreAlike value other → IsPlain value → IsPlain other → plain_bytes value ++ x ≡ plain_bytes other ++ y → (value ≡ other) × (x ≡ y)
plain_again (int32 m) (int32 n) x y alike first second whole =
    let same = little_again 4 (complement 4 m) (complement 4 n) x y (complement_small_32 m first) (complement_small_32 n second) whole in
    (ap int32 (complement_again_32 m n first second same.0), same.1)
plain_again (int64 m) (int64 n) x y alike first second whole =
    let same = little_again 8 (complement 8 m) (complement 8 n) x y (complement_small_64 m first) (complement_small_64 n second) whole in
    (ap int64 (complement_again_64 m n first second same.0), same.1)
plain_again (chars text) (chars other) x y alike first second whole =
    let apart : little 4 (length text) ++ (text ++ x) ≡ little 4 (length other) ++ (other ++ y) =
    sym (append_assoc (little 4 (length text)) text x) ∙ whole ∙ append_assoc (little 4 (length other)) other y in
    let same = little_again 4 (length text) (length other) (text ++ x) (other ++ y) first second apart in
    let texts = same_front text other x y same.0 same.1 in
    (ap chars texts.0, texts.1)
plain_again value other x y alike first second whole = absurd alike

bit_again : (a b : Bool) → bit_of a ≡ bit_of b → a ≡ b
bit_again false false same = refl
bit_again false true same = absurd (omega (arith, same))
bit_again true false same = absurd (omega (arith, same))
bit_again true true same = refl

bits_again : (flags others : List Bool) → map bit_of flags ≡ map bit_of others → flags ≡ others
bits_again [] [] same = refl
bits_again [] (b ∷ bs) same = cc
bits_again (a ∷ flags) [] same = cc
bits_again (a ∷ flags) (b ∷ others) same =
    let first : bit_of a ≡ bit_of b = cc in
    let rest : map bit_of flags ≡ map bit_of others = cc in
    ap (λ x. x ∷ flags) (bit_again a b first) ∙ ap (λ xs. b ∷ xs) (bits_again flags others rest)

pub flags_again : (flags others : List Bool) (bytes : List ℕ) → length flags ≡ length others → AreFlags flags bytes → AreFlags others bytes → flags ≡ others
flags_again flags others bytes len first second =
    let xs : List ℕ = map bit_of flags in
    let ys : List ℕ = map bit_of others in
    let count : length (xs ++ first.padding) ≡ length (ys ++ second.padding) = omega (arith, first.packed.bits, second.packed.bits) in
    let all : xs ++ first.padding ≡ ys ++ second.padding =
    same_digits 2 (xs ++ first.padding) (ys ++ second.padding) first.packed.fit second.packed.fit count (first.packed.number ∙ sym second.packed.number) in
    let lens : length xs ≡ length ys = length-map flags bit_of ∙ len ∙ sym (length-map others bit_of) in
    bits_again flags others ((same_front xs ys first.padding second.padding lens all).0)
