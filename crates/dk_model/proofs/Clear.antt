-- No newline stands in a compact text.
use Rattle.std.proofs.Common.{◌≡◌, ℕ, zero, suc, ◌+◌, ◌/◌, ◌%◌, ◌≤◌, ◌==◌, ◌||◌, nat_lt, Bool, true, false, cond, pos, negsuc, List, [], ◌∷◌, ◌++◌, decimal, refl, arith}
use Rattle.std.specs.List.{AllByRecursion}
use Rattle.std.specs.Fmt.{digits, digits_onto, digit_glyph}
use Rattle.std.proofs.lemmas.Bool.{ltb-false}
use borrow.Author.Tests.{eqb-true}
use Rattle.std.specs.Char.{digit_char}
use Rattle.json.specs.Print.{escape_letter, escape_byte, escape, quoted}
use Rattle.serde_json.specs.Data.{Num, unsigned, negative, float, Data, null, boolean, number, string, array, object, Items, no_items, item, Members, no_members, member}
use Rattle.serde_json.specs.Written.{number_text, comma_if, compact_text, items_text, members_text}

abbrev pub IsClear : List ℕ → Type 0
IsClear bs = AllByRecursion (λ b. (b == 10) ≡ false) bs

pub clear-append : (xs ys : List ℕ) → IsClear xs → IsClear ys → IsClear (xs ++ ys)
clear-append [] ys p q = q
clear-append (x ∷ xs) ys p q = (p.0, clear-append xs ys p.1 q)

not_newline : (n : ℕ) → (n ≡ 10 → ⊥) → (n == 10) ≡ false
not_newline n h = differs (n == 10) refl
  where
    differs : (b : Bool) → (n == 10) ≡ b → b ≡ false
    differs true e = absurd (h (eqb-true n 10 e))
    differs false e = refl

digit_clear : (d : ℕ) → (digit_char d == 10) ≡ false
digit_clear d = not_newline _ (by_test (nat_lt d 10))
  where
    by_test : (b : Bool) → cond b (48 + d) (87 + d) ≡ 10 → ⊥
    by_test true e = omega arith
    by_test false e = omega arith

glyph_clear : (d : ℕ) → (digit_glyph false d == 10) ≡ false
glyph_clear d = digit_clear d

digits_onto_clear : (k n : ℕ) (acc : List ℕ) → IsClear acc → IsClear (digits_onto k 10 false n acc)
digits_onto_clear zero n acc p = p
digits_onto_clear (suc k) n acc p = by_test (n / 10 == 0) _ _ (glyph_clear (n % 10), p) (digits_onto_clear k (n / 10) (digit_glyph false (n % 10) ∷ acc) (glyph_clear (n % 10), p))
  where
    by_test : (b : Bool) (xs ys : List ℕ) → IsClear xs → IsClear ys → IsClear (cond b xs ys)
    by_test true xs ys p q = p
    by_test false xs ys p q = q

decimal_clear : (n : ℕ) → IsClear (decimal n)
unfolding digits
decimal_clear n = digits_onto_clear 64 n [] tt

number_clear : (n : Num) → IsClear (number_text n)
number_clear (unsigned n) = decimal_clear n
number_clear (negative (pos n)) = decimal_clear n
number_clear (negative (negsuc n)) = (refl, decimal_clear (suc n))
number_clear (float x) = tt

-- the letter of an escape is no newline, and a byte with none is at least a blank, or is escaped by its digits
letter_clear : (x : ℕ) → (escape_letter x == 10) ≡ false
letter_clear x = at_first ((x == 34) || (x == 92)) refl
  where
    chain : (a b c d e : Bool) → (cond a 98 (cond b 102 (cond c 110 (cond d 114 (cond e 116 0)))) == 10) ≡ false
    chain true b c d e = refl
    chain false true c d e = refl
    chain false false true d e = refl
    chain false false false true e = refl
    chain false false false false true = refl
    chain false false false false false = refl

    at_first : (b : Bool) → ((x == 34) || (x == 92)) ≡ b → (cond b x (cond (x == 8) 98 (cond (x == 12) 102 (cond (x == 10) 110 (cond (x == 13) 114 (cond (x == 9) 116 0))))) == 10) ≡ false
    at_first true e = not_newline x (λ is. ten_is_no_quote (rw is at e))
      where
        ten_is_no_quote : ((10 == 34) || (10 == 92)) ≡ true → ⊥
        ten_is_no_quote e = cc
    at_first false e = chain (x == 8) (x == 12) (x == 10) (x == 13) (x == 9)

escape_byte_clear : (x : ℕ) → IsClear (escape_byte x)
unfolding escape_byte
escape_byte_clear x = by_letter (nat_lt 0 (escape_letter x)) (nat_lt x 32) refl refl
  where
    by_letter : (b c : Bool) → nat_lt 0 (escape_letter x) ≡ b → nat_lt x 32 ≡ c → IsClear (cond b (92 ∷ escape_letter x ∷ []) (cond c (92 ∷ 117 ∷ 48 ∷ 48 ∷ digit_char (x / 16) ∷ digit_char (x % 16) ∷ []) (x ∷ [])))
    by_letter true c e f = (refl, (letter_clear x, tt))
    by_letter false true e f = (refl, (refl, (refl, (refl, (digit_clear (x / 16), (digit_clear (x % 16), tt))))))
    by_letter false false e f = (not_newline x (λ is. let le : 32 ≤ x = ltb-false x 32 f in omega arith), tt)

escape_clear : (s : List ℕ) → IsClear (escape s)
escape_clear [] = tt
escape_clear (x ∷ s) = clear-append (escape_byte x) (escape s) (escape_byte_clear x) (escape_clear s)

quoted_clear : (s : List ℕ) → IsClear (quoted s)
quoted_clear s = (refl, clear-append (escape s) (34 ∷ []) (escape_clear s) (refl, tt))

comma_clear : (later : Bool) → IsClear (comma_if later)
comma_clear true = (refl, tt)
comma_clear false = tt

mutual
  pub text_clear : (d : Data) → IsClear (compact_text d)
  text_clear null = (refl, (refl, (refl, (refl, tt))))
  text_clear (boolean true) = (refl, (refl, (refl, (refl, tt))))
  text_clear (boolean false) = (refl, (refl, (refl, (refl, (refl, tt)))))
  text_clear (number n) = number_clear n
  text_clear (string s) = quoted_clear s
  text_clear (array ds) = (refl, items_clear false ds)
  text_clear (object ms) = (refl, members_clear false ms)

  items_clear : (later : Bool) (ds : Items) → IsClear (items_text later ds)
  items_clear later no_items = (refl, tt)
  items_clear later (item d ds) = clear-append _ _ (comma_clear later) (clear-append _ _ (text_clear d) (items_clear true ds))

  members_clear : (later : Bool) (ms : Members) → IsClear (members_text later ms)
  members_clear later no_members = (refl, tt)
  members_clear later (member k d ms) = clear-append _ _ (comma_clear later) (clear-append (quoted k) (58 ∷ (compact_text d ++ members_text true ms)) (quoted_clear k) (refl, clear-append _ _ (text_clear d) (members_clear true ms)))
