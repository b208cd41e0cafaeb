-- The loop over the lines of a text.
use Rattle.std.proofs.Common.{◌≡◌, ℕ, ◌+◌, ◌<◌, ◌≤◌, ◌==◌, Bool, true, false, not, cond, nat_lt, List, [], ◌∷◌, length, take, drop, Option, Some, None, refl, sym, ap, ◌∙◌, arith}
use Rattle.std.specs.Prelude.{position}
use Rattle.std.specs.List.{position_or_len, slice_split, onto_first}
use Rattle.std.specs.Str.{IsUtf8, is_utf8}
use Rattle.std.proofs.lemmas.Str.{IsUtf8-from_is_utf8}
use Rattle.std.proofs.lemmas.List.Splits.{slice_split_first}
use Rattle.std.proofs.lemmas.Option.{cond_some}
use borrow.Author.Tests.{ltb-true, ltb-false}
use Rattle.std.proofs.lemmas.List.Sums.{position_or_len_is}
use Rattle.memchr.specs.Find.{IsFirstByte, is_byte}
use Rattle.serde_json.specs.Data.{Data}
use Rattle.serde_json.specs.Read.{read}
use Rattle.dk_model.specs.CommitText.{json_of}

-- how many lines there may be in what is left
abbrev pub left : Option (List ℕ) → ℕ
left None = 0
left (Some bytes) = length bytes + 1

-- ---- the first line

whole_at : (b : Bool) (x : ℕ) (xs : List ℕ) (rest : List (List ℕ)) (n : ℕ) → (length xs ≤ n → rest ≡ xs ∷ []) → length (x ∷ xs) ≤ cond (not b) (1 + n) 0 → cond b ([] ∷ rest) (onto_first x rest) ≡ (x ∷ xs) ∷ []
whole_at true x xs rest n h few = absurd (omega arith)
whole_at false x xs rest n h few = ap (onto_first x) (h (omega arith))

whole_line : (p : ℕ → Bool) (xs : List ℕ) → length xs ≤ position_or_len p xs → slice_split p xs ≡ xs ∷ []
whole_line p [] few = refl
whole_line p (x ∷ xs) few = whole_at (p x) x xs (slice_split p xs) (position_or_len p xs) (whole_line p xs) few

test_none : (b : Bool) (n : ℕ) → cond b (Some n) None ≡ None → b ≡ false
test_none true n e = cc
test_none false n e = refl

pub cut_none : (p : ℕ → Bool) (xs : List ℕ) → position p xs ≡ None → slice_split p xs ≡ xs ∷ []
cut_none p xs e = let past : nat_lt (position_or_len p xs) (length xs) ≡ false = test_none _ _ e in whole_line p xs (ltb-false _ _ past)

pub cut_some : (p : ℕ → Bool) (xs : List ℕ) (n : ℕ) → position p xs ≡ Some n → slice_split p xs ≡ take n xs ∷ slice_split p (drop (n + 1) xs)
cut_some p xs n e =
    let found = cond_some (nat_lt (position_or_len p xs) (length xs)) (position_or_len p xs) n e in
    slice_split_first p xs 0 (ltb-true _ _ found.0) ∙ ap (λ k. take k xs ∷ slice_split p (drop (k + 1) xs)) found.1

-- ---- the first newline

not_true : (b : Bool) → (b ≡ true → ⊥) → b ≡ false
not_true true h = absurd (h refl)
not_true false h = refl

none_at : (n m : ℕ) (b : Bool) → nat_lt n m ≡ b → n ≡ m → None ≡ cond b (Some n) None
none_at n m true e same = let below = ltb-true n m e in absurd (omega (arith, below, same))
none_at n m false e same = refl

some_at : (n m k : ℕ) (b : Bool) → nat_lt n m ≡ b → n ≡ k → k < m → Some k ≡ cond b (Some n) None
some_at n m k true e same below = ap Some (sym same)
some_at n m k false e same below = let past = ltb-false n m e in absurd (omega (arith, past, same, below))

-- a search that finds the first newline finds its place
pub newline_is : (xs : List ℕ) (r : Option ℕ) → IsFirstByte (is_byte 10) xs r → r ≡ position (λ b. b == 10) xs
newline_is xs None h =
    let at = position_or_len_is (λ b. b == 10) xs (length xs) 0 (omega arith) (λ k below. not_true _ (h k (omega arith) below)) (λ past. absurd (omega (arith, past))) in
    none_at _ _ _ refl at
newline_is xs (Some k) h =
    let at = position_or_len_is (λ b. b == 10) xs k 0 (omega (arith, h.0.high)) (λ i below. not_true _ (h.0.before i (omega arith) below)) (λ within. h.1) in
    some_at _ _ _ _ refl at h.0.high

-- ---- UTF-8

json_if : (b : Bool) (d : Option Data) → b ≡ false → cond b d None ≡ None
json_if true d e = cc
json_if false d e = refl

pub json_none : (line : List ℕ) → (IsUtf8 line → ⊥) → json_of line ≡ None
json_none line h = json_if (is_utf8 line) (read line) (not_true (is_utf8 line) (λ e. h (IsUtf8-from_is_utf8 line e)))
