-- The number that a run begins with, read from its last byte on.
use Rattle.std.proofs.Common.{◌≡◌, ℕ, suc, ◌+◌, ◌-◌, ◌*◌, ◌^◌, ◌<◌, ◌≤◌, min, List, [], ◌∷◌, length, drop, get_or, None, refl, sym, ap, ◌∙◌, arith}
use Rattle.std.proofs.lemmas.Bool.{lt-ltb, le-ltb}
use Rattle.std.proofs.lemmas.List.{drop_more}
use Rattle.dk_grammar.specs.Varint.{varint_at}
use Rattle.dk_hybrid.specs.Headers.{capped, kept_header, BeginNumber, BeginHeader}
use Rattle.dk_hybrid.specs.declared.header.Header.{Header}

pub capped_more : (kept number low : ℕ) → kept ≡ capped number → low < 128 → min (min (kept * 128) (2 ^ 64 - 1) + low) (2 ^ 64 - 1) ≡ capped (low + 128 * number)
capped_more kept number low is small = omega arith

-- one more byte in front of a number
pub longer_number : (bytes : List ℕ) (i kept byte : ℕ) (rest : List ℕ) → 0 < i → i ≤ length bytes → byte ≡ get_or bytes (i - 1) 0 → 128 ≤ byte → byte < 256
    → BeginNumber (drop i bytes) kept rest → BeginNumber (drop (i - 1) bytes) (min (min (kept * 128) (2 ^ 64 - 1) + (byte - 128)) (2 ^ 64 - 1)) rest
longer_number bytes i kept byte rest some within read large fits begun =
    let before : i - 1 + 1 ≡ i = omega arith in
    let front : drop (i - 1) bytes ≡ byte ∷ drop i bytes =
    drop_more bytes (i - 1) 0 (omega arith) ∙ ap (λ k. get_or bytes (i - 1) 0 ∷ drop k bytes) before ∙ ap (λ b. b ∷ drop i bytes) (sym read) in
    record {
      number = byte - 128 + 128 * begun.number;
      read = ap varint_at front ∙ rw (le-ltb byte 128 large, begun.read) refl;
      kept_as = capped_more kept begun.number (byte - 128) begun.kept_as (omega arith);
    }

pub endless : (bytes : List ℕ) → ((i : ℕ) → i < length bytes → 128 ≤ get_or bytes i 0) → varint_at bytes ≡ None
endless [] large = refl
endless (b ∷ bs) large =
    let first : 128 ≤ b = large 0 (omega arith) in
    let rest = endless bs (λ i h. large (suc i) (omega arith)) in
    rw (le-ltb b 128 first, rest) refl

-- a number of one byte
pub one_byte : (bytes : List ℕ) (first : ℕ) (header : Header) (rest : List ℕ) → bytes ≡ first ∷ rest → first < 128 → header ≡ kept_header (first + 128 * 0) → BeginHeader bytes header rest
one_byte bytes first header rest whole small is = record {
  number = first;
  read = ap varint_at whole ∙ rw (lt-ltb first 128 small) refl;
  kept_as = is ∙ ap kept_header (omega arith);
}
