-- Where the footer of a file begins.
use Rattle.std.proofs.Common.{◌≡◌, ℕ, ◌+◌, ◌-◌, List, ◌++◌, length, take, slice_range, refl, sym, ap, ◌∙◌, append_assoc, arith, lit<}
use Rattle.std.proofs.Math.Seq.{take-append_seam, drop-append_seam}
use Rattle.std.proofs.lemmas.List.{length-append}
use Rattle.dk_grammar.specs.Digits.{number_of}
use Rattle.dk_grammar.specs.Plain.{little}
use Rattle.dk_grammar.proofs.Digits.{length-digits_of, number_of-digits_of}
use Rattle.dk_pqmodel.specs.FooterBytes.{IsFramed, magic}

sub_is : (m n : ℕ) → (m + n) - m ≡ n
sub_is m n = omega arith

-- the middle of three parts
middle : (front body more : List ℕ) (n : ℕ) → length body ≡ n → slice_range (front ++ (body ++ more)) (length front) (length front + n) ≡ body
middle front body more n e = rw (sub_is (length front) n, drop-append_seam, ← e, take-append_seam) refl

module _ (bytes before part : List ℕ) (framed : IsFramed bytes before part) where
  pub long : length bytes ≡ length before + (length part + 8)
  long =
      let whole : length bytes ≡ length (before ++ (part ++ (little 4 (length part) ++ magic))) = ap length framed.whole in
      let a : length (before ++ (part ++ (little 4 (length part) ++ magic))) ≡ length before + length (part ++ (little 4 (length part) ++ magic)) = length-append before (part ++ (little 4 (length part) ++ magic)) in
      let b : length (part ++ (little 4 (length part) ++ magic)) ≡ length part + length (little 4 (length part) ++ magic) = length-append part (little 4 (length part) ++ magic) in
      let c : length (little 4 (length part) ++ magic) ≡ length (little 4 (length part)) + length magic = length-append (little 4 (length part)) magic in
      let d : length (little 4 (length part)) ≡ 4 = length-digits_of 256 4 (length part) in
      let m : length magic ≡ 4 = refl in
      omega arith

  pub size_is : (end : ℕ) → end ≡ length bytes - 8 → number_of 256 (slice_range bytes end (end + 4)) ≡ length part
  size_is end e =
      let apart : before ++ (part ++ (little 4 (length part) ++ magic)) ≡ (before ++ part) ++ (little 4 (length part) ++ magic) = sym (append_assoc before part (little 4 (length part) ++ magic)) in
      let both : length (before ++ part) ≡ length before + length part = length-append before part in
      let at : end ≡ length (before ++ part) = omega (arith, long) in
      let cut : slice_range bytes end (end + 4) ≡ little 4 (length part) =
      ap (λ xs. slice_range xs end (end + 4)) (framed.whole ∙ apart) ∙ ap (λ n. slice_range ((before ++ part) ++ (little 4 (length part) ++ magic)) n (n + 4)) at
      ∙ middle (before ++ part) (little 4 (length part)) magic 4 (length-digits_of 256 4 (length part)) in
      ap (number_of 256) cut ∙ number_of-digits_of 256 4 (length part) (lit< tt) framed.fits

  pub front_is : (size : ℕ) → size ≡ length part → take (length bytes - 8 - size) bytes ≡ before
  front_is size e =
      let n : length bytes - 8 - size ≡ length before = omega (arith, long) in
      ap (λ m. take m bytes) n ∙ ap (take (length before)) framed.whole ∙ take-append_seam before (part ++ (little 4 (length part) ++ magic))
