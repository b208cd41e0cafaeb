-- A part in front of its length, at the end of bytes.
use Rattle.std.proofs.Common.{◌≡◌, ◌≢◌, ℕ, ◌+◌, ◌-◌, ◌<◌, ◌≤◌, ◌^◌, List, ◌++◌, length, take, drop, refl, sym, ap, subst, ◌∙◌, append_assoc, length-drop, lit<, arith, Option, Some, None, MatchOption, Bor}
use Rattle.std.proofs.Math.Seq.{drop-append_seam, take-append_seam}
use Rattle.std.proofs.lemmas.List.{take-append-drop, length-append}
use Rattle.dk_grammar.specs.Digits.{number_of}
use Rattle.dk_grammar.specs.Plain.{little}
use Rattle.dk_pqmodel.specs.FooterBytes.{IsFramed, magic}
use Rattle.dk_grammar.proofs.Digits.{length-digits_of, number_of-digits_of}

all_but : (m n : ℕ) → n ≤ m → m - (m - n) ≡ n
all_but m n h = omega arith

pub part_found : (bytes front last part : List ℕ) (n : ℕ) → bytes ≡ front ++ last → little 4 n ≡ last → n ≤ length front → part ≡ drop (length front - n) front → n < 2 ^ 32
    → (content : List ℕ) × (length part < 2 ^ 32) × (bytes ≡ content ++ (part ++ little 4 (length part)))
part_found bytes front last part n whole spelled fits is small =
    let size : length part ≡ n = ap length is ∙ length-drop (length front - n) front ∙ all_but (length front) n fits in (
      take (length front - n) front,
      subst (λ m. m < 2 ^ 32) (sym size) small,
      whole ∙ ap (λ x. x ++ last) (sym (take-append-drop (length front - n) front)) ∙ append_assoc (take (length front - n) front) (drop (length front - n) front) last
          ∙ ap (λ x. take (length front - n) front ++ x) (ap (λ x. x ++ last) (sym is) ∙ ap (λ x. part ++ x) (sym spelled ∙ ap (little 4) (sym size))),
    )

same_end : (front last other more : List ℕ) → length last ≡ length more → front ++ last ≡ other ++ more → last ≡ more
same_end front last other more l e =
    let a : length (front ++ last) ≡ length front + length last = length-append front last in
    let b : length (other ++ more) ≡ length other + length more = length-append other more in
    let c : length (front ++ last) ≡ length (other ++ more) = ap length e in
    let same : length front ≡ length other = omega arith in
    sym (drop-append_seam front last) ∙ ap (drop (length front)) e ∙ ap (λ n. drop n (other ++ more)) same ∙ drop-append_seam other more

-- a part that stands there has the length that is said
pub part_fits : (bytes front last content part : List ℕ) → bytes ≡ front ++ last → length last ≡ 4 → length part < 2 ^ 32 → bytes ≡ content ++ (part ++ little 4 (length part)) → number_of 256 last ≤ length front
part_fits bytes front last content part whole size small e =
    let four : length (little 4 (length part)) ≡ 4 = length-digits_of 256 4 (length part) in
    let other : bytes ≡ (content ++ part) ++ little 4 (length part) = e ∙ sym (append_assoc content part (little 4 (length part))) in
    let last_is : last ≡ little 4 (length part) = same_end front last (content ++ part) (little 4 (length part)) (size ∙ sym four) (sym whole ∙ other) in
    let n : number_of 256 last ≡ length part = ap (number_of 256) last_is ∙ number_of-digits_of 256 4 (length part) (lit< tt) small in
    let a : length bytes ≡ length front + length last = ap length whole ∙ length-append front last in
    let b : length bytes ≡ length (content ++ part) + length (little 4 (length part)) = ap length other ∙ length-append (content ++ part) (little 4 (length part)) in
    let c : length (content ++ part) ≡ length content + length part = length-append content part in
    omega arith

pub long_enough : (bytes content part : List ℕ) → bytes ≡ content ++ (part ++ little 4 (length part)) → 4 ≤ length bytes
long_enough bytes content part e =
    let four : length (little 4 (length part)) ≡ 4 = length-digits_of 256 4 (length part) in
    let a : length bytes ≡ length content + length (part ++ little 4 (length part)) = ap length e ∙ length-append content (part ++ little 4 (length part)) in
    let b : length (part ++ little 4 (length part)) ≡ length part + length (little 4 (length part)) = length-append part (little 4 (length part)) in
    omega arith

same_front : (front other more : List ℕ) → front ++ more ≡ other ++ more → front ≡ other
same_front front other more e =
    let a : length (front ++ more) ≡ length front + length more = length-append front more in
    let b : length (other ++ more) ≡ length other + length more = length-append other more in
    let c : length (front ++ more) ≡ length (other ++ more) = ap length e in
    let same : length front ≡ length other = omega arith in
    sym (take-append_seam front more) ∙ ap (take (length front)) e ∙ ap (λ n. take n (other ++ more)) same ∙ take-append_seam other more

same_behind : (front last more : List ℕ) → front ++ last ≡ front ++ more → last ≡ more
same_behind front last more e = sym (drop-append_seam front last) ∙ ap (drop (length front)) e ∙ drop-append_seam front more

-- a frame without its first magic
pub behind_magic : (bytes before part behind : List ℕ) (f : IsFramed bytes before part) → bytes ≡ magic ++ behind → behind ≡ (f.content ++ (part ++ little 4 (length part))) ++ magic
behind_magic bytes before part behind f e =
    let size = little 4 (length part) in
    let whole : bytes ≡ magic ++ (f.content ++ (part ++ (size ++ magic))) = f.whole ∙ ap (λ x. x ++ (part ++ (size ++ magic))) f.front ∙ append_assoc magic f.content (part ++ (size ++ magic)) in
    same_behind magic behind (f.content ++ (part ++ (size ++ magic))) (sym e ∙ whole) ∙ ap (λ x. f.content ++ x) (sym (append_assoc part size magic))
    ∙ sym (append_assoc f.content (part ++ size) magic)

pub framed : (bytes behind inside : List ℕ) (r : Option (Bor (List ℕ))) → bytes ≡ magic ++ behind → behind ≡ inside ++ magic
    → MatchOption r ((content part : List ℕ) → length part < 2 ^ 32 → inside ≢ content ++ (part ++ little 4 (length part)))
    (λ part. (content : List ℕ) × (length part.now < 2 ^ 32) × (inside ≡ content ++ (part.now ++ little 4 (length part.now))))
    → MatchOption r ((before part : List ℕ) → IsFramed bytes before part → ⊥) (λ part. (before : List ℕ) × IsFramed bytes before part.now)
framed bytes behind inside None e d m = λ before part f.
    m f.content part f.fits (same_front inside (f.content ++ (part ++ little 4 (length part))) magic (sym d ∙ behind_magic bytes before part behind f e))
framed bytes behind inside (Some part) e d m =
    let content = m.0 in
    let size = little 4 (length part.now) in (
      magic ++ content,
      record {
        content = content;
        front = refl;
        fits = m.1;
        whole =
            e ∙ ap (λ x. magic ++ x) (d ∙ ap (λ x. x ++ magic) m.2 ∙ append_assoc content (part.now ++ size) magic ∙ ap (λ x. content ++ x) (append_assoc part.now size magic))
            ∙ sym (append_assoc magic content (part.now ++ (size ++ magic)));
      },
    )

at_magic : (bytes before part : List ℕ) → IsFramed bytes before part → bytes ≡ ((before ++ part) ++ little 4 (length part)) ++ magic
at_magic bytes before part f =
    let size = little 4 (length part) in
    f.whole ∙ sym (append_assoc before part (size ++ magic)) ∙ sym (append_assoc (before ++ part) size magic)

-- a file has one footer's bytes
pub framed_once : (bytes before part other more : List ℕ) → IsFramed bytes before part → IsFramed bytes other more → part ≡ more
framed_once bytes before part other more f g =
    let size = little 4 (length part) in
    let stated = little 4 (length more) in
    let first : (before ++ part) ++ size ≡ (other ++ more) ++ stated =
    same_front ((before ++ part) ++ size) ((other ++ more) ++ stated) magic (sym (at_magic bytes before part f) ∙ at_magic bytes other more g) in
    let same : size ≡ stated = same_end (before ++ part) size (other ++ more) stated (length-digits_of 256 4 (length part) ∙ sym (length-digits_of 256 4 (length more))) first in
    let long : length part ≡ length more = sym (number_of-digits_of 256 4 (length part) (lit< tt) f.fits) ∙ ap (number_of 256) same ∙ number_of-digits_of 256 4 (length more) (lit< tt) g.fits in
    same_end before part other more long (same_front (before ++ part) (other ++ more) size (first ∙ ap (λ x. (other ++ more) ++ x) (sym same)))
