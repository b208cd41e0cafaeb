-- How far decoding has come: values and bytes that are done, and what is left of both.
use Rattle.std.proofs.Common.{◌≡◌, ℕ, zero, suc, ◌-◌, ◌^◌, ◌<◌, ◌≤◌, List, [], ◌∷◌, ◌++◌, length, take, drop, refl, sym, ap, subst, ◌∙◌, arith}
use Rattle.std.proofs.Math.Nat.{zero-sub, sub-zero, suc-sub-suc}
use Rattle.std.proofs.lemmas.List.{append_assoc, append-nil, length-append, length-take, length-take-le, take_at, take-append-drop}
use Rattle.std.specs.List.{flat_map}
use Rattle.dk_grammar.specs.Varint.{IsVarint}
use Rattle.dk_grammar.specs.Runs.{Run as Meant, values_in, header_of, IsRun, AreFirst, BeginRun, EndShort}
use Rattle.dk_grammar.proofs.Runs.{first_again, short_has_none}
use Rattle.dk_hybrid.specs.Runs.{kept_values, KeepsRun}
use Rattle.dk_hybrid.specs.declared.run.Run.{Run}

pub take_both : (n : ℕ) (xs ys : List ℕ) → take n (xs ++ ys) ≡ take n xs ++ take (n - length xs) ys
take_both zero xs ys = ap (λ k. take k ys) (sym (zero-sub (length xs)))
take_both (suc n) [] ys = ap (λ k. take k ys) (sym (sub-zero (suc n)))
take_both (suc n) (x ∷ xs) ys = ap (λ zs. x ∷ zs) (take_both n xs ys) ∙ ap (λ k. x ∷ (take n xs ++ take k ys)) (sym (suc-sub-suc n (length xs)))

-- Whatever first values the rest has, the values so far and these are the first of all; and where the rest ends short, so does the whole.
pub record Continues (width count : ℕ) (bytes values rest : List ℕ) : Type 0 where
  pub front : List ℕ
  pub whole : bytes ≡ front ++ rest
  pub first : (more tail : List ℕ) → AreFirst width (count - length values) more tail → AreFirst width count (values ++ more) (front ++ tail)
  pub short : EndShort width (count - length values) rest → EndShort width count bytes

-- one run more in front of first values
pub one_more : (width left : ℕ) (meant : Meant) (front added more tail : List ℕ) → 0 < left → IsRun width meant front → added ≡ take left (values_in meant)
    → AreFirst width (left - length (values_in meant)) more tail → AreFirst width left (added ++ more) (front ++ tail)
one_more width left meant front added more tail some is values rest = record {
  runs = meant ∷ rest.runs;
  spelled = (front, tail, refl, is, rest.spelled);
  needed = (some, rest.needed);
  first = ap (λ xs. xs ++ more) values ∙ ap (λ xs. take left (values_in meant) ++ xs) rest.first
      ∙ sym (take_both left (values_in meant) (flat_map values_in rest.runs));
}

-- one run more in front of bytes that end short
one_before : (width left : ℕ) (meant : Meant) (bytes front rest : List ℕ) → IsRun width meant front → bytes ≡ front ++ rest
    → EndShort width (left - length (values_in meant)) rest → EndShort width left bytes
one_before width left meant bytes front rest is whole short = record {
  runs = meant ∷ short.runs;
  front = front ++ short.front;
  rest = short.rest;
  whole = whole ∙ ap (λ xs. front ++ xs) short.whole ∙ sym (append_assoc front short.front short.rest);
  spelled = (front, short.front, refl, is, short.spelled);
  fewer = omega (arith, short.fewer, length-append (values_in meant) (flat_map values_in short.runs));
  begun = short.begun;
}

left_after : (count : ℕ) (values added run : List ℕ) → added ≡ take (count - length values) run → count - length (values ++ added) ≡ count - length values - length run
left_after count values added run is =
    omega (arith, length-append values added, ap length is, length-take (count - length values) run)

pub advance : (width count : ℕ) (bytes values rest : List ℕ) (run : Run) (after new : List ℕ) → length values < count → count < 2 ^ 64 → Continues width count bytes values rest
    → KeepsRun width rest run after → new ≡ values ++ take (count - length values) (kept_values width run) → Continues width count bytes new after
advance width count bytes values rest run after new some fits before stands is =
    let left : ℕ = count - length values in
    let added : List ℕ = take left (values_in stands.meant) in
    let now : new ≡ values ++ added = is ∙ ap (λ xs. values ++ xs) (sym (stands.same left (omega arith))) in
    let next : count - length new ≡ left - length (values_in stands.meant) = ap (λ xs. count - length xs) now ∙ left_after count values added (values_in stands.meant) refl in
    record {
      front = before.front ++ stands.front;
      whole = before.whole ∙ ap (λ xs. before.front ++ xs) stands.whole ∙ sym (append_assoc before.front stands.front after);
      first = λ more tail first.
          let values_so_far : new ++ more ≡ values ++ (added ++ more) = ap (λ xs. xs ++ more) now ∙ append_assoc values added more in
          let here = one_more width left stands.meant stands.front added more tail (omega arith) stands.is refl (subst (λ n. AreFirst width n more tail) next first) in
          let all = before.first (added ++ more) (stands.front ++ tail) here in
          subst (λ xs. AreFirst width count xs ((before.front ++ stands.front) ++ tail)) (sym values_so_far)
          (subst (λ xs. AreFirst width count (values ++ (added ++ more)) xs) (sym (append_assoc before.front stands.front tail)) all);
      short = λ short. before.short (one_before width left stands.meant rest stands.front after stands.is stands.whole (subst (λ n. EndShort width n after) next short));
    }

nonempty : (bytes : List ℕ) (n : ℕ) → IsVarint bytes n → 0 < length bytes
nonempty [] n is = absurd is
nonempty (b ∷ bytes) n is = omega arith

pub shorter : (width : ℕ) (bytes : List ℕ) (run : Run) (rest : List ℕ) → KeepsRun width bytes run rest → length rest < length bytes
shorter width bytes run rest stands =
    omega (
      arith,
      ap length stands.whole,
      length-append stands.front rest,
      ap length stands.is.whole,
      length-append stands.is.header stands.is.body,
      nonempty stands.is.header (header_of stands.meant) stands.is.number,
    )

-- nothing more is wanted
pub record Found (width count : ℕ) (bytes values : List ℕ) (used : ℕ) : Type 0 where
  pub within : used ≤ length bytes
  pub first : AreFirst width count values (take used bytes)

pub ends : (width count : ℕ) (bytes values rest : List ℕ) → count ≤ length values → Continues width count bytes values rest → Found width count bytes values (length bytes - length rest)
ends width count bytes values rest enough progress =
    let len = ap length progress.whole ∙ length-append progress.front rest in
    let none : count - length values ≡ 0 = omega arith in
    let no_more : AreFirst width (count - length values) [] [] = record { runs = []; spelled = refl; needed = none; first = ap (λ n. take n []) (sym none) } in
    let all = progress.first [] [] no_more in
    let used : length bytes - length rest ≡ length progress.front = omega (arith, len) in
    let front : take (length bytes - length rest) bytes ≡ progress.front ++ [] =
    ap (λ n. take n bytes) used ∙ ap (take (length progress.front)) progress.whole ∙ take_at progress.front rest (length progress.front) refl ∙ sym (append-nil progress.front) in
    record {
      within = omega arith;
      first = subst (λ xs. AreFirst width count xs (take (length bytes - length rest) bytes)) (append-nil values) (subst (λ xs. AreFirst width count (values ++ []) xs) (sym front) all);
    }

pub stops : (width count : ℕ) (bytes values rest : List ℕ) → length values < count → BeginRun width rest → Continues width count bytes values rest → EndShort width count bytes
stops width count bytes values rest fewer begun progress =
    progress.short (record { runs = []; front = []; rest = rest; whole = refl; spelled = refl; fewer = omega arith; begun = begun })

-- first values are answered where there are any
pub only : (width count : ℕ) (bytes values : List ℕ) (used : ℕ) → Found width count bytes values used
    → (others front rest : List ℕ) → AreFirst width count others front → bytes ≡ front ++ rest → ◌≡◌ {A = List ℕ × ℕ} (values, used) (others, length front)
only width count bytes values used found others front rest first whole =
    let apart : take used bytes ++ drop used bytes ≡ front ++ rest = take-append-drop used bytes ∙ whole in
    let same = first_again width count values others (take used bytes) front (drop used bytes) rest found.first first apart in
    let len : used ≡ length front = sym (length-take-le used bytes found.within) ∙ ap length same.0 in
    ap (λ xs. (xs, used)) same.1 ∙ ap (λ n. (others, n)) len

pub ended : (width count : ℕ) (bytes values : List ℕ) (used : ℕ) → Found width count bytes values used → EndShort width count bytes → ⊥
ended width count bytes values used found short =
    short_has_none width count values bytes (take used bytes) (drop used bytes) short found.first (sym (take-append-drop used bytes))
