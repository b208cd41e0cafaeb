-- Bytes hold so many levels in at most one way.
use Rattle.std.proofs.Common.{◌≡◌, ℕ, ◌+◌, ◌*◌, ◌^◌, ◌<◌, ◌≤◌, inl, inr, List, length, replicate, refl, sym, ap, subst, ◌∙◌, add-one, arith}
use Rattle.std.proofs.Math.Pow.{pow_mono}
use Rattle.std.proofs.Math.Nat.{pow-suc}
use Rattle.dk_grammar.specs.Runs.{AreFirst}
use Rattle.dk_grammar.proofs.Runs.{first_again, first_length}
use Rattle.dk_pqmodel.specs.FilePages.{HoldLevels, IsWidth}
use Rattle.dk_pqread.specs.Meanings.{AreLevelsOf, HoldRuns}

narrower : (greatest v w : ℕ) → IsWidth greatest v → IsWidth greatest w → v < w → ⊥
narrower greatest v w first second less =
    let up : 2 ^ (v + 1) ≤ 2 ^ w = pow_mono {i = v + 1} {j = w} (omega arith) in
    let twice : 2 ^ (v + 1) ≡ 2 ^ v * 2 = ap (λ n. 2 ^ n) (add-one v) ∙ pow-suc 2 v in
    omega (arith, up, twice, first.0, second.1)

pub one_width : (greatest v w : ℕ) → IsWidth greatest v → IsWidth greatest w → v ≡ w
one_width greatest v w first second = omega (arith, narrower greatest v w first second, narrower greatest w v second first)

pub runs_once : (width count : ℕ) (bytes a b : List ℕ) → HoldRuns width count bytes a → HoldRuns width count bytes b → a ≡ b
runs_once width count bytes a b first second = (first_again width count a b first.runs second.runs first.over second.over first.first second.first (sym first.whole ∙ second.whole)).1

-- levels above 0 are runs of the one width
pub levels_runs : (greatest width count : ℕ) (bytes levels : List ℕ) → 0 < greatest → IsWidth greatest width → length levels ≡ count → HoldLevels greatest levels bytes → HoldRuns width count bytes levels
levels_runs greatest width count bytes levels some is len (inl h) = absurd (omega (arith, h.0))
levels_runs greatest width count bytes levels some is len (inr h) =
    let same : h.1.width ≡ width = one_width greatest h.1.width width h.1.digits is in
    record {
      runs = h.1.runs;
      over = h.1.over;
      whole = h.1.whole;
      first = subst (λ n. AreFirst width n levels h.1.runs) len (subst (λ w. AreFirst w (length levels) levels h.1.runs) same h.1.first);
    }

pub runs_levels : (greatest width count : ℕ) (bytes levels : List ℕ) → 0 < greatest → IsWidth greatest width → HoldRuns width count bytes levels → AreLevelsOf greatest count bytes levels
runs_levels greatest width count bytes levels some is held =
    let len : length levels ≡ count = first_length width count levels held.runs held.first in
    (len, inr (some, record { width = width; digits = is; runs = held.runs; over = held.over; whole = held.whole; first = subst (λ n. AreFirst width n levels held.runs) (sym len) held.first }))

pub levels_once : (greatest : ℕ) (bytes a b : List ℕ) → length a ≡ length b → HoldLevels greatest a bytes → HoldLevels greatest b bytes → a ≡ b
levels_once greatest bytes a b len (inl first) (inl second) = first.1 ∙ ap (λ n. replicate n 0) len ∙ sym second.1
levels_once greatest bytes a b len (inl first) (inr second) = absurd (omega (arith, first.0, second.0))
levels_once greatest bytes a b len (inr first) (inl second) = absurd (omega (arith, first.0, second.0))
levels_once greatest bytes a b len (inr first) (inr second) =
    let width = first.1.width in
    runs_once width (length b) bytes a b (levels_runs greatest width (length b) bytes a first.0 first.1.digits len (inr first)) (levels_runs greatest width (length b) bytes b first.0 first.1.digits refl (inr second))
