-- A number that is written from its lowest seven bits on.
use Rattle.std.proofs.Common.{◌≡◌, ℕ, ◌+◌, ◌*◌, ◌/◌, ◌%◌, ◌<◌, ◌≤◌, List, [], ◌∷◌, ◌++◌, length, ◌∙◌}
use Rattle.dk_grammar.specs.Varint.{IsVarint}
use Rattle.dk_hybrid.specs.Appended.{AppendsNumber}

-- whatever spells the rest, in no more than its share of bytes, makes the number behind what was there
abbrev pub Completes : List ℕ → ℕ → List ℕ → ℕ → Type 0
Completes old number out rest = (tail : List ℕ) → IsVarint tail rest → length tail ≤ 1 + rest / 128 → AppendsNumber number old (out ++ tail)

longer : (b n high : ℕ) (front : List ℕ) → 128 ≤ b → n + 128 ≡ b + 128 * high → IsVarint front high → IsVarint (b ∷ front) n
longer b n high [] h e v = absurd v
longer b n high (c ∷ front) h e v = (h, (high, e, v))
