-- What the methods of str give, by the definitions on lists.
use Rattle.std.proofs.Common.{◌≡◌, ◌≢◌, ℕ, List, [], ◌∷◌, ◌++◌, refl, arith, eq-eqb, sym, inl, inr}
use Rattle.std.specs.Prelude.{Option, Some, None, MatchOption, option_copied}
use Rattle.std.specs.Borrow.{Bor}
use Rattle.std.specs.Str.Pattern.{FindsTextPrefix, FindsCharPrefix, StripsPrefix}
use Rattle.std.proofs.lemmas.Bool.Decides.{eqb_tells}
use Rattle.std.proofs.lemmas.Str.Pattern.{strip_prefix_char}
use Rattle.dk_store.specs.Listing.{behind}

pub behind-append : (n y : List ℕ) → behind n (n ++ y) ≡ Some y
behind-append [] y = refl
behind-append (p ∷ ps) y = rw (eq-eqb p p refl) (behind-append ps y)

pub behind-none : (n s : List ℕ) → ((rest : List ℕ) → s ≢ n ++ rest) → behind n s ≡ None
behind-none [] s h = absurd (h s refl)
behind-none (p ∷ ps) [] h = refl
behind-none (p ∷ ps) (b ∷ bs) h = elim (eqb_tells p b) [
  | inl t ↦ rw t.0 (behind-none ps bs (λ rest e. h rest (let same : p ≡ b = t.1 in cc)))
  | inr f ↦ rw f.0 refl
]

-- strip_prefix at a text
pub behind_text : (n s : List ℕ) (r : Option (Bor (List ℕ))) → MatchOption r (FindsTextPrefix n s None) (λ x. StripsPrefix (FindsTextPrefix n) s x.now) → option_copied r ≡ behind n s
behind_text n s None h = sym (behind-none n s h)
behind_text n s (Some x) (k, f, e, l) = let whole : s ≡ n ++ x.now = rw e f.1 in rw whole (sym (behind-append n x.now))

behind_slash-case : (s : List ℕ) (r : Option (Bor (List ℕ))) → MatchOption r ((rest : List ℕ) → s ≢ 47 ∷ rest) (λ x. s ≡ 47 ∷ x.now) → option_copied r ≡ behind (47 ∷ []) s
behind_slash-case s None h = sym (behind-none (47 ∷ []) s h)
behind_slash-case s (Some x) e = rw e refl

-- strip_prefix at a slash
pub behind_slash : (s : List ℕ) (r : Option (Bor (List ℕ))) → MatchOption r (FindsCharPrefix 47 s None) (λ x. StripsPrefix (FindsCharPrefix 47) s x.now) → option_copied r ≡ behind (47 ∷ []) s
behind_slash s r h = behind_slash-case s r (strip_prefix_char 47 s r h (omega arith))
