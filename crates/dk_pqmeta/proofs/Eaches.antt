-- Values of a list, one after another: those done and those left are all.
use Rattle.std.proofs.Common.{◌≡◌, ℕ, suc, ◌+◌, ◌-◌, ◌<◌, List, [], ◌∷◌, ◌++◌, Ok, Err, IsErr, refl, sym, ap, subst, ◌∙◌, append_assoc, arith}
use Rattle.dk_grammar.specs.Thrift.{Front, ◌>>=◌}
use Rattle.dk_grammar.specs.Lists.{each_at}
use Rattle.dk_thrift.specs.Walks.{after}
use Rattle.dk_thrift.proofs.Walking.{flaw_stays}

left_over : (n i : ℕ) → i < n → n - i ≡ suc (n - (i + 1))
left_over n i h = omega arith

one_done : {A : Type 0} (done : List A) (x : A) (front : Front (List A)) → after done (front >>= λ more. Ok (x ∷ more.0, more.1)) ≡ after (done ++ (x ∷ [])) front
one_done done x (Ok more) = ap (λ xs. Ok (xs, more.1)) (sym (append_assoc done (x ∷ []) more.0))
one_done done x (Err flaw) = refl

module _ {A : Type 0} (read : List ℕ → Front A) (n i : ℕ) (done : List A) (bytes : List ℕ) (whole : Front (List A)) (h : i < n) (w : after done (each_at read (n - i) bytes) ≡ whole) where
  first : after done (read bytes >>= λ x. each_at read (n - (i + 1)) x.1 >>= λ more. Ok (x.0 ∷ more.0, more.1)) ≡ whole
  first = ap (λ m. after done (each_at read m bytes)) (sym (left_over n i h)) ∙ w

  pub each_flaw : IsErr (read bytes) → IsErr whole
  each_flaw flaw = subst (λ r. IsErr r) first (flaw_stays (read bytes >>= λ x. each_at read (n - (i + 1)) x.1 >>= λ more. Ok (x.0 ∷ more.0, more.1)) (λ y. Ok (done ++ y.0, y.1)) (flaw_stays (read bytes) _ flaw))

  pub each_goes_on : (x : A) (next : List ℕ) → read bytes ≡ Ok (x, next) → after (done ++ (x ∷ [])) (each_at read (n - (i + 1)) next) ≡ whole
  each_goes_on x next e = sym (one_done done x (each_at read (n - (i + 1)) next)) ∙ (rw e at first)
