-- One entry more, and what is left of a dictionary's body then.
use Rattle.std.proofs.Common.{◌≡◌, ℕ, suc, ◌+◌, ◌-◌, ◌<◌, Option, Some, None, option_map, option_and_then, List, [], ◌∷◌, ◌++◌, refl, sym, ap, ◌∙◌, append_assoc, arith}
use Rattle.dk_pages.specs.declared.dictionary.Physical.{Physical}
use Rattle.dk_pages.specs.Entries.{entry_at, entries_at, entries_then}

left_over : (n i : ℕ) → i < n → n - i ≡ suc (n - (i + 1))
left_over n i h = omega arith

one_taken : (done : List (List ℕ)) (entry : List ℕ) (left : Option (List (List ℕ) × List ℕ))
    → entries_then done (option_map (λ more. (entry ∷ more.0, more.1)) left) ≡ entries_then (done ++ (entry ∷ [])) left
one_taken done entry None = refl
one_taken done entry (Some x) = ap (λ entries. Some (entries, x.1)) (sym (append_assoc done (entry ∷ []) x.0))

module _ (kind : Physical) (n i : ℕ) (done : List (List ℕ)) (rest : List ℕ) (whole : Option (List (List ℕ) × List ℕ)) (h : i < n) (w : entries_then done (entries_at kind (n - i) rest) ≡ whole) where
  first : entries_then done (option_and_then (λ x. option_map (λ more. (x.0 ∷ more.0, more.1)) (entries_at kind (n - (i + 1)) x.1)) (entry_at kind rest)) ≡ whole
  first = ap (λ m. entries_then done (entries_at kind m rest)) (sym (left_over n i h)) ∙ w

  pub entry_missing : entry_at kind rest ≡ None → whole ≡ None
  entry_missing e = sym first ∙ rw e refl

  pub entry_taken : (entry behind : List ℕ) → entry_at kind rest ≡ Some (entry, behind) → entries_then (done ++ (entry ∷ [])) (entries_at kind (n - (i + 1)) behind) ≡ whole
  entry_taken entry behind e = sym (one_taken done entry (entries_at kind (n - (i + 1)) behind)) ∙ (rw e at first)
