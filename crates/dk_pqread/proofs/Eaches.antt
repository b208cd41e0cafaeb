-- Each number of a list turned into a value, one after another.
use Rattle.std.proofs.Common.{◌≡◌, ℕ, zero, suc, ◌+◌, ◌<◌, ◌≤◌, Option, Some, None, slice_get, map, List, [], ◌∷◌, ◌++◌, length, get_or, drop, drop-cons, add-one, refl, sym, ap, ◌∙◌, append_assoc, arith}
use Rattle.std.specs.Option.{option_map}
use Rattle.dk_pqmodel.specs.Datum.{Value}
use Rattle.dk_pqmodel.specs.declared.columns.Value as code
use Rattle.dk_pqmodel.specs.Footer.{each_of}

-- values done, and then those of the numbers that are left
abbrev pub each_then : List Value → Option (List Value) → Option (List Value)
each_then done left = option_map (λ more. done ++ more) left

one_more : (done : List Value) (v : Value) (left : Option (List Value)) → each_then done (option_map (λ ys. v ∷ ys) left) ≡ each_then (done ++ v ∷ []) left
one_more done v None = refl
one_more done v (Some more) = ap Some (sym (append_assoc done (v ∷ []) more))

module _ (f : ℕ → Option Value) (numbers : List ℕ) (i : ℕ) (done : List Value) (whole : Option (List Value)) (h : i < length numbers) (left : each_then done (each_of f (drop i numbers)) ≡ whole) where
  opened : each_then done (each_of f (get_or numbers i 0 ∷ drop (i + 1) numbers)) ≡ whole
  opened = ap (λ ns. each_then done (each_of f ns)) (sym (drop-cons numbers i 0 h ∙ ap (λ n. get_or numbers i 0 ∷ drop n numbers) (sym (add-one i)))) ∙ left

  pub each_more : (v : Value) (now : List Value) → f (get_or numbers i 0) ≡ Some v → now ≡ done ++ v ∷ [] → each_then now (each_of f (drop (i + 1) numbers)) ≡ whole
  each_more v now e pushed =
      ap (λ x. each_then x (each_of f (drop (i + 1) numbers))) pushed ∙ sym (one_more done v (each_of f (drop (i + 1) numbers))) ∙ (rw e at opened)

  pub each_missing : f (get_or numbers i 0) ≡ None → whole ≡ None
  each_missing e = sym (rw e at opened)

-- ---- entries at places

pub no_entry : (f : code.Value → Value) (entries : List code.Value) (k : ℕ) → length entries ≤ k → slice_get (map f entries) k ≡ None
no_entry f [] k h = refl
no_entry f (x ∷ xs) zero h = absurd (omega arith)
no_entry f (x ∷ xs) (suc k) h = no_entry f xs k (omega arith)

pub entry_there : (f : code.Value → Value) (entries : List code.Value) (k : ℕ) (v : code.Value) → k < length entries → v ≡ get_or entries k v → slice_get (map f entries) k ≡ Some (f v)
entry_there f [] k v h is = absurd (omega arith)
entry_there f (x ∷ xs) zero v h is = ap (λ y. Some (f y)) (sym is)
entry_there f (x ∷ xs) (suc k) v h is = entry_there f xs k v (omega arith) is
