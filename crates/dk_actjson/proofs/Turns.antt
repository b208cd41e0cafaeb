-- A turn of a loop that reads a list of fields.
use Rattle.std.proofs.Common.{◌≡◌, List, [], ◌∷◌, ◌++◌, Option, Some, None, option_map, refl, sym, ap, append_assoc}

-- the answer, with a front
abbrev pub before : {A : Type 0} → List A → Option (List A) → Option (List A)
before front rest = option_map (λ xs. front ++ xs) rest

pub before-push : {A : Type 0} (front : List A) (x : A) (rest : Option (List A)) → before front (option_map (λ xs. x ∷ xs) rest) ≡ before (front ++ x ∷ []) rest
before-push front x None = refl
before-push front x (Some xs) = ap Some (sym (append_assoc front (x ∷ []) xs))

pub before-none : {A : Type 0} (rest : Option (List A)) → rest ≡ before [] rest
before-none None = refl
before-none (Some xs) = refl
