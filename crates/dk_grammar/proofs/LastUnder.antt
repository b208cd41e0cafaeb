-- The last value under an id, where one more stands at the end.
use Rattle.std.proofs.Common.{◌≡◌, ℤ, Option, Some, None, [], ◌∷◌, ◌++◌, refl, ap, ◌∙◌}
use Rattle.std.specs.Ordering.{int_eq}
use Rattle.dk_grammar.specs.Structs.{FieldValues, when, first_of_two, last_under}

or_none : {V : Type 0} (o : Option V) → o ≡ first_of_two o None
or_none (Some x) = refl
or_none None = refl

or_assoc : {V : Type 0} (a b c : Option V) → first_of_two (first_of_two a b) c ≡ first_of_two a (first_of_two b c)
or_assoc (Some x) b c = refl
or_assoc None b c = refl

pub last_more : {V : Type 0} (k id : ℤ) (value : V) (xs : FieldValues V) → last_under k (xs ++ ((id, value) ∷ [])) ≡ first_of_two (when (int_eq id k) value) (last_under k xs)
last_more k id value [] = or_none (when (int_eq id k) value)
last_more k id value (x ∷ xs) = ap (λ o. first_of_two o (when (int_eq x.0 k) x.1)) (last_more k id value xs) ∙ or_assoc (when (int_eq id k) value) (last_under k xs) (when (int_eq x.0 k) x.1)
