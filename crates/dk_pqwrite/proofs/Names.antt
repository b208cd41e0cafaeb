-- No two of one name, however they are counted.
use Rattle.std.proofs.Common.{◌≡◌, ℕ, Bool, true, false, not, List, [], ◌∷◌, ◌++◌, refl, sym, ◌∙◌}
use Rattle.std.specs.Str.{bytes_eq}
use Rattle.dk_pqmodel.specs.Shape.{Field, Fields, one_field, field_name}
use Rattle.dk_pqmodel.specs.Schema.{is_named}
use Rattle.std.proofs.lemmas.Slice.Eq.{bytes_eq-Decides}
use Rattle.std.proofs.lemmas.Bool.{or_parts, true≢false}

pub same_name : (name : List ℕ) → bytes_eq name name ≡ true
same_name name = (bytes_eq-Decides name name).1 refl

pub names_turned : (xs ys : List ℕ) → bytes_eq xs ys ≡ false → bytes_eq ys xs ≡ false
names_turned xs ys h = by (bytes_eq ys xs) refl
  where
    by : (b : Bool) → bytes_eq ys xs ≡ b → b ≡ false
    by false e = refl
    by true e = absurd (true≢false (sym ((bytes_eq-Decides xs ys).1 (sym ((bytes_eq-Decides ys xs).0 e))) ∙ h))

pub not_true : (b : Bool) → not b ≡ true → b ≡ false
not_true true h = sym h
not_true false h = refl

-- all of a list, one by one
abbrev pub Each : {A : Type 0} → (A → Type 0) → List A → Type 0
Each P [] = Unit {0}
Each P (x ∷ xs) = P x × Each P xs

pub each_append : {A : Type 0} (P : A → Type 0) (xs ys : List A) → Each P xs → Each P ys → Each P (xs ++ ys)
each_append P [] ys h k = k
each_append P (x ∷ xs) ys h k = (h.0, each_append P xs ys h.1 k)

pub each_map : {A : Type 0} {P Q : A → Type 0} → ((x : A) → P x → Q x) → (xs : List A) → Each P xs → Each Q xs
each_map f [] h = tt
each_map f (x ∷ xs) h = (f x h.0, each_map f xs h.1)

pub names_differ : (xs ys : List ℕ) → bytes_eq xs ys ≡ false → xs ≡ ys → ⊥
names_differ xs ys h e = true≢false (sym ((bytes_eq-Decides xs ys).1 e) ∙ h)

pub named_apart : (name : List ℕ) (f : Field) (fs : Fields) → is_named name (one_field f fs) ≡ false → (name ≡ field_name f → ⊥) × (is_named name fs ≡ false)
named_apart name f fs h = let p = or_parts (bytes_eq name (field_name f)) (is_named name fs) h in (names_differ name (field_name f) p.0, p.1)
