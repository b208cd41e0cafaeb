-- Steps through what bytes begin with, and what each front keeps.
use Rattle.std.proofs.Common.{◌≡◌, ℕ, ◌/◌, ◌%◌, Bool, true, false, cond, ◌==◌, ℤ, pos, ◌+ℤ◌, List, [], ◌∷◌, Result, Ok, Err, ◌⊎◌, inl, inr, refl, subst}
use Rattle.dk_grammar.specs.Thrift.{◌>>=◌, bad_at, field_at, whole_at, id_at, is_id, is_kind}
use Rattle.dk_grammar.specs.declared.thrift.Field.{Field}
use Rattle.dk_grammar.specs.declared.thrift.Field.TheVariants.{End, Next}
use Rattle.dk_grammar.specs.declared.thrift.Flaw.{Flaw}

-- a choice gives what its side gives
pub choice : {A : Type 0} (b : Bool) (x y z : A) → cond b x y ≡ z → ((b ≡ true) × (x ≡ z)) ⊎ ((b ≡ false) × (y ≡ z))
choice true x y z h = inl (refl, h)
choice false x y z h = inr (refl, h)

-- a value behind a front stands behind a value of it
pub bound : {A B : Type 0} (front : Result A Flaw) (f : A → Result B Flaw) (y : B) → (front >>= f) ≡ Ok y → (x : A) × (front ≡ Ok x) × (f x ≡ Ok y)
bound (Ok x) f y h = (x, refl, h)
bound (Err flaw) f y h = cc

abbrev pub ok : {A : Type 0} → A → Result A Flaw
ok x = Ok x

pub ok_is : {A : Type 0} (x y : A) → ok x ≡ ok y → x ≡ y
ok_is x y h = cc

pub bad_is_not_ok : {A : Type 0} (bytes : List ℕ) (y : A) → bad_at bytes ≡ ok y → ⊥
bad_is_not_ok bytes y h = cc

id_in_range : (bytes : List ℕ) (y : ℤ × List ℕ) → id_at bytes ≡ Ok y → is_id y.0 ≡ true
id_in_range bytes y h =
    let b = bound (whole_at bytes) _ y h in
    elim (choice (is_id b.0.0) (ok b.0) _ (ok y) b.2) [
      | inl c ↦ subst (λ x. is_id x.0 ≡ true) (ok_is b.0 y c.1) c.0
      | inr c ↦ absurd (bad_is_not_ok bytes y c.1)
    ]

-- the id and the kind of a header are in their ranges
abbrev pub InRange : Field → Type 0
InRange End = Unit {0}
InRange (Next id kind) = (is_id id ≡ true) × (is_kind kind ≡ true)

pub header_in_range : (last : ℤ) (bytes : List ℕ) (y : Field × List ℕ) → field_at last bytes ≡ Ok y → InRange y.0
header_in_range last [] y h = cc
header_in_range last (b ∷ bs) y h =
    elim (choice (b == 0) _ _ _ h) [
      | inl c ↦ subst (λ x. InRange x.0) (ok_is _ y c.1) tt
      | inr c ↦ elim (choice (is_kind (b % 16)) _ _ _ c.1) [
        | inl kind ↦ elim (choice (b / 16 == 0) _ _ _ kind.1) [
          | inl full ↦ (let x = bound (id_at bs) _ y full.1 in subst (λ x. InRange x.0) (ok_is _ y x.2) (id_in_range bs x.0 x.1, kind.0))
          | inr short ↦ elim (choice (is_id (last +ℤ pos (b / 16))) _ _ _ short.1) [
            | inl id ↦ subst (λ x. InRange x.0) (ok_is _ y id.1) (id.0, kind.0)
            | inr out ↦ absurd (bad_is_not_ok (b ∷ bs) y out.1)
          ]
        ]
        | inr other ↦ absurd (bad_is_not_ok (b ∷ bs) y other.1)
      ]
    ]
