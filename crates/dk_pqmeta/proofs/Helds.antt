-- The values of a struct's fields of one sort, where one field more stands at the end.
use Rattle.std.proofs.Common.{◌≡◌, ℕ, ◌==◌, true, false, ℤ, Option, Some, Ok, IsErr, List, [], ◌∷◌, ◌++◌, option_map, refl, sym, ap, ◌∙◌, append_assoc}
use Rattle.std.proofs.lemmas.Bool.{and_parts}
use Rattle.std.proofs.lemmas.List.{append-nil}
use Rattle.std.specs.Ordering.{int_eq}
use Rattle.dk_grammar.specs.Thrift.{Front}
use Rattle.dk_grammar.proofs.LastUnder.{last_more}
use Rattle.dk_grammar.specs.Structs.{FieldValues, Meaning, last_under}
use Rattle.dk_grammar.specs.Lists.{Either, held, other, is_held, held_or, own_held, own_other, held_in, others_in}
use Rattle.dk_pqmodel.specs.Footer.{held_under, number_under}
use Rattle.dk_pqmeta.specs.Kept.{new_at}
use Rattle.dk_thrift.proofs.Walking.{flaw_stays}

pub held_more : {A B : Type 0} (done : FieldValues (Either A B)) (id : ℤ) (x : A) → held_in (done ++ ((id, held x) ∷ [])) ≡ held_in done ++ ((id, x) ∷ [])
held_more [] id x = append-nil _
held_more (y ∷ ys) id x = ap (λ more. own_held y.0 y.1 ++ more) (held_more ys id x) ∙ sym (append_assoc (own_held y.0 y.1) (held_in ys) ((id, x) ∷ []))

pub held_same : {A B : Type 0} (done : FieldValues (Either A B)) (id : ℤ) (y : B) → held_in (done ++ ((id, other y) ∷ [])) ≡ held_in done
held_same [] id y = refl
held_same (z ∷ zs) id y = ap (λ more. own_held z.0 z.1 ++ more) (held_same zs id y)

pub others_more : {A B : Type 0} (done : FieldValues (Either A B)) (id : ℤ) (y : B) → others_in (done ++ ((id, other y) ∷ [])) ≡ others_in done ++ ((id, y) ∷ [])
others_more [] id y = append-nil _
others_more (z ∷ zs) id y = ap (λ more. own_other z.0 z.1 ++ more) (others_more zs id y) ∙ sym (append_assoc (own_other z.0 z.1) (others_in zs) ((id, y) ∷ []))

pub others_same : {A B : Type 0} (done : FieldValues (Either A B)) (id : ℤ) (x : A) → others_in (done ++ ((id, held x) ∷ [])) ≡ others_in done
others_same [] id x = refl
others_same (z ∷ zs) id x = ap (λ more. own_other z.0 z.1 ++ more) (others_same zs id x)

-- the same of the last value under an id
pub held_last : {A B : Type 0} (k id : ℤ) (x : A) (done : FieldValues (Either A B)) → held_under k (done ++ ((id, held x) ∷ [])) ≡ new_at k id x (held_under k done)
held_last k id x done = ap (last_under k) (held_more done id x) ∙ last_more k id x (held_in done)

pub held_stays : {A B : Type 0} (k id : ℤ) (y : B) (done : FieldValues (Either A B)) → held_under k (done ++ ((id, other y) ∷ [])) ≡ held_under k done
held_stays k id y done = ap (last_under k) (held_same done id y)

pub number_last : {A : Type 0} (k id z : ℤ) (done : FieldValues (Either A ℤ)) → number_under k (done ++ ((id, other z) ∷ [])) ≡ new_at k id z (number_under k done)
number_last k id z done = ap (last_under k) (others_more done id z) ∙ last_more k id z (others_in done)

pub number_stays : {A : Type 0} (k id : ℤ) (x : A) (done : FieldValues (Either A ℤ)) → number_under k (done ++ ((id, held x) ∷ [])) ≡ number_under k done
number_stays k id x done = ap (last_under k) (others_same done id x)

-- the field that holds the value has its id
pub new_is : {V : Type 0} (wanted : ℤ) (of : ℕ) (id : ℤ) (kind : ℕ) (x : V) (before : Option V) → is_held wanted of id kind ≡ true → new_at wanted id x before ≡ Some x
new_is wanted of id kind x before t = let e : int_eq id wanted ≡ true = (and_parts (int_eq id wanted) (kind == of) t).0 in rw e refl

-- what counts of a field, by whether it is the one that holds the value
module _ {A B : Type 0} (wanted : ℤ) (of : ℕ) (read : List ℕ → Front A) (rest : Meaning B) (id : ℤ) (kind : ℕ) (bytes : List ℕ) where
  pub held_counts : (x : A) (behind : List ℕ) → is_held wanted of id kind ≡ true → read bytes ≡ Ok (x, behind) → held_or wanted of read rest id kind bytes ≡ Ok (Some (held x), behind)
  held_counts x behind t e = rw (t, e) refl

  pub held_flaw : is_held wanted of id kind ≡ true → IsErr (read bytes) → IsErr (held_or wanted of read rest id kind bytes)
  held_flaw t flaw = rw t (flaw_stays (read bytes) _ flaw)

  pub other_counts : (y : Option B) (behind : List ℕ) → is_held wanted of id kind ≡ false → rest id kind bytes ≡ Ok (y, behind) → held_or wanted of read rest id kind bytes ≡ Ok (option_map other y, behind)
  other_counts y behind t e = rw (t, e) refl

  pub other_flaw : is_held wanted of id kind ≡ false → IsErr (rest id kind bytes) → IsErr (held_or wanted of read rest id kind bytes)
  other_flaw t flaw = rw t (flaw_stays (rest id kind bytes) _ flaw)
