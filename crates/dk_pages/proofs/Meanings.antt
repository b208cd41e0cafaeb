-- What a field's value means, from what its bytes begin with.
use Rattle.std.proofs.Common.{◌≡◌, ℕ, true, ℤ, Some, Ok, List, refl, ap, ◌∙◌}
use Rattle.dk_thrift.specs.Reading.{Reading}
use Rattle.dk_grammar.specs.Structs.{FieldValues, number_meaning, struct_at}
use Rattle.dk_grammar.specs.PageHeaders.{inner, is_inner, part_meaning}

pub inner_counts : (id : ℤ) (kind : ℕ) (bytes rest : List ℕ) (numbers : FieldValues ℤ) → is_inner id ≡ true → kind ≡ 12 → struct_at number_meaning bytes ≡ Ok (numbers, rest)
    → part_meaning id kind bytes ≡ Ok (Some (inner numbers), rest)
inner_counts id kind bytes rest numbers t k e = rw (t, k, e) refl

-- the outer struct goes on where the inner one ended
pub goes_on : (old now : Reading) (size : ℕ) (rest : List ℕ) (last : ℤ) → now ≡ record { size = size; rest = rest; last = last } → size ≡ old.size → last ≡ old.last → now ≡ record old { rest = now.rest }
goes_on old now size rest last e s l = e ∙ rw (ap (λ reading. reading.rest) e, s, l) refl
