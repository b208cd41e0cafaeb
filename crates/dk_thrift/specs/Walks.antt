-- Walks along the fields of a struct, and along lists.
use Rattle.std.specs.Prelude.{◌≡◌, ◌++◌, ℕ, Ok, List}
use Rattle.dk_grammar.specs.Thrift.{Front, ◌>>=◌}
use Rattle.dk_grammar.specs.Structs.{FieldValues, Meaning, fields_from}
use Rattle.dk_thrift.specs.Reading.{Reading}

-- values done, and then those of a front
abbrev pub after : {A : Type 0} → List A → Front (List A) → Front (List A)
after done front = front >>= λ x. Ok (done ++ x.0, x.1)

-- A walk along the fields of a struct: what is done, then what is left, is the whole.
pub record Walks {V X : Type 0} (meaning : Meaning V) (view : FieldValues V → X) (most : ℕ) (old new : Reading) (x : X) (whole : Front (FieldValues V)) : Type 0 where
  pub done : FieldValues V
  pub seen : x ≡ view done
  pub left : after done (fields_from meaning most new.last new.rest) ≡ whole
  pub size : new.size ≡ old.size
