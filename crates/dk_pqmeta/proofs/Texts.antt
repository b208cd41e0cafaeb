-- Names are read where they are UTF-8.
use Rattle.std.proofs.Common.{◌≡◌, ℕ, List, Bool, true, false, cond, Ok, IsErr, IsUtf8, refl}
use Rattle.std.proofs.lemmas.Str.{IsUtf8-from_is_utf8, is_utf8-from_IsUtf8}
use Rattle.std.specs.Str.{is_utf8}
use Rattle.dk_grammar.specs.Thrift.{Front, binary_at, bad_at}
use Rattle.dk_pqmeta.specs.Readings.{text_at}

pub name_read : (bytes part rest name : List ℕ) → binary_at bytes ≡ Ok (part, rest) → IsUtf8 part → name ≡ part → text_at bytes ≡ Ok (name, rest)
name_read bytes part rest name e u n = rw (e, is_utf8-from_IsUtf8 part u, n) refl

abbrev or_bad : Bool → List ℕ → List ℕ → List ℕ → Front (List ℕ)
or_bad b part rest bytes = cond b (Ok (part, rest)) (bad_at bytes)

by_test : (b : Bool) (part rest bytes : List ℕ) → is_utf8 part ≡ b → (IsUtf8 part → ⊥) → IsErr (or_bad b part rest bytes)
by_test true part rest bytes t u = absurd (u (IsUtf8-from_is_utf8 part t))
by_test false part rest bytes t u = refl

pub name_refused : (bytes part rest : List ℕ) → binary_at bytes ≡ Ok (part, rest) → (IsUtf8 part → ⊥) → IsErr (text_at bytes)
name_refused bytes part rest e u = rw e (by_test (is_utf8 part) part rest bytes refl u)
