-- What a reader reaches lies within its bytes.
use Rattle.std.proofs.Common.{◌≡◌, ℕ, ◌≤◌, List, length, Result, Ok, Err, arith}
use Rattle.dk_grammar.specs.Within.{Within, left_of}
use Rattle.dk_grammar.specs.declared.thrift.Flaw.{Flaw}

pub value_in : {A : Type 0} (rest : A → List ℕ) (size : ℕ) (bytes : List ℕ) (r : Result A Flaw) (x : A) → Within rest bytes r → length bytes ≤ size → r ≡ Ok x → length (rest x) ≤ size
value_in rest size bytes r x w h e = let v : length (rest x) ≤ length bytes = rw e at w in omega arith

pub flaw_in : {A : Type 0} (rest : A → List ℕ) (size : ℕ) (bytes : List ℕ) (r : Result A Flaw) (flaw : Flaw) → Within rest bytes r → length bytes ≤ size → r ≡ Err flaw → left_of flaw ≤ size
flaw_in rest size bytes r flaw w h e = let v : left_of flaw ≤ length bytes = rw e at w in omega arith
