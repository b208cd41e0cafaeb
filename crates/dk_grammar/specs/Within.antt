-- Where reading leads: what is left lies at the end of the bytes, and so does the place of a flaw.
use Rattle.std.specs.Prelude.{ℕ, ◌≤◌, Result, Ok, Err, List, length}
use Rattle.dk_grammar.specs.declared.thrift.Flaw.{Flaw}
use Rattle.dk_grammar.specs.declared.thrift.Flaw.TheVariants.{Short, BadType, TooDeep}

-- how many bytes are left from the place of a flaw on
abbrev pub left_of : Flaw → ℕ
left_of Short = 0
left_of (BadType left) = left
left_of (TooDeep left) = left

-- what is left is no longer than the bytes
abbrev pub Within : {A : Type 0} → (A → List ℕ) → List ℕ → Result A Flaw → Type 0
Within rest bytes (Ok x) = length (rest x) ≤ length bytes
Within rest bytes (Err flaw) = left_of flaw ≤ length bytes
