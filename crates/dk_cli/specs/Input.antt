-- The limits on the input, and which of them its bytes pass first.
use Rattle.std.specs.Prelude.{ℕ, zero, suc, ◌+◌, ◌==◌, not, nat_lt, if◌then◌else◌, List, length, take, reverse, Option, Some, None}
use Rattle.std.specs.List.{count_by, take_while}
use Rattle.std.specs.Option.{option_or}
use Rattle.dk_engine.specs.declared.limits.Limits.{Limits}
use Rattle.dk_engine.specs.declared.limits.Which.{Which}
use Rattle.dk_engine.specs.declared.limits.Which.TheVariants.{Input, InputLine, InputLines}

-- the length of the line that is being read after these bytes: what stands behind the last newline
abbrev pub line_length : List ℕ → ℕ
line_length bytes = length (take_while (λ b. not (b == 10)) (reverse bytes))

-- How many lines have begun: each newline ends one, and bytes behind the last newline begin another.
abbrev pub lines_begun : List ℕ → ℕ
lines_begun bytes = count_by (λ b. b == 10) bytes + (if line_length bytes == 0 then 0 else 1)

-- the first limit of the table that these bytes pass
abbrev pub passed : Limits → List ℕ → Option Which
passed limits bytes =
    if nat_lt limits.input (length bytes) then Some Input
    else if nat_lt limits.line (line_length bytes) then Some InputLine
    else if nat_lt limits.lines (lines_begun bytes) then Some InputLines
    else None

-- the limit that the shortest beginning passes, of those with more than `size` bytes and at most `count` more
abbrev pub first_passed_from : Limits → ℕ → ℕ → List ℕ → Option Which
first_passed_from limits size zero bytes = None
first_passed_from limits size (suc count) bytes = option_or (passed limits (take (suc size) bytes)) (first_passed_from limits (suc size) count bytes)

-- the limit that the bytes pass first, byte by byte
abbrev pub first_passed : Limits → List ℕ → Option Which
first_passed limits bytes = first_passed_from limits 0 (length bytes) bytes
