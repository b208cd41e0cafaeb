-- How a reader cuts a text at its newlines, a line at a time.
use Rattle.std.specs.Prelude.{ℕ, List, [], Option, Some, None}
use Rattle.dk_model.specs.CommitText.{lines_of}

-- the lines behind a newline, where there is one
abbrev pub lines_after : Option (List ℕ) → List (List ℕ)
lines_after None = []
lines_after (Some bytes) = lines_of bytes
