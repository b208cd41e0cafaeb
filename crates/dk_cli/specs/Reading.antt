-- Why the input was not read to its end, and how much of it was taken.
use Rattle.std.specs.Prelude.{◌≡◌, ◌≤◌, ◌+◌, ℕ, List, Option, Some, None, length}
use Rattle.dk_engine.specs.declared.limits.Limits.{Limits}
use Rattle.dk_cli.specs.declared.input.Unread.{Unread}
use Rattle.dk_cli.specs.declared.input.Unread.TheVariants as unread
use Rattle.dk_cli.specs.Input.{first_passed}

-- the cause is the first limit that the input passes; a fault of the source is shown by its count, and want of memory is free
abbrev pub StopsReading : Limits → Unread → List ℕ → Type 0
StopsReading limits unread.Source left = Unit {0}
StopsReading limits (unread.Limit which) left = first_passed limits left ≡ Some which
StopsReading limits unread.OutOfMemory left = Unit {0}

-- of the bytes that were left at most so many are gone, where the source tells them
abbrev pub TakesAtMost : ℕ → Option (List ℕ) → Option (List ℕ) → Type 0
TakesAtMost most (Some left) (Some rest) = length left ≤ length rest + most
TakesAtMost most None rest = Unit {0}
TakesAtMost most left None = Unit {0}
