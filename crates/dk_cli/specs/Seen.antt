-- What a scan has seen of the input.
use Rattle.std.specs.Prelude.{◌≡◌, ℕ, ◌≤◌, List, length}
use Rattle.dk_cli.specs.declared.scan.Scan.{Scan}
use Rattle.dk_cli.specs.Input.{line_length, lines_begun}

pub record HasSeen (scan : Scan) (bytes : List ℕ) : Type 0 where
  pub size : scan.size ≡ length bytes
  pub line : scan.line ≡ line_length bytes
  pub lines : scan.lines ≡ lines_begun bytes

-- neither the lines nor the bytes of one are more than all bytes
pub record IsWithin (scan : Scan) : Type 0 where
  pub line : scan.line ≤ scan.size
  pub lines : scan.lines ≤ scan.size
