use Rattle.std.proofs.Common.{◌≡◌, ◌≤◌, ◌+◌, ◌-◌, ◌++◌, List, ℕ, length, take}
use Rattle.dk_cli.specs.Input.{first_passed_from}
use Rattle.dk_cli.specs.Seen.{HasSeen, IsWithin}
use Rattle.dk_cli.proofs.scan.Scan.look.Given as goal

-- what was seen so far, with which no limit is passed
abbrev pub invariant-loop-byte : goal.invariant-loop-byte
invariant-loop-byte l = record {
  within : IsWithin l.self;
  small : l.self.size ≤ l.limits.input;
  size : l.self.size ≡ l.initial.self.size + l.byte-index;
  seen : (bytes : List ℕ) → HasSeen l.initial.self bytes → HasSeen l.self (bytes ++ take l.byte-index l.piece);
  first : (bytes : List ℕ) → HasSeen l.initial.self bytes
      → first_passed_from l.limits (length bytes + l.byte-index) (length l.piece - l.byte-index) (bytes ++ l.piece) ≡ first_passed_from l.limits (length bytes) (length l.piece) (bytes ++ l.piece);
}
