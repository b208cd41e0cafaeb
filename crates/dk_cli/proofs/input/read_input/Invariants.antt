use Rattle.std.proofs.Common.{◌≡◌, ◌≤◌, ◌-◌, ◌+◌, None, vec_len}
use Rattle.dk_store.specs.Stream.{before}
use Rattle.dk_cli.specs.Input.{first_passed}
use Rattle.dk_cli.specs.Seen.{HasSeen, IsWithin}
use Rattle.dk_cli.proofs.input.read_input.Given as goal

-- what was taken, and then what is left, is what was left at first; it was all seen, and passes no limit
abbrev pub invariant-reading : goal.invariant-reading
invariant-reading g l = record {
  small : vec_len l.bytes ≤ l.limits.input;
  left : (g.I.Source.source_seen l.initial.input).left ≡ before l.bytes.items (g.I.Source.source_seen l.input).left;
  later : (g.I.Source.source_seen l.initial.input).faults ≤ (g.I.Source.source_seen l.input).faults;
  seen : HasSeen l.scan l.bytes.items;
  within : IsWithin l.scan;
  none : first_passed l.limits l.bytes.items ≡ None;
}

abbrev pub decreases-reading : goal.decreases-reading
decreases-reading g l = l.limits.input + 1 - vec_len l.bytes
