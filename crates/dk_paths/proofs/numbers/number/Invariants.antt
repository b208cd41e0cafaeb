-- What is read so far is the digits of the value.
use Rattle.std.proofs.Common.{◌≡◌, take}
use Rattle.std.specs.Str.Parse.{digits_value}
use Rattle.dk_paths.specs.Numbers.{digits}
use Rattle.dk_paths.proofs.numbers.number.Given as goal

abbrev pub invariant-loop-byte : goal.invariant-loop-byte
invariant-loop-byte l = record {
  spelled : digits l.byte-index l.value ≡ take l.byte-index l.text;
  value : l.value ≡ digits_value 10 (take l.byte-index l.text);
}
