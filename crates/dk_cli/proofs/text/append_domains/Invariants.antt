use Rattle.std.proofs.Common.{◌≡◌, ◌++◌, map}
use Rattle.std.specs.FinMap as maps
use Rattle.dk_model.specs.Written.{text_of}
use Rattle.dk_model.specs.Contents.{configured}
use Rattle.dk_cli.proofs.text.append_domains.Given as goal

-- what is written, and the lines that are left, is the whole
abbrev pub invariant-loop-name : goal.invariant-loop-name
invariant-loop-name l = l.out.items ++ text_of (map configured l.name-iterator) ≡ l.fn.out.items ++ text_of (map configured (maps.entries l.domains))
