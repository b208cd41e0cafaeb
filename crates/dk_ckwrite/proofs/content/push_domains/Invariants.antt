use Rattle.std.proofs.Common.{◌≡◌, ◌++◌, map}
use Rattle.std.specs.FinMap as maps
use Rattle.dk_model.specs.Contents.{configured}
use Rattle.dk_ckwrite.proofs.content.push_domains.Given as goal

-- what is made, and what is left, is the whole
abbrev pub invariant-loop-name : goal.invariant-loop-name
invariant-loop-name l = l.out.items ++ map configured l.name-iterator ≡ l.fn.out.items ++ map configured (maps.entries l.domains)
