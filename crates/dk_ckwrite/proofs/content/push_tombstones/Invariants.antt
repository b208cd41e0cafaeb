use Rattle.std.proofs.Common.{◌≡◌, ◌++◌, map}
use Rattle.std.specs.Prelude.{filter}
use Rattle.std.specs.FinMap as maps
use Rattle.dk_model.specs.Contents.{is_later, removal}
use Rattle.dk_ckwrite.proofs.content.push_tombstones.Given as goal

-- what is made, and what is left, is the whole
abbrev pub invariant-loop-path : goal.invariant-loop-path
invariant-loop-path l =
    l.out.items ++ map removal (filter (is_later l.cut) l.path-iterator) ≡ l.fn.out.items ++ map removal (filter (is_later l.cut) (maps.entries l.tombstones))
