-- Another last version or another ending is another text.
use Rattle.std.proofs.Common.{sym, arith}
use Rattle.dk_paths.proofs.Spelled.{last_split, apart}
use Rattle.dk_paths.proofs.read.read_last.Goals as goal
use Rattle.dk_paths.proofs.read.read_last.Goals.{else-first-last-via-then-first-last+else-eq, else-first-last-via-else-first-last}

pub returns-else-first-last : goal.returns-else-first-last
returns-else-first-last c = λ last below small spelled.
    let read = c.in-Some.ensures in
    let same = last_split last c.in-Some.last c.in-Some.ending.now c.args.text.now small read.0 read.1 spelled in
    elim c.else-first-last.branch [
      | else-first-last-via-then-first-last+else-eq w ↦ apart _ _ w.eq.result w.eq.ensures w.if-eq.false (sym same.same_rest)
      | else-first-last-via-else-first-last w ↦ omega (arith, same.number)
    ]
