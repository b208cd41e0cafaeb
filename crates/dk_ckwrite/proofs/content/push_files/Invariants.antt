use Rattle.std.proofs.Common.{◌≡◌, ◌++◌, map}
use Rattle.std.specs.FinMap as maps
use Rattle.dk_model.specs.Contents.{live_file}
use Rattle.dk_ckwrite.proofs.content.push_files.Given as goal

-- what is made, and what is left, is the whole
abbrev pub invariant-loop-path : goal.invariant-loop-path
invariant-loop-path l = l.out.items ++ map live_file l._path-iterator ≡ l.fn.out.items ++ map live_file (maps.entries l.files)
