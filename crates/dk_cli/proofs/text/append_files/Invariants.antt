use Rattle.std.proofs.Common.{◌≡◌, ◌++◌, map}
use Rattle.std.specs.FinMap as maps
use Rattle.dk_model.specs.Written.{text_of}
use Rattle.dk_model.specs.Contents.{live_file}
use Rattle.dk_cli.proofs.text.append_files.Given as goal

-- what is written, and the lines that are left, is the whole
abbrev pub invariant-loop-path : goal.invariant-loop-path
invariant-loop-path l = l.out.items ++ text_of (map live_file l._path-iterator) ≡ l.fn.out.items ++ text_of (map live_file (maps.entries l.files))
