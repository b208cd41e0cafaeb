use Rattle.std.proofs.Common.{◌≡◌, ◌++◌, string_bytes}
use Rattle.dk_hint.specs.Canonical.{behind_commas}
use Rattle.dk_hint.specs.Sorted.{key_texts}
use Rattle.dk_hint.proofs.sorting.behind_commas.Given as goal

-- what is written, and then the texts that are left, is the whole
abbrev pub invariant-texts : goal.invariant-texts
invariant-texts l = string_bytes l.out ++ behind_commas (key_texts l.text-iterator) ≡ behind_commas (key_texts l.fn.set.keys)
