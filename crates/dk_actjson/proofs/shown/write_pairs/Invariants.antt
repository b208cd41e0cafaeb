use Rattle.std.proofs.Common.{◌≡◌, drop}
use Rattle.dk_actjson.specs.Tokens.{after_pairs}
use Rattle.dk_actjson.proofs.shown.write_pairs.Given as goal

abbrev pub invariant-pairs : goal.invariant-pairs
invariant-pairs l = record {
  before : l.writer.before ≡ l.fn.writer.before;
  tokens : after_pairs l.writer.tokens (drop l.pair-index l.pairs) ≡ after_pairs l.fn.writer.tokens l.pairs;
}
