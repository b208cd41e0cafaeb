use Rattle.std.proofs.Common.{◌≡◌, drop}
use Rattle.dk_actjson.specs.Tokens.{after_names}
use Rattle.dk_actjson.proofs.shown.write_names.Given as goal

abbrev pub invariant-names : goal.invariant-names
invariant-names l = record {
  before : l.writer.before ≡ l.fn.writer.before;
  tokens : after_names l.writer.tokens (drop l.name-index l.names) ≡ after_names l.fn.writer.tokens l.names;
}
