use Rattle.std.proofs.Common.{◌≡◌, drop}
use Rattle.dk_model.specs.ActionObject.{one_key}
use Rattle.dk_actjson.proofs.Keys.{with_key}
use Rattle.dk_actjson.proofs.action.read_key.Given as goal

-- the key so far, and the answer of those that are left
abbrev pub invariant-keys : goal.invariant-keys
invariant-keys g l = with_key l.found (one_key (g.T.Tree.meant l.object) (drop l.key-index l.keys)) ≡ one_key (g.T.Tree.meant l.object) l.keys
