use Rattle.std.proofs.Common.{◌≡◌, ◌++◌, map, string_bytes}
use Rattle.serde_json.specs.View.{members_view}
use Rattle.dk_model.specs.Fields.{pairs_of}
use Rattle.dk_actjson.proofs.Turns.{before}
use Rattle.dk_actjson.proofs.owned.read_pairs.Given as goal

-- the pairs so far, and those of what is left
abbrev pub invariant-members : goal.invariant-members
invariant-members l = record {
  meant : pairs_of (members_view l.members.entries) ≡ before l.list.items (pairs_of (members_view l.name-iterator));
  keys : map (λ p. p.0) l.list.items ++ map (λ e. string_bytes e.0) l.name-iterator ≡ map (λ e. string_bytes e.0) l.members.entries;
}
