use Rattle.std.proofs.Common.{◌≡◌, take, drop}
use Rattle.std.specs.List.{AllByRecursion}
use Rattle.dk_model.specs.ReadBack.{IsSound}
use Rattle.dk_model.specs.Written.{text_of}
use Rattle.dk_actjson.proofs.write.write_actions.Given as goal

-- what is written is the text so far, and where the actions that are left are sound, all are
abbrev pub invariant-actions : goal.invariant-actions
invariant-actions l = record {
  text : l.text.items ≡ text_of (take l.action-index l.actions);
  sound : AllByRecursion IsSound (drop l.action-index l.actions) → AllByRecursion IsSound l.actions;
}
