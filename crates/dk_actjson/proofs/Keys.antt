-- The loop that looks for the key of an action.
use Rattle.std.proofs.Common.{Option, Some, None}
use Rattle.dk_model.specs.declared.action_key.ActionKey.{ActionKey}
use Rattle.dk_model.specs.ActionObject.{joined}

abbrev pub with_key : Option ActionKey → Option (Option ActionKey) → Option (Option ActionKey)
with_key None rest = rest
with_key (Some k) rest = joined k rest
