use Rattle.std.proofs.Common.{◌≡◌, drop}
use Rattle.serde_json.specs.View.{items_view}
use Rattle.dk_model.specs.Fields.{texts_of}
use Rattle.dk_actjson.proofs.Turns.{before}
use Rattle.dk_actjson.proofs.owned.read_names.Given as goal

-- the texts so far, and those of what is left
abbrev pub invariant-items : goal.invariant-items
invariant-items l = texts_of (items_view l.items.items) ≡ before l.list.items (texts_of (items_view (drop l.item-index l.items.items)))
