use Rattle.std.proofs.Common.{◌≡◌, drop}
use Rattle.json.specs.Value.{items_view}
use Rattle.dk_model.specs.Fields.{texts_of}
use Rattle.dk_actjson.specs.Seen.{seen_items}
use Rattle.dk_actjson.proofs.Turns.{before}
use Rattle.dk_actjson.proofs.borrowed.read_names.Given as goal

-- the texts so far, and those of what is left
abbrev pub invariant-items : goal.invariant-items
invariant-items l = texts_of (seen_items (items_view l.items.items)) ≡ before l.list.items (texts_of (seen_items (items_view (drop l.item-index l.items.items))))
