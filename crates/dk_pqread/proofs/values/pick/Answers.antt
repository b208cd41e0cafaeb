use Rattle.std.proofs.Common.{Some, rules, ◌∷◌, [], ◌∙◌, get_or, map, slice_get, sym, ap}
use Rattle.std.proofs.lemmas.List.{map-append}
use Rattle.dk_pqmodel.specs.ColumnView.{value_of}
use Rattle.dk_pqread.proofs.Eaches.{each_missing, each_more, no_entry, entry_there}
use Rattle.dk_pqread.proofs.values.pick.Goals as goal

pub returns-in_default : goal.returns-in_default
returns-in_default c =
    each_missing (λ index. slice_get (map value_of c.args.entries.now) index) c.args.indices.now c.loop-index.index-index (map value_of c.loop-index.values.items) _ c.loop-index-test.true c.loop-index.invariant
    (no_entry value_of c.args.entries.now (get_or c.args.indices.now c.loop-index.index-index 0) c.in_default.ensures.lookup.3)

pub loop-index-preserved : goal.loop-index-preserved
loop-index-preserved c =
    each_more (λ index. slice_get (map value_of c.args.entries.now) index) c.args.indices.now c.loop-index.index-index (map value_of c.loop-index.values.items) _ c.loop-index-test.true c.loop-index.invariant
    (value_of c.in_ok-copy_value.field-0) (map value_of c.push.new.self.items)
    (entry_there value_of c.args.entries.now (get_or c.args.indices.now c.loop-index.index-index 0) c.in-Some.entry.now (search rules) c.in-Some.ensures.lookup.1 ∙ ap Some (sym c.in_ok-copy_value.ensures))
    (ap (map value_of) c.in_ok-push.ensures.items ∙ map-append value_of c.loop-index.values.items (c.in_ok-copy_value.field-0 ∷ []))
