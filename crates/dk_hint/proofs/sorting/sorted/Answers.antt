use Rattle.std.proofs.Common.{rules, ◌≡◌, ◌∷◌, ap, sym, ◌∙◌}
use Rattle.std.specs.Vec.Iter.{into_iter_items}
use Rattle.dk_hint.specs.Canonical.{put_sorted, sorted_onto}
use Rattle.dk_hint.specs.Sorted.{key_texts}
use Rattle.dk_hint.proofs.SortedKeys.{put_key}
use Rattle.dk_hint.proofs.sorting.sorted.Goals as goal

pub list-preserved : goal.list-preserved
list-preserved c =
    let steps : into_iter_items c.list.text-iterator ≡ c.in-Some.text ∷ into_iter_items c.next.new.self = search rules in
    ap (λ keys. sorted_onto (key_texts keys) (into_iter_items c.next.new.self)) c.in_ok-insert.ensures.keys
    ∙ ap (λ texts. sorted_onto texts (into_iter_items c.next.new.self)) (put_key c.list.set.keys c.into_string.result)
    ∙ ap (λ text. sorted_onto (put_sorted text (key_texts c.list.set.keys)) (into_iter_items c.next.new.self)) c.into_string.ensures
    ∙ sym (ap (sorted_onto (key_texts c.list.set.keys)) steps) ∙ c.list.invariant
