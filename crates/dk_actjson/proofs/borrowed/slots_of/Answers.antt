use Rattle.std.proofs.Common.{rules, ◌≡◌, ◌+◌, [], ◌∷◌, drop, sym, ap, ◌∙◌}
use Rattle.std.proofs.lemmas.List.{drop_more}
use Rattle.std.specs.FinMap.{entries}
use Rattle.json.specs.Json as json
use Rattle.json.specs.Value.{value_view, members_view}
use Rattle.dk_model.specs.Fields.{text_or_null}
use Rattle.dk_actjson.specs.Seen.{seen}
use Rattle.dk_actjson.specs.Slots.{slots_after}
use Rattle.dk_actjson.proofs.Slots.{no_slots, inserted}
use Rattle.dk_actjson.proofs.borrowed.slots_of.Goals as goal

pub members-init : goal.members-init
members-init c =
    ap (slots_after (members_view c.deref-member-items.result.now)) (ap entries c.new-slots.ensures ∙ no_slots)
    ∙ ap (λ s. slots_after (members_view s) []) c.deref-member-items.ensures.value

pub members-preserved : goal.members-preserved
members-preserved c =
    let items = c.deref-member-items.result.now in
    let i = c.members.member-index in
    let m = c.member-item.result in
    let j = value_view m.1 in
    let rest = members_view (drop (i + 1) items) in
    let more : drop i items ≡ m ∷ drop (i + 1) items = drop_more items i m c.members-test.true ∙ ap (λ x. x ∷ drop (i + 1) items) (sym c.member-item.is) in
    let key : c.in_ok-key.key ≡ m.0.now = search rules in
    let slot : c.in_ok-slot.slot ≡ text_or_null (seen j) = search rules in
    inserted c.members.slots c.insert.new.self c.in_ok-key.key j c.in_ok-slot.slot rest slot c.in_ok-insert.ensures
    ∙ ap (λ k. slots_after (json.member k j rest) (entries c.members.slots)) key
    ∙ ap (λ s. slots_after (members_view s) (entries c.members.slots)) (sym more)
    ∙ c.members.invariant
