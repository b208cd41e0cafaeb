use Rattle.std.proofs.Common.{rules, ◌≡◌, ℕ, List, [], ◌∷◌, ◌++◌, map, Some, nat_cmp, sym, ap, subst, ◌∙◌, append-nil}
use Rattle.std.specs.Cmp.Lexicographic.{slice_cmp}
use Rattle.std.specs.List.Sorted.{IsStrictlySortedBy}
use Rattle.std.specs.FinMap.{entries}
use Rattle.dk_actjson.specs.Slots.{all_slots}
use Rattle.dk_actjson.proofs.Turns.{before, before-none}
use Rattle.dk_actjson.proofs.Slots.{rising_slots, slot_turn, keys_turn}
use Rattle.dk_actjson.proofs.borrowed.pairs_of_slots.Goals as goal

abbrev AreRising : List (List ℕ) → Type 0
AreRising ks = IsStrictlySortedBy (slice_cmp nat_cmp) ks

abbrev keys : {X : Type 0} → List (List ℕ × X) → List (List ℕ)
keys es = map (λ e. e.0) es

pub slots-init : goal.slots-init
slots-init c =
    let all = entries c.args.slots in
    let list = c.in_ok-list.list.items in
    let rest = c.into_iter-key-iterator.result in
    let none : list ≡ [] = search rules in
    let left : rest ≡ all = search rules in
    record {
      meant = before-none (all_slots all) ∙ ap (λ l. before l (all_slots all)) (sym none) ∙ ap (λ s. before list (all_slots s)) (sym left);
      rising = subst (λ l. AreRising (keys l ++ keys rest)) (sym none) (subst (λ s. AreRising (keys s)) (sym left) (rising_slots c.args.slots));
    }

pub slots-preserved : goal.slots-preserved
slots-preserved c =
    let list = c.slots.list.items in
    let rest = c.next.new.self in
    let step : c.slots.key-iterator ≡ (c.in-Some.key, Some c.in-Some-slot.text) ∷ rest = search rules in
    let now : c.push.new.self.items ≡ list ++ (c.in-Some.key, c.in-Some-slot.text) ∷ [] = search rules in
    record {
      meant = c.slots.invariant.meant ∙ ap (λ s. before list (all_slots s)) step ∙ slot_turn list c.in-Some.key c.in-Some-slot.text rest ∙ ap (λ l. before l (all_slots rest)) (sym now);
      rising = subst (λ l. AreRising (keys l ++ keys rest)) (sym now)
          (subst AreRising (keys_turn list c.in-Some.key c.in-Some-slot.text (keys rest)) (subst (λ s. AreRising (keys list ++ keys s)) step c.slots.invariant.rising));
    }

pub new-requires : goal.new-requires
new-requires c =
    let list = c.slots.list.items in
    let none : c.slots.key-iterator ≡ [] = search rules in
    subst AreRising (append-nil (keys list)) (subst (λ s. AreRising (keys list ++ keys s)) none c.slots.invariant.rising)
