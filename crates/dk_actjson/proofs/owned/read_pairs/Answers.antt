use Rattle.std.proofs.Common.{◌≡◌, [], ◌∷◌, ◌++◌, string_bytes, sym, ap, subst, ◌∙◌, append-nil}
use Rattle.std.proofs.lemmas.Map.Iter.{rest_more, rest_all}
use Rattle.std.specs.Map.Iter.{deref_pair}
use Rattle.serde_json.specs.View.{members_view}
use Rattle.std.specs.Ordering.{nat_cmp}
use Rattle.std.specs.Cmp.Lexicographic.{slice_cmp}
use Rattle.std.specs.List.Sorted.{IsStrictlySortedBy}
use Rattle.dk_model.specs.Fields.{pairs_of}
use Rattle.dk_actjson.proofs.Turns.{before}
use Rattle.dk_actjson.proofs.Pairs.{pairs_turn, keys_turn, keys_of_pairs, keys_of_entries, rising_entries}
use Rattle.dk_actjson.proofs.owned.read_pairs.Goals as goal

pub members-preserved : goal.members-preserved
members-preserved c =
    let step = rest_more deref_pair _ _ _ (c.in-Some.name, c.in-Some.value) c.in-Some.is c.next.ensures.steps in
    let key : c.in_ok-key.key ≡ string_bytes c.in-Some.name.now = c.in_ok-key.ensures ∙ c.as_str.ensures.value in
    let now : c.push.new.self.items ≡ c.members.list.items ++ (string_bytes c.in-Some.name.now, c.in_ok-text.text) ∷ [] =
    c.in_ok-push.ensures.items ∙ ap (λ k. c.members.list.items ++ (k, c.in_ok-text.text) ∷ []) key in
    record {
      meant = c.members.invariant.meant ∙ ap (λ s. before c.members.list.items (pairs_of (members_view s))) step
          ∙ pairs_turn c.members.list.items c.next.new.self c.in-Some.name.now c.in-Some.value.now c.in_ok-text.text c.in_ok-text.ensures
          ∙ ap (λ l. before l (pairs_of (members_view c.next.new.self))) (sym now);
      keys = ap (λ l. keys_of_pairs l ++ keys_of_entries c.next.new.self) now
          ∙ keys_turn c.members.list.items c.next.new.self c.in-Some.name.now c.in-Some.value.now c.in_ok-text.text
          ∙ ap (λ s. keys_of_pairs c.members.list.items ++ keys_of_entries s) (sym step) ∙ c.members.invariant.keys;
    }

pub new-requires : goal.new-requires
new-requires c =
    let none = rest_all deref_pair _ _ _ c.in-None.is c.next.ensures.steps in
    let all : keys_of_pairs c.members.list.items ≡ keys_of_entries c.args.members.now.entries =
    sym (append-nil _) ∙ ap (λ s. keys_of_pairs c.members.list.items ++ keys_of_entries s) (sym none) ∙ c.members.invariant.keys in
    subst (IsStrictlySortedBy (slice_cmp nat_cmp)) (sym all) (rising_entries c.args.members.now.entries c.iter-name-items.ensures.ordered)
