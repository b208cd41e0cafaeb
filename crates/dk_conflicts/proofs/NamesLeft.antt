-- The names of actions, one action after the other.
use Rattle.std.proofs.Common.{◌≡◌, ℕ, ◌+◌, ◌<◌, List, ◌∷◌, Some, None, refl, drop, length, get_or}
use Rattle.dk_model.specs.declared.action.Action.{Action}
use Rattle.dk_model.proofs.NameSets.{at_item}
use Rattle.dk_conflicts.specs.declared.topic.Topic.{Topic}
use Rattle.dk_conflicts.specs.Conflicts.{name_on_topic, names_in}

-- the names of what is left, where the next action has one, and where it has none
pub names_some : (topic : Topic) (actions : List Action) (place : ℕ) (item : Action) (name : List ℕ) → place < length actions → item ≡ get_or actions place item
    → name_on_topic topic item ≡ Some name → names_in topic (drop place actions) ≡ name ∷ names_in topic (drop (place + 1) actions)
names_some topic actions place item name less is has = rw (at_item actions place item less is, has) refl

pub names_none : (topic : Topic) (actions : List Action) (place : ℕ) (item : Action) → place < length actions → item ≡ get_or actions place item
    → name_on_topic topic item ≡ None → names_in topic (drop place actions) ≡ names_in topic (drop (place + 1) actions)
names_none topic actions place item less is has = rw (at_item actions place item less is, has) refl
