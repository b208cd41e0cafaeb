-- A map of texts, read a member at a time: each key with its text or null, or with none where its value is neither.
use Rattle.std.specs.Prelude.{ℕ, List, [], ◌∷◌, Option, Some, option_map, option_and_then}
use Rattle.std.specs.Ordering.{nat_cmp}
use Rattle.std.specs.Cmp.Lexicographic.{slice_cmp}
use Rattle.std.specs.FinMap.{put}
use Rattle.json.specs.Json as json
use Rattle.dk_model.specs.Fields.{text_or_null}
use Rattle.dk_actjson.specs.Seen.{seen}

abbrev pub Slot : Type 0
Slot = List ℕ × Option (Option (List ℕ))

-- the slots after these members went in
abbrev pub slots_after : json.Members → List Slot → List Slot
slots_after json.no_members es = es
slots_after (json.member k j ms) es = slots_after ms (put (slice_cmp nat_cmp) k (text_or_null (seen j)) es)

-- the pairs of the slots, where each has a text or null
abbrev pub all_slots : List Slot → Option (List (List ℕ × Option (List ℕ)))
all_slots [] = Some []
all_slots (e ∷ es) = option_and_then (λ t. option_map (λ ps. (e.0, t) ∷ ps) (all_slots es)) e.1
