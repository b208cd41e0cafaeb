-- The data that a JSON value is read as, over the grammar of `json`. A number out of range has none, and `has_values` tells.
use Rattle.std.specs.Prelude.{Bool, true, ◌&&◌, Option, Some, None, is_some}
use Rattle.json.specs.Json as json
use Rattle.serde_json.specs.Data.{Num, unsigned, Data, null, boolean, number, string, array, object, Items, no_items, item, Members, no_members, put}
use Rattle.serde_json.specs.Read.{number_of}

-- a number out of range stands as 0
abbrev pub seen_number : Option Num → Data
seen_number None = number (unsigned 0)
seen_number (Some n) = number n

-- the members go in one after another, so the last value of a key stays
abbrev mutual
  pub seen : json.Json → Data
  seen json.null = null
  seen (json.boolean b) = boolean b
  seen (json.number s) = seen_number (number_of s)
  seen (json.string s) = string s
  seen (json.array js) = array (seen_items js)
  seen (json.object ms) = object (seen_members ms no_members)

  pub seen_items : json.Items → Items
  seen_items json.no_items = no_items
  seen_items (json.item j js) = item (seen j) (seen_items js)

  pub seen_members : json.Members → Members → Members
  seen_members json.no_members found = found
  seen_members (json.member k j ms) found = seen_members ms (put k (seen j) found)

-- each number is in range
abbrev mutual
  pub has_values : json.Json → Bool
  has_values json.null = true
  has_values (json.boolean b) = true
  has_values (json.number s) = is_some (number_of s)
  has_values (json.string s) = true
  has_values (json.array js) = items_have_values js
  has_values (json.object ms) = members_have_values ms

  pub items_have_values : json.Items → Bool
  items_have_values json.no_items = true
  items_have_values (json.item j js) = has_values j && items_have_values js

  pub members_have_values : json.Members → Bool
  members_have_values json.no_members = true
  members_have_values (json.member k j ms) = has_values j && members_have_values ms
