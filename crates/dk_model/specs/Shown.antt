-- How the fields of a JSON object show their values.
use Rattle.std.specs.Prelude.{◌≡◌, ℕ, ℤ, List, [], ◌∷◌, map, Bool, Option, Some, None}
use Rattle.std.specs.List.{AllByRecursion}
use Rattle.serde_json.specs.Data.{Data, null, boolean, number, unsigned, string, array, object, Members, no_members, put}
use Rattle.serde_json.specs.Find.{of_integer}
use Rattle.serde_json.specs.View.{items_of}
use Rattle.dk_model.specs.Fields.{field}

-- ---- the forms

abbrev pub text_data : List ℕ → Data
text_data t = string t

abbrev pub whole_data : ℤ → Data
whole_data z = number (of_integer z)

abbrev pub version_data : ℕ → Data
version_data n = number (unsigned n)

abbrev pub flag_data : Bool → Data
flag_data b = boolean b

abbrev pub names_data : List (List ℕ) → Data
names_data ns = array (items_of (map string ns))

abbrev pub text_or_null_data : Option (List ℕ) → Data
text_or_null_data None = null
text_or_null_data (Some t) = string t

abbrev pub with_pairs : List (List ℕ × Option (List ℕ)) → Members → Members
with_pairs [] ms = ms
with_pairs (p ∷ ps) ms = with_pairs ps (put p.0 (text_or_null_data p.1) ms)

abbrev pub pairs_data : List (List ℕ × Option (List ℕ)) → Data
pairs_data ps = object (with_pairs ps no_members)

-- ---- tables of fields

-- a key, with its value where there is one
abbrev pub Field : Type 0
Field = List ℕ × Option Data

abbrev pub with_field : List ℕ → Option Data → Members → Members
with_field key None ms = ms
with_field key (Some d) ms = put key d ms

abbrev pub with_fields : List Field → Members → Members
with_fields [] ms = ms
with_fields (f ∷ fs) ms = with_fields fs (with_field f.0 f.1 ms)

-- the object with the fields that have a value, in the order of their keys
unfoldable pub object_with : List Field → Data
object_with fs = object (with_fields fs no_members)

-- each field stands in the object with its value, or is absent where it has none
abbrev pub Shows : List Field → Data → Type 0
Shows fs d = AllByRecursion (λ f. field f.0 d ≡ f.1) fs
