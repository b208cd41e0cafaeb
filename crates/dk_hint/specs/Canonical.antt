-- The canonical text of a JSON object (Delta Lake's PROTOCOL.md, "JSON checksum"): each plain value under its path, sorted by the bytes.
use Rattle.std.specs.Prelude.{ℕ, ℤ, ◌+◌, List, [], ◌∷◌, ◌++◌, drop, Bool, Option, Some, None, codes, decimal, if◌then◌else◌}
use Rattle.std.specs.Ordering.{nat_cmp, match_ordering}
use Rattle.std.specs.Cmp.Lexicographic.{slice_cmp}
use Rattle.std.specs.Fmt.{signed_decimal}
use Rattle.std.specs.Str.{bytes_eq}
use Rattle.percent_encoding.specs.declared.ascii_set.AsciiSet.{AsciiSet}
use Rattle.percent_encoding.specs.Percent.{percent_encode}
use Rattle.serde_json.specs.Data.{Data, null, boolean, number, string, array, object, Items, no_items, item, Members, no_members, member}
use Rattle.dk_model.specs.Fields.{whole}

-- ---- texts between quotes

-- every ASCII byte but the letters, the digits and - . _ ~
abbrev pub escaped_set : AsciiSet
escaped_set = record { mask = 244577951340790884343731678625228914687 }

abbrev pub quoted : List ℕ → List ℕ
quoted text = (codes "\"" ++ percent_encode escaped_set text) ++ codes "\""

-- ---- paths and their values

-- one step further along a path
abbrev pub along : List ℕ → List ℕ → List ℕ
along path step = (path ++ codes "+") ++ step

abbrev pub canonical_pair : List ℕ → List ℕ → List ℕ
canonical_pair path value = (path ++ codes "=") ++ value

-- one that isn't whole has no text: a hint with such a number and a checksum isn't read
abbrev pub whole_number_text : Option ℤ → List ℕ
whole_number_text None = codes ""
whole_number_text (Some n) = signed_decimal n

abbrev pub flag_text : Bool → List ℕ
flag_text flag = if flag then codes "true" else codes "false"

abbrev mutual
  -- the pairs of a value that stands at a path
  pub pairs_at : List ℕ → Data → List (List ℕ)
  pairs_at path null = canonical_pair path (codes "null") ∷ []
  pairs_at path (boolean flag) = canonical_pair path (flag_text flag) ∷ []
  pairs_at path (number n) = canonical_pair path (whole_number_text (whole (number n))) ∷ []
  pairs_at path (string s) = canonical_pair path (quoted s) ∷ []
  pairs_at path (array ds) = pairs_from path 0 ds
  pairs_at path (object ms) = pairs_under path ms

  pub pairs_from : List ℕ → ℕ → Items → List (List ℕ)
  pairs_from path place no_items = []
  pairs_from path place (item d ds) = pairs_at (along path (decimal place)) d ++ pairs_from path (place + 1) ds

  pub pairs_under : List ℕ → Members → List (List ℕ)
  pairs_under path no_members = []
  pairs_under path (member k d ms) = pairs_at (along path (quoted k)) d ++ pairs_under path ms

abbrev pub is_checksum_key : List ℕ → Bool
is_checksum_key key = bytes_eq key (codes "checksum")

-- those of an object, but for its checksum
abbrev pub top_pairs : Members → List (List ℕ)
top_pairs no_members = []
top_pairs (member k d ms) = if is_checksum_key k then top_pairs ms else pairs_at (quoted k) d ++ top_pairs ms

-- ---- the text

-- at its place by the bytes
abbrev pub put_sorted : List ℕ → List (List ℕ) → List (List ℕ)
put_sorted pair [] = pair ∷ []
put_sorted pair (p ∷ ps) = match_ordering (slice_cmp nat_cmp pair p) (pair ∷ p ∷ ps) (p ∷ ps) (p ∷ put_sorted pair ps)

abbrev pub sorted_onto : List (List ℕ) → List (List ℕ) → List (List ℕ)
sorted_onto sorted [] = sorted
sorted_onto sorted (p ∷ ps) = sorted_onto (put_sorted p sorted) ps

abbrev pub behind_commas : List (List ℕ) → List ℕ
behind_commas [] = []
behind_commas (p ∷ ps) = codes "," ++ (p ++ behind_commas ps)

-- with commas between them
abbrev pub canonical_text : Members → List ℕ
canonical_text members = drop 1 (behind_commas (sorted_onto [] (top_pairs members)))
