-- What the bytes of a hint mean (Delta Lake's PROTOCOL.md, "Last Checkpoint File").
use Rattle.std.specs.Prelude.{ℕ, ◌^◌, List, Bool, true, false, ◌&&◌, Option, Some, None, option_map, option_and_then, nat_le, is_some, codes, if◌then◌else◌}
use Rattle.std.specs.Str.{is_utf8, bytes_eq}
use Rattle.hex.specs.Hex.{encode_lower}
use Rattle.md5.specs.Md5.{md5}
use Rattle.serde_json.specs.Data.{Data, null, boolean, number, string, array, object, Items, no_items, item, Members, no_members, member}
use Rattle.serde_json.specs.Find.{get, as_number, as_str, as_u64}
use Rattle.serde_json.specs.Read.{read}
use Rattle.dk_model.specs.Fields.{formed, count, whole, below}
use Rattle.dk_hint.specs.declared.hint.Hint.{Hint}
use Rattle.dk_hint.specs.Canonical.{canonical_text}

-- ---- the fields; null is a value of another form

-- from 1 to 4,294,967,295
abbrev pub part_count : Data → Option ℕ
part_count d = option_and_then (λ n. if nat_le 1 n then Some n else None) (option_and_then (below (2 ^ 32)) (option_and_then as_u64 (as_number d)))

abbrev pub hint_with : ℕ → ℕ → Option ℕ → Option ℕ → Hint
hint_with version size parts adds = record { version = version; size = size; parts = parts; adds = adds }

abbrev pub fields_of_hint : Data → Option Hint
fields_of_hint d =
    option_and_then (λ version.
    option_and_then (λ size.
    option_and_then (λ parts.
    option_map (hint_with version size parts) (formed count (get (codes "numOfAddFiles") d)))
    (formed part_count (get (codes "parts") d)))
    (option_and_then count (get (codes "size") d)))
    (option_and_then count (get (codes "version") d))

-- ---- the checksum

abbrev mutual
  -- each number is a whole one in the range of i64
  pub is_whole_throughout : Data → Bool
  is_whole_throughout null = true
  is_whole_throughout (boolean b) = true
  is_whole_throughout (number n) = is_some (whole (number n))
  is_whole_throughout (string s) = true
  is_whole_throughout (array ds) = are_whole ds
  is_whole_throughout (object ms) = members_are_whole ms

  pub are_whole : Items → Bool
  are_whole no_items = true
  are_whole (item d ds) = is_whole_throughout d && are_whole ds

  pub members_are_whole : Members → Bool
  members_are_whole no_members = true
  members_are_whole (member k d ms) = is_whole_throughout d && members_are_whole ms

-- 32 lower-case hexadecimal digits
unfoldable pub checksum_of : Members → List ℕ
checksum_of members = encode_lower (md5 (canonical_text members))

abbrev pub is_checksum : Members → Option (List ℕ) → Bool
is_checksum top None = false
is_checksum top (Some text) = members_are_whole top && bytes_eq text (checksum_of top)

-- where there is a checksum, it is that of the rest
abbrev pub agrees_with : Members → Option Data → Bool
agrees_with top None = true
agrees_with top (Some sum) = is_checksum top (as_str sum)

-- ---- the bytes

abbrev pub hint_in : Data → Option Hint
hint_in (object top) = if agrees_with top (get (codes "checksum") (object top)) then fields_of_hint (object top) else None
hint_in d = None

abbrev pub hint_in_text : List ℕ → Option Hint
hint_in_text text = option_and_then hint_in (read text)

abbrev pub hint_of : List ℕ → Option Hint
hint_of bytes = if is_utf8 bytes then hint_in_text bytes else None
