-- The bytes of a hint that is written (Delta Lake's PROTOCOL.md, "Last Checkpoint File Schema", "JSON checksum").
use Rattle.std.specs.Prelude.{ℕ, ◌^◌, ◌<◌, ◌≤◌, List, Option, Some, None, IfSome, codes}
use Rattle.serde_json.specs.Data.{Data, number, unsigned, string, object, Members, no_members, member, put}
use Rattle.serde_json.specs.Written.{compact_text}
use Rattle.dk_hint.specs.declared.hint.Hint.{Hint}
use Rattle.dk_hint.specs.Spelled.{checksum_of}

-- ---- what can be written: counts from 0 to 9,223,372,036,854,775,807, parts from 1 to 4,294,967,295

abbrev pub IsCount : ℕ → Type 0
IsCount n = n < 2 ^ 63

abbrev pub IsPartCount : ℕ → Type 0
IsPartCount n = (1 ≤ n) × (n < 2 ^ 32)

pub record IsHint (h : Hint) : Type 0 where
  pub version : IsCount h.version
  pub size : IsCount h.size
  pub parts : IfSome h.parts IsPartCount
  pub adds : IfSome h.adds IsCount

-- ---- its object, the keys in byte order

abbrev pub member_if : List ℕ → Option ℕ → Members → Members
member_if key None ms = ms
member_if key (Some n) ms = member key (number (unsigned n)) ms

abbrev pub put_if : List ℕ → Option ℕ → Members → Members
put_if key None ms = ms
put_if key (Some n) ms = put key (number (unsigned n)) ms

-- all but the checksum
abbrev pub plain_members : Hint → Members
plain_members h =
    member_if (codes "numOfAddFiles") h.adds
    (member_if (codes "parts") h.parts
    (member (codes "size") (number (unsigned h.size))
    (member (codes "version") (number (unsigned h.version)) no_members)))

abbrev pub under_checksum : List ℕ → Members → Data
under_checksum sum ms = object (member (codes "checksum") (string sum) ms)

-- the checksum of the rest stands first
abbrev pub object_of_hint : Hint → Data
object_of_hint h = under_checksum (checksum_of (plain_members h)) (plain_members h)

-- its compact text
abbrev pub written_hint : Hint → List ℕ
written_hint h = compact_text (object_of_hint h)
