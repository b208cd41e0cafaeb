-- The names of the log's own folder: how each is spelled, which numbers it may have, and what a text names.
use Rattle.std.specs.Prelude.{◌≡◌, ℕ, ◌^◌, ◌<◌, ◌≤◌, ◌==◌, ◌&&◌, nat_lt, nat_le, Bool, true, false, Option, MatchOption, List, ◌++◌, length, if◌then◌else◌, codes}
use Rattle.std.specs.Str.{bytes_eq}
use Rattle.dk_paths.specs.declared.log_name.LogName.{LogName}
use Rattle.dk_paths.specs.declared.log_name.LogName.TheVariants.{Commit, Classic, Part, V2Json, V2Parquet, Compacted, Hint, Other}
use Rattle.dk_paths.specs.Numbers.{version_text, part_text, id_text, digits_at, uuid_at}

-- the name of a version's commit
abbrev pub commit_name : ℕ → List ℕ
commit_name version = version_text version ++ codes ".json"

-- the path of a version's commit
abbrev pub commit_path : ℕ → List ℕ
commit_path version = codes "_delta_log/" ++ commit_name version

-- a part number and the count of parts
abbrev pub part_pair : ℕ → ℕ → List ℕ
part_pair part parts = part_text part ++ (codes "." ++ part_text parts)

-- how a name is written
abbrev pub spelling : LogName → List ℕ
spelling (Commit version) = commit_name version
spelling (Classic version) = version_text version ++ (codes ".checkpoint." ++ codes "parquet")
spelling (Part version part parts) = version_text version ++ (codes ".checkpoint." ++ (part_pair part parts ++ codes ".parquet"))
spelling (V2Json version id) = version_text version ++ (codes ".checkpoint." ++ (id_text id ++ codes ".json"))
spelling (V2Parquet version id) = version_text version ++ (codes ".checkpoint." ++ (id_text id ++ codes ".parquet"))
spelling (Compacted first last) = version_text first ++ (codes "." ++ (version_text last ++ codes ".compacted.json"))
spelling Hint = codes "_last_checkpoint"
spelling Other = codes ""

-- a part is one of its checkpoint's parts, which are counted from 1
pub record IsPart (part parts : ℕ) : Type 0 where
  pub first : 1 ≤ part
  pub last : part ≤ parts
  pub small : parts < 2 ^ 32

-- the numbers that a name may have: versions of 63 bits, part numbers of 32 and UUIDs of 128
abbrev pub IsName : LogName → Type 0
IsName (Commit version) = version < 2 ^ 63
IsName (Classic version) = version < 2 ^ 63
IsName (Part version part parts) = (version < 2 ^ 63) × IsPart part parts
IsName (V2Json version id) = (version < 2 ^ 63) × (id < 2 ^ 128)
IsName (V2Parquet version id) = (version < 2 ^ 63) × (id < 2 ^ 128)
IsName (Compacted first last) = (first < last) × (last < 2 ^ 63)
IsName Hint = Unit {0}
IsName Other = ⊥

-- what a name's text says: it is the spelling of that name, or of none
abbrev pub IsNameOf : List ℕ → LogName → Type 0
IsNameOf text Other = (name : LogName) → IsName name → spelling name ≡ text → ⊥
IsNameOf text name = IsName name × (spelling name ≡ text)

-- each name that is written so is read as itself
abbrev pub IsReadBack : List ℕ → LogName → Type 0
IsReadBack text found = (name : LogName) → IsName name → spelling name ≡ text → found ≡ name

-- whether a name has numbers that it may have
abbrev pub is_name : LogName → Bool
is_name (Commit version) = nat_lt version (2 ^ 63)
is_name (Classic version) = nat_lt version (2 ^ 63)
is_name (Part version part parts) = nat_lt version (2 ^ 63) && (nat_le 1 part && (nat_le part parts && nat_lt parts (2 ^ 32)))
is_name (V2Json version id) = nat_lt version (2 ^ 63) && nat_lt id (2 ^ 128)
is_name (V2Parquet version id) = nat_lt version (2 ^ 63) && nat_lt id (2 ^ 128)
is_name (Compacted first last) = nat_lt first last && nat_lt last (2 ^ 63)
is_name Hint = true
is_name Other = false

-- the one name that a text of this length can be, with the numbers that stand where its spelling has them
abbrev pub candidate : ℕ → List ℕ → LogName
candidate length text =
    if length == 16 then Hint
    else if length == 25 then Commit (digits_at 0 20 text)
    else if length == 39 then Classic (digits_at 0 20 text)
    else if length == 56 then Compacted (digits_at 0 20 text) (digits_at 21 20 text)
    else if length == 61 then Part (digits_at 0 20 text) (digits_at 32 10 text) (digits_at 43 10 text)
    else if length == 73 then V2Json (digits_at 0 20 text) (uuid_at 32 text)
    else if length == 76 then V2Parquet (digits_at 0 20 text) (uuid_at 32 text)
    else Other

-- a name, where a text is its spelling and its numbers are allowed
abbrev pub if_spelled : LogName → List ℕ → LogName
if_spelled name text = if is_name name && bytes_eq (spelling name) text then name else Other

-- what a text names
unfoldable pub log_name_of : List ℕ → LogName
log_name_of text = if_spelled (candidate (length text) text) text

-- a whole text that is a part number and the count of parts, or none
abbrev pub ReadsPart : List ℕ → Option (ℕ × ℕ) → Type 0
ReadsPart text found = MatchOption found
    ((part parts : ℕ) → IsPart part parts → part_pair part parts ≡ text → ⊥)
    (λ pair. IsPart pair.0 pair.1 × (part_pair pair.0 pair.1 ≡ text))

-- a text that ends the name of a compacted file that begins at `first`, or none
abbrev pub ReadsLast : ℕ → List ℕ → Option ℕ → Type 0
ReadsLast first text found = MatchOption found
    ((last : ℕ) → first < last → last < 2 ^ 63 → version_text last ++ codes ".compacted.json" ≡ text → ⊥)
    (λ last. (first < last) × (last < 2 ^ 63) × (version_text last ++ codes ".compacted.json" ≡ text))
